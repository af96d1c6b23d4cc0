-- The working space: two lists of slots, for the pile of ranges and for that of verdicts. Assumes nothing.
use Rattle.std.specs.Prelude.{◌≡◌, List, length, replicate, Ok, Err, Result}
use Rattle.range.specs.declared.range.Range.{Range}
use Rattle.range.specs.declared.verdict.Verdict.{Verdict}
use Rattle.range.specs.declared.verdict.Verdict.TheVariants.{Void}
use Rattle.range.specs.Held.{nothing}

-- what the slots hold after work: a blank or a void in each where it is accepted, and what they held where it is refused
abbrev pub Left : {A F : Type 0} → Result A F → List Range → List Verdict → List Range → List Verdict → Type 0
Left (Ok x) rs vs rs' vs' = (rs' ≡ replicate (length rs) nothing) × (vs' ≡ replicate (length vs) Void)
Left (Err f) rs vs rs' vs' = (rs' ≡ rs) × (vs' ≡ vs)
