-- What a claim says on a scale: its result is the hull of the exact outcomes, or its verdict allows exactly the truths that occur. Assumes nothing.
use Rattle.std.specs.Prelude.{Bool, ℤ}
use Rattle.number.specs.Number.{Number}
use Rattle.number.specs.Place.{Place, Sums, Products, Quotients}
use Rattle.range.specs.Held.{Holds}
use Rattle.range.specs.Hull.{Hull}
use Rattle.range.specs.Outcomes.{Squares, Quotients⁻, Quotients⁺}
use Rattle.range.specs.Truths.{Exactly, Comparisons}
use Rattle.range.specs.Truths as truths
use Rattle.range.specs.Entries.{Admitted}
use Rattle.range.specs.Worked.{Binary}
use Rattle.examples.specs.declared.Operation.{Operation}
use Rattle.examples.specs.declared.Operation.TheVariants.{Added, Multiplied, Squared, Divided, DividedNegative, DividedPositive}
use Rattle.examples.specs.declared.Comparison.{Comparison}
use Rattle.examples.specs.declared.Comparison.TheVariants.{Less, AtMost}
use Rattle.examples.specs.declared.Claim.{Claim}
use Rattle.examples.specs.declared.Claim.TheVariants.{Enters, Works, Compares}

abbrev pub outcomes : Operation → (Number → Type 0) → (Number → Type 0) → Number → Type 0
outcomes Added X Y = Sums X Y
outcomes Multiplied X Y = Products X Y
outcomes Squared X Y = Squares Y
outcomes Divided X Y = Quotients X Y
outcomes DividedNegative X Y = Quotients⁻ X Y
outcomes DividedPositive X Y = Quotients⁺ X Y

abbrev pub compared : Comparison → Number → Number → Bool → Type 0
compared Less = truths.Less
compared AtMost = truths.IsAtMost

abbrev pub Claims : (ℤ → Place) → Claim → Type 0
Claims p (Enters e r) = Hull p (Admitted e) r
Claims p (Works o x y r) = Binary p (outcomes o) x y r
Claims p (Compares c x y v) = Exactly (Comparisons (compared c) (Holds p x) (Holds p y)) v
