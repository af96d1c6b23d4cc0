-- Why there is no text: the first rule that the input breaks, or want of memory, of which nothing is said. Assumes nothing.
use Rattle.std.specs.Prelude.{◌≡◌, ℕ, List, Some, Option}
use Rattle.fault.specs.declared.Refusal.{Refusal}
use Rattle.program.specs.declared.stop.Stop.{Stop}
use Rattle.program.specs.declared.stop.Stop.TheVariants.{Fault, Memory}
use Rattle.program.specs.Faults.{program_refusal}
use Rattle.program.specs.Text.{refusal_text}

-- a stop where this is the first refusal
abbrev pub Stopped : Option Refusal → Stop → Type 0
Stopped o (Fault f) = o ≡ Some (program_refusal f)
Stopped o (Memory e) = Unit {0}

-- what is printed of a stop: nothing where memory is wanting
abbrev pub StopText : Stop → List ℕ → Type 0
StopText (Fault f) t = t ≡ refusal_text (program_refusal f)
StopText (Memory e) t = ⊥
