-- The calls of a pad: which rule each breaks first, and what it does where it breaks none. A refusal depends on no scale. Assumes nothing.
--     refusal_at      the first rule that a call breaks on a board
--     Does            what a call answers and leaves on the board, on a scale with these places
use Rattle.std.specs.Prelude.{◌≡◌, ℕ, Bool, List, ℤ, Some, None, Ok, Err, Option, Result}
use Rattle.fault.specs.declared.Refusal.{Refusal}
use Rattle.number.specs.Number.{Number}
use Rattle.number.specs.Place.{Place, Inhabited}
use Rattle.range.specs.declared.entry.Entry.{Entry}
use Rattle.range.specs.declared.range.Range.{Range}
use Rattle.range.specs.declared.verdict.Verdict.{Verdict}
use Rattle.range.specs.Entries.{Admitted}
use Rattle.range.specs.Held.{Holds}
use Rattle.range.specs.Hull.{Hull}
use Rattle.sheet.specs.declared.sheet.ClearedSheet.{ClearedSheet}
use Rattle.sheet.specs.Held.{instructions_of}
use Rattle.pad.specs.declared.board.Board.{Board}
use Rattle.pad.specs.declared.faults.PadFault.{PadFault}
use Rattle.pad.specs.Admission.{enter_refusal}
use Rattle.pad.specs.Boards.{fresh, line_at, flag_at, lines_set, flags_set, with_line}
use Rattle.pad.specs.Faults.{pad_refusal}
use Rattle.pad.specs.Refusals.{show_line_refusal, show_flag_refusal, work_refusal}
use Rattle.pad.specs.Working.{Works, tightest}

-- the numbers with a sheet are its slots for ranges and for verdicts
pub data Call : Type 0 where
  enter : ℕ → Entry → Call
  work : ClearedSheet → ℕ → ℕ → Call
  show_line : ℕ → Call
  show_flag : ℕ → Call
  wipe : Call

pub data Answer : Type 0 where
  done : Answer
  line_shown : Option Range → Answer
  flag_shown : Verdict → Answer
  refused : Refusal → Answer

-- the first rule that a call breaks, from which lines and flags are set
abbrev pub refusal : Call → List Bool → List Bool → Option Refusal
refusal (enter a e) lines flags = enter_refusal a e
refusal (work s m n) lines flags = work_refusal (instructions_of s) lines m n
refusal (show_line a) lines flags = show_line_refusal a lines
refusal (show_flag a) lines flags = show_flag_refusal a flags
refusal wipe lines flags = None

abbrev pub refusal_at : Call → Board → Option Refusal
refusal_at call b = refusal call (lines_set b) (flags_set b)

-- what is shown of a range: its codes, or nothing where it is blank
abbrev pub Shown : (ℤ → Place) → Range → Option Range → Type 0
Shown p r None = (x : Number) → Holds p r x → ⊥
Shown p r (Some q) = (q ≡ r) × Inhabited (Holds p r)

-- what a call does where it breaks no rule
abbrev pub Accepted : (ℤ → Place) → Call → Board → Answer → Board → Type 0
Accepted p (enter a e) b ans c = (r : Range) × Hull p (Admitted e) r × (ans ≡ done) × (c ≡ with_line b a r)
Accepted p (work s m n) b ans c = (ans ≡ done) × Works (tightest p) (instructions_of s) b c
Accepted p (show_line a) b ans c = (r : Range) × (o : Option Range) × (line_at b a ≡ Some r) × Shown p r o × (ans ≡ line_shown o) × (c ≡ b)
Accepted p (show_flag a) b ans c = (v : Verdict) × (flag_at b a ≡ Some v) × (ans ≡ flag_shown v) × (c ≡ b)
Accepted p wipe b ans c = (ans ≡ done) × (c ≡ fresh)

-- a call that breaks a rule is refused, and changes nothing
abbrev pub DoesBy : (ℤ → Place) → Option Refusal → Call → Board → Answer → Board → Type 0
DoesBy p (Some f) call b ans c = (ans ≡ refused f) × (c ≡ b)
DoesBy p None call b ans c = Accepted p call b ans c

abbrev pub Does : (ℤ → Place) → Call → Board → Answer → Board → Type 0
Does p call b ans c = DoesBy p (refusal_at call b) call b ans c

-- a call's result in the code, as an answer
abbrev pub answer : {A : Type 0} → (A → Answer) → Result A PadFault → Answer
answer f (Ok x) = f x
answer f (Err e) = refused (pad_refusal e)
