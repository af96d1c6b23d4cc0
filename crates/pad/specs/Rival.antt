-- A rival: any other working of the pad's calls on a coarser ordered scale, with wider entries, that never puts less than all outcomes on its own operands. Assumes nothing.
--     loosest         its reading of a sheet: any range and any verdict that holds all outcomes
--     RivalDoes      what it does at a call that the pad accepts
use Rattle.std.specs.Prelude.{◌≡◌, ℕ, Bool, ℤ, None}
use Rattle.number.specs.Number.{Number}
use Rattle.number.specs.Place.{Place}
use Rattle.scale.specs.Scale.{Code}
use Rattle.range.specs.declared.entry.Entry.{Entry}
use Rattle.range.specs.declared.range.Range.{Range}
use Rattle.range.specs.Entries.{Admitted}
use Rattle.range.specs.Held.{Holds}
use Rattle.range.specs.Truths.{Allows}
use Rattle.sheet.specs.Held.{instructions_of}
use Rattle.pad.specs.declared.board.Board.{Board}
use Rattle.pad.specs.Admission.{enter_refusal}
use Rattle.pad.specs.Boards.{fresh, with_line}
use Rattle.pad.specs.Calls.{Call, enter, work, show_line, show_flag, wipe}
use Rattle.pad.specs.Working.{Reading, Works}

-- a range with any two codes as ends that holds every number of a set
pub record Encloses (q : ℤ → Place) (S : Number → Type 0) (r : Range) : Type 0 where
  pub lower_code : Code r.lower
  pub upper_code : Code r.upper
  pub all : (x : Number) → S x → Holds q r x

abbrev pub loosest : (ℤ → Place) → Reading
loosest q = record { places = q; Put = Encloses q; PutVerdict = λ T v. (b : Bool) → T b → Allows v b }

-- f may stand for the accepted entry e into the line a: it is accepted too, and its bounds contain those of e; for a blank, any accepted entry may
pub record Wider (a : ℕ) (e f : Entry) : Type 0 where
  pub accepted : enter_refusal a f ≡ None
  pub contains : (x : Number) → Admitted e x → Admitted f x

abbrev pub RivalDoes : (ℤ → Place) → Call → Board → Board → Type 0
RivalDoes q (enter a e) b c = (f : Entry) × Wider a e f × (r : Range) × Encloses q (Admitted f) r × (c ≡ with_line b a r)
RivalDoes q (work s m n) b c = Works (loosest q) (instructions_of s) b c
RivalDoes q (show_line a) b c = c ≡ b
RivalDoes q (show_flag a) b c = c ≡ b
RivalDoes q wipe b c = c ≡ fresh
