-- What is printed for an input, or the first refusal alone. Assumes nothing.
--     Prints          a line for each entry, on the ruled scale with division 100
--     PrintsBoard     the board that the entries and the sheet come to, on that scale
use Rattle.std.specs.Prelude.{◌≡◌, ℕ, List, ℤ, Some, None, Option}
use Rattle.fault.specs.declared.Refusal.{Refusal}
use Rattle.number.specs.Place.{Place}
use Rattle.scale.specs.declared.ruled.RuledScale.{RuledScale}
use Rattle.scale.specs.Ruled.{on_ruled}
use Rattle.range.specs.declared.range.Range.{Range}
use Rattle.range.specs.Hull.{Hull}
use Rattle.range.specs.Entries.{Admitted}
use Rattle.pad.specs.declared.board.Board.{Board}
use Rattle.program.specs.Input.{count_of, line_of, entry_of}
use Rattle.program.specs.Refusals.{entries_refusal, input_refusal}
use Rattle.program.specs.Text.{codes_of, line_text, Joined, BoardText, refusal_text}
use Rattle.program.specs.Entered.{ComesTo}

-- u is the text of the entry i
abbrev pub EntryText : (ℤ → Place) → List ℕ → ℕ → List ℕ → Type 0
EntryText p bs i u = (r : Range) × Hull p (Admitted (entry_of bs i)) r × (u ≡ line_text p (line_of bs i) (codes_of r))

-- t is the text of all entries
pub record AllLines (bs t : List ℕ) : Type 0 where
  pub scale : RuledScale
  pub division : scale.division ≡ 100
  pub lines : Joined (EntryText (on_ruled scale) bs) (count_of bs) t

-- t is the text of the board that the input comes to
pub record LastBoard (bs t : List ℕ) : Type 0 where
  pub scale : RuledScale
  pub division : scale.division ≡ 100
  pub board : Board
  pub comes_to : ComesTo (on_ruled scale) bs board
  pub text : BoardText (on_ruled scale) board t

-- the refusal, or what is asked where there is none
abbrev pub PrintsBy : Option Refusal → (List ℕ → Type 0) → List ℕ → Type 0
PrintsBy (Some f) P t = t ≡ refusal_text f
PrintsBy None P t = P t

abbrev pub Prints : List ℕ → List ℕ → Type 0
Prints bs t = PrintsBy (entries_refusal bs) (AllLines bs) t

abbrev pub PrintsBoard : List ℕ → List ℕ → Type 0
PrintsBoard bs t = PrintsBy (input_refusal bs) (LastBoard bs) t
