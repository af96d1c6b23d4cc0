-- The board that an input comes to. Assumes nothing.
use Rattle.std.specs.Prelude.{◌≡◌, ℕ, zero, suc, List, ℤ}
use Rattle.number.specs.Place.{Place}
use Rattle.sheet.specs.Instructions.{instructions}
use Rattle.pad.specs.declared.board.Board.{Board}
use Rattle.pad.specs.Boards.{fresh}
use Rattle.pad.specs.Calls.{Accepted, enter, done}
use Rattle.pad.specs.Working.{Works, tightest}
use Rattle.program.specs.Input.{count_of, line_of, entry_of, sheet_of}

-- the board after the first n entries, from a new one on
abbrev pub Entered : (ℤ → Place) → List ℕ → ℕ → Board → Type 0
Entered p bs zero b = b ≡ fresh
Entered p bs (suc i) c = (b : Board) × Entered p bs i b × Accepted p (enter (line_of bs i) (entry_of bs i)) b done c

-- the board after all entries and the sheet
pub record ComesTo (p : ℤ → Place) (bs : List ℕ) (c : Board) : Type 0 where
  pub entered : Board
  pub entries : Entered p bs (count_of bs) entered
  pub sheet : Works (tightest p) (instructions (sheet_of bs)) entered c
