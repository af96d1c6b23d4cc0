-- What a pile and the board have to offer to the next instruction. Assumes nothing.
use Rattle.std.specs.Prelude.{◌≡◌, ℕ, ◌≤◌, true, length, is_some}
use Rattle.sheet.specs.declared.instruction.Instruction.{Instruction}
use Rattle.sheet.specs.declared.instruction.Instruction.TheVariants.{Line, Keep, Flag}
use Rattle.sheet.specs.declared.operation.Move.{Move}
use Rattle.sheet.specs.Depths.{after}
use Rattle.sheet.specs.Instructions.{operation}
use Rattle.sheet.specs.Operations.{shape}
use Rattle.pad.specs.declared.board.Board.{Board}
use Rattle.pad.specs.declared.working.Machine.{Machine}
use Rattle.pad.specs.Boards.{line_at}

-- a pile that holds so many, with room for so many, has what is taken and room for what is put
abbrev pub AllowsMove : Move → ℕ → ℕ → Type 0
AllowsMove m held room = (m.takes ≤ held) × (after m held ≤ room)

-- the line or flag is there, and a line that is put is set
pub record NamesCell (x : Instruction) (b : Board) : Type 0 where
  pub line : (a : ℕ) → x ≡ Line a → a ≤ 31
  pub set : (a : ℕ) → x ≡ Line a → is_some (line_at b a) ≡ true
  pub keep : (a : ℕ) → x ≡ Keep a → a ≤ 31
  pub flag : (a : ℕ) → x ≡ Flag a → a ≤ 31

-- nothing is wanting for the instruction
pub record Ready {S : Type 0} (x : Instruction) (m : Machine S) (b : Board) : Type 0 where
  pub ranges : AllowsMove (shape (operation x)).ranges (length m.ranges.held) m.ranges.room
  pub verdicts : AllowsMove (shape (operation x)).verdicts (length m.verdicts.held) m.verdicts.room
  pub cell : NamesCell x b
