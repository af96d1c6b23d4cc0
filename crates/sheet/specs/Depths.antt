-- How deep the piles are as the instructions are worked in turn, from empty piles. Assumes nothing.
use Rattle.std.specs.Prelude.{ℕ, zero, suc, ◌+◌, ◌-◌, max, List, length, Some, None, Option}
use Rattle.std.specs.List.{slice_get}
use Rattle.sheet.specs.declared.instruction.Instruction.{Instruction}
use Rattle.sheet.specs.declared.operation.Move.{Move}
use Rattle.sheet.specs.declared.operation.Operation.{Operation}
use Rattle.sheet.specs.Operations.{shape}
use Rattle.sheet.specs.Instructions.{operation}

-- a pile's depth after a move
abbrev pub after : Move → ℕ → ℕ
after m d = d - m.takes + m.puts

-- a pile's depth before the move i
unfoldable pub depth : (ℕ → Move) → ℕ → ℕ
depth m zero = 0
depth m (suc i) = after (m i) (depth m i)

-- its greatest depth over the first n moves
unfoldable pub greatest : (ℕ → Move) → ℕ → ℕ
greatest m zero = 0
greatest m (suc i) = max (greatest m i) (depth m (suc i))

-- what an operation does to each pile: nothing where there is none
abbrev pub on_ranges : Option Operation → Move
on_ranges None = record { takes = 0; puts = 0 }
on_ranges (Some o) = (shape o).ranges

abbrev pub on_verdicts : Option Operation → Move
on_verdicts None = record { takes = 0; puts = 0 }
on_verdicts (Some o) = (shape o).verdicts

-- of the instruction i of a list
abbrev pub operation_in : Option Instruction → Option Operation
operation_in None = None
operation_in (Some x) = Some (operation x)

abbrev pub range_moves : List Instruction → ℕ → Move
range_moves xs i = on_ranges (operation_in (slice_get xs i))

abbrev pub verdict_moves : List Instruction → ℕ → Move
verdict_moves xs i = on_verdicts (operation_in (slice_get xs i))

-- the depth of each pile before the instruction i
abbrev pub range_depth_at : List Instruction → ℕ → ℕ
range_depth_at xs = depth (range_moves xs)

abbrev pub verdict_depth_at : List Instruction → ℕ → ℕ
verdict_depth_at xs = depth (verdict_moves xs)

-- the greatest depth of each pile
abbrev pub greatest_range_depth : List Instruction → ℕ
greatest_range_depth xs = greatest (range_moves xs) (length xs)

abbrev pub greatest_verdict_depth : List Instruction → ℕ
greatest_verdict_depth xs = greatest (verdict_moves xs) (length xs)
