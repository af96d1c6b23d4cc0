-- Which filed sheets are cleared: the first broken rule. Assumes nothing.
use Rattle.std.specs.Prelude.{ℕ, ◌&&◌, List, is_some, Some, None, Option, ◌==◌, nat_le}
use Rattle.fault.specs.declared.Refusal.{Refusal}
use Rattle.number.specs.Fraction.{value}
use Rattle.sheet.specs.declared.faults.ClearingFault.TheVariants.{Valueless, UnknownOperation, Argument, TooFewOperands, NotEmpty}
use Rattle.sheet.specs.declared.operation.Move.{Move}
use Rattle.sheet.specs.declared.operation.Operation.{Operation}
use Rattle.sheet.specs.Faults.{clearing_refusal}
use Rattle.sheet.specs.Rules.{unless, first, first_below}
use Rattle.sheet.specs.Operations.{allowed, shape}
use Rattle.sheet.specs.Files.{constant, constant_count, instruction_count, operation_at, argument_at}
use Rattle.sheet.specs.Depths.{depth, on_ranges, on_verdicts}

-- the constant c has a value
abbrev pub constant_refusal : List ℕ → ℕ → Option Refusal
constant_refusal bs c = unless (is_some (value (constant bs c))) (clearing_refusal (Valueless c)) None

-- the instruction i, on a sheet with k constants, before which the piles hold r ranges and v verdicts
abbrev pub broken_by : ℕ → ℕ → Option Operation → ℕ → ℕ → ℕ → Option Refusal
broken_by k i None a r v = Some (clearing_refusal (UnknownOperation i))
broken_by k i (Some o) a r v =
    unless (allowed (shape o).argument k a) (clearing_refusal (Argument i))
    (unless (nat_le (shape o).ranges.takes r && nat_le (shape o).verdicts.takes v) (clearing_refusal (TooFewOperands i)) None)

-- what the instruction i of a file does to each pile
abbrev pub range_moves_at : List ℕ → ℕ → Move
range_moves_at bs i = on_ranges (operation_at bs i)

abbrev pub verdict_moves_at : List ℕ → ℕ → Move
verdict_moves_at bs i = on_verdicts (operation_at bs i)

abbrev pub instruction_refusal : List ℕ → ℕ → Option Refusal
instruction_refusal bs i = broken_by (constant_count bs) i (operation_at bs i) (argument_at bs i) (depth (range_moves_at bs) i) (depth (verdict_moves_at bs) i)

-- both piles are empty at the end
abbrev pub end_refusal : ℕ → ℕ → ℕ → Option Refusal
end_refusal n r v = unless (r == 0 && v == 0) (clearing_refusal (NotEmpty n)) None

-- the rules on the constants
abbrev pub constants_refusal : List ℕ → Option Refusal
constants_refusal bs = first_below (constant_refusal bs) (constant_count bs)

-- the rules on the instructions
abbrev pub instructions_refusal : List ℕ → Option Refusal
instructions_refusal bs =
    first (first_below (instruction_refusal bs) (instruction_count bs))
    (end_refusal (instruction_count bs) (depth (range_moves_at bs) (instruction_count bs)) (depth (verdict_moves_at bs) (instruction_count bs)))

-- the first rule that a filed sheet breaks
unfoldable pub clearing : List ℕ → Option Refusal
clearing bs = first (constants_refusal bs) (instructions_refusal bs)
