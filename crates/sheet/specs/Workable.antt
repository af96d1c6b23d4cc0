-- What the rules give to whoever works a list of instructions in turn, from empty piles. Assumes nothing.
use Rattle.std.specs.Prelude.{◌≡◌, ℕ, ◌≤◌, true, List, length, is_some, Some}
use Rattle.std.specs.List.{slice_get}
use Rattle.number.specs.declared.Fraction.{Fraction}
use Rattle.number.specs.Fraction.{value}
use Rattle.sheet.specs.declared.instruction.Instruction.{Instruction}
use Rattle.sheet.specs.declared.instruction.Instruction.TheVariants.{Line, Constant, Keep, Flag}
use Rattle.sheet.specs.Operations.{shape}
use Rattle.sheet.specs.Instructions.{operation}
use Rattle.sheet.specs.Depths.{range_depth_at, verdict_depth_at}

pub record Workable (xs : List Instruction) : Type 0 where
  -- no instruction lacks an operand
  pub enough_ranges : (i : ℕ) (x : Instruction) → slice_get xs i ≡ Some x → (shape (operation x)).ranges.takes ≤ range_depth_at xs i
  pub enough_verdicts : (i : ℕ) (x : Instruction) → slice_get xs i ≡ Some x → (shape (operation x)).verdicts.takes ≤ verdict_depth_at xs i
  -- both piles are empty at the end
  pub no_range_left : range_depth_at xs (length xs) ≡ 0
  pub no_verdict_left : verdict_depth_at xs (length xs) ≡ 0
  -- lines and flags go to 31, and constants have values
  pub line : (i a : ℕ) → slice_get xs i ≡ Some (Line a) → a ≤ 31
  pub keep : (i a : ℕ) → slice_get xs i ≡ Some (Keep a) → a ≤ 31
  pub flag : (i a : ℕ) → slice_get xs i ≡ Some (Flag a) → a ≤ 31
  pub constant : (i : ℕ) (f : Fraction) → slice_get xs i ≡ Some (Constant f) → is_some (value f) ≡ true
