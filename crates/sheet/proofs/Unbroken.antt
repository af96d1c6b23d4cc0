-- What clearing shows of a file's list of instructions. Assumes nothing.
use Rattle.std.proofs.Common.{◌≡◌, ℕ, ◌<◌, ◌≤◌, Bool, true, false, List, is_some, Some, None, Option, sym, ap, ◌∙◌, arith}
use Rattle.std.proofs.lemmas.Bool.Decides.{nat_tests}
use Rattle.fault.specs.declared.Refusal.{Refusal}
use Rattle.number.specs.Fraction.{value}
use Rattle.sheet.specs.declared.faults.ClearingFault.TheVariants.{Valueless}
use Rattle.sheet.specs.declared.operation.Operation.{Operation}
use Rattle.sheet.specs.Faults.{clearing_refusal}
use Rattle.sheet.specs.Rules.{unless, first_below}
use Rattle.sheet.specs.Operations.{allowed, shape}
use Rattle.sheet.specs.Files.{constant, constant_count, instruction_count, operation_at, argument_at}
use Rattle.sheet.specs.Depths.{depth}
use Rattle.sheet.specs.Clearing.{constant_refusal, broken_by, instruction_refusal, end_refusal, constants_refusal, instructions_refusal, clearing, range_moves_at, verdict_moves_at}
use Rattle.sheet.proofs.Firsts.{first_none, below_kept}

pub none_from : (o : Option Refusal) → is_some o ≡ false → o ≡ None
none_from o e = grind arith

-- an instruction that breaks no rule
pub record Ruled (k i a r v : ℕ) (o : Operation) : Type 0 where
  pub argument : allowed (shape o).argument k a ≡ true
  pub ranges : (shape o).ranges.takes ≤ r
  pub verdicts : (shape o).verdicts.takes ≤ v

ruled_by : (k i a r v : ℕ) (o : Operation) → broken_by k i (Some o) a r v ≡ None → Ruled k i a r v o
ruled_by k i a r v o e = grind (arith, nat_tests)

constant_kept : (b : Bool) (q : Refusal) → unless b q None ≡ None → b ≡ true
constant_kept b q e = grind arith

end_kept : (n r v : ℕ) → end_refusal n r v ≡ None → (r ≡ 0) × (v ≡ 0)
end_kept n r v e = grind (arith, nat_tests)

module _ (bs : List ℕ) (cleared : is_some (clearing bs) ≡ false) where
  whole : (constants_refusal bs ≡ None) × (instructions_refusal bs ≡ None)
  unfolding clearing
  whole = first_none (constants_refusal bs) (instructions_refusal bs) (none_from (clearing bs) cleared)

  halves : (first_below (instruction_refusal bs) (instruction_count bs) ≡ None) × (end_refusal (instruction_count bs) (depth (range_moves_at bs) (instruction_count bs)) (depth (verdict_moves_at bs) (instruction_count bs)) ≡ None)
  halves = first_none (first_below (instruction_refusal bs) (instruction_count bs)) (end_refusal (instruction_count bs) (depth (range_moves_at bs) (instruction_count bs)) (depth (verdict_moves_at bs) (instruction_count bs))) whole.1

  pub unbroken : first_below (instruction_refusal bs) (instruction_count bs) ≡ None
  unbroken = halves.0

  pub ended : (depth (range_moves_at bs) (instruction_count bs) ≡ 0) × (depth (verdict_moves_at bs) (instruction_count bs) ≡ 0)
  ended = end_kept (instruction_count bs) _ _ halves.1

  pub valued : (c : ℕ) → c < constant_count bs → is_some (value (constant bs c)) ≡ true
  valued c h = constant_kept (is_some (value (constant bs c))) (clearing_refusal (Valueless c)) (below_kept (constant_refusal bs) (constant_count bs) c whole.0 h)

  pub ruled_at : (i : ℕ) (o : Operation) → i < instruction_count bs → operation_at bs i ≡ Some o → Ruled (constant_count bs) i (argument_at bs i) (depth (range_moves_at bs) i) (depth (verdict_moves_at bs) i) o
  ruled_at i o h e =
      let b = below_kept (instruction_refusal bs) (instruction_count bs) i unbroken h in
      ruled_by (constant_count bs) i (argument_at bs i) (depth (range_moves_at bs) i) (depth (verdict_moves_at bs) i) o
      (ap (λ p. broken_by (constant_count bs) i p (argument_at bs i) (depth (range_moves_at bs) i) (depth (verdict_moves_at bs) i)) (sym e) ∙ b)
