-- The instructions of a file that breaks no rule: each is there, in its place. Assumes nothing.
use Rattle.std.proofs.Common.{◌≡◌, ℕ, zero, suc, ◌<◌, ◌≤◌, List, length, Some, None, Option, sym, refl, ap, ◌∙◌, arith}
use Rattle.std.specs.List.{slice_get}
use Rattle.number.specs.declared.Fraction.{Fraction}
use Rattle.sheet.specs.declared.instruction.Instruction.{Instruction}
use Rattle.sheet.specs.declared.operation.Operation.{Operation}
use Rattle.sheet.specs.declared.operation.Operation.TheVariants.{Line, Keep}
use Rattle.sheet.specs.Rules.{first_below}
use Rattle.sheet.specs.Files.{constant, operation_at, argument_at, instruction_count}
use Rattle.sheet.specs.Instructions.{named, with_argument, instruction_at, before, listed, instructions}
use Rattle.sheet.specs.Depths.{depth, greatest, on_ranges, on_verdicts, operation_in, range_moves, verdict_moves, range_depth_at, verdict_depth_at, greatest_range_depth, greatest_verdict_depth}
use Rattle.sheet.specs.Lines.{reads, keeps, first_read, reads_first}
use Rattle.sheet.specs.Clearing.{broken_by, instruction_refusal, range_moves_at, verdict_moves_at}
use Rattle.sheet.proofs.Firsts.{below_kept}
use Rattle.sheet.proofs.Operations.{operation_with, reads_named, keeps_named}
use Rattle.sheet.proofs.Walks.{depth_same, greatest_same, first_read_same}
use Rattle.sheet.proofs.Passes.{does_at, reads_at, keeps_at}

abbrev There : (ℕ → Option Instruction) → ℕ → Type 0
There f n = (i : ℕ) → i < n → (x : Instruction) × (f i ≡ Some x)

length_listed : (f : ℕ → Option Instruction) (n : ℕ) → There f n → length (listed f n) ≡ n
unfolding listed
length_listed f zero h = refl
length_listed f (suc n) h =
    let x = h 0 (omega arith) in
    ap (λ o. length (before o (listed (λ i. f (suc i)) n))) x.1 ∙ ap suc (length_listed (λ i. f (suc i)) n (λ i l. h (suc i) (omega arith)))

nth_listed : (f : ℕ → Option Instruction) (n : ℕ) → There f n → (i : ℕ) → i < n → slice_get (listed f n) i ≡ f i
unfolding listed
nth_listed f zero h i l = absurd (omega arith)
nth_listed f (suc n) h zero l = let x = h 0 (omega arith) in ap (λ o. slice_get (before o (listed (λ i. f (suc i)) n)) 0) x.1 ∙ sym x.1
nth_listed f (suc n) h (suc i) l =
    let x = h 0 (omega arith) in
    ap (λ o. slice_get (before o (listed (λ i. f (suc i)) n)) (suc i)) x.1 ∙ nth_listed (λ i. f (suc i)) n (λ i l. h (suc i) (omega arith)) i (omega arith)

-- an instruction that breaks no rule has an operation
pub broken_known : (k i a r v : ℕ) (p : Option Operation) → broken_by k i p a r v ≡ None → (o : Operation) × (p ≡ Some o)
broken_known k i a r v (Some o) e = (o, refl)
broken_known k i a r v None e = let z : ◌≡◌ {A = ℕ} 0 1 = cc in absurd (omega arith)

reads_with : (p : Option Operation) (b : ℕ) (f : Fraction) (a : ℕ) → reads (with_argument p b f) a ≡ does_at p b Line a
reads_with None b f a = refl
reads_with (Some o) b f a = reads_named o b f a

keeps_with : (p : Option Operation) (b : ℕ) (f : Fraction) (a : ℕ) → keeps (with_argument p b f) a ≡ does_at p b Keep a
keeps_with None b f a = refl
keeps_with (Some o) b f a = keeps_named o b f a

module _ (bs : List ℕ) (unbroken : first_below (instruction_refusal bs) (instruction_count bs) ≡ None) where
  pub operation_there : (i : ℕ) → i < instruction_count bs → (o : Operation) × (operation_at bs i ≡ Some o)
  operation_there i h = broken_known _ i (argument_at bs i) (depth (range_moves_at bs) i) (depth (verdict_moves_at bs) i) (operation_at bs i) (below_kept (instruction_refusal bs) (instruction_count bs) i unbroken h)

  there : There (instruction_at bs) (instruction_count bs)
  there i h =
      let o = operation_there i h in
      (named o.0 (argument_at bs i) (constant bs (argument_at bs i)), ap (λ p. with_argument p (argument_at bs i) (constant bs (argument_at bs i))) o.1)

  pub instructions_length : length (instructions bs) ≡ instruction_count bs
  unfolding instructions
  instructions_length = length_listed (instruction_at bs) (instruction_count bs) there

  pub instructions_nth : (i : ℕ) → i < instruction_count bs → slice_get (instructions bs) i ≡ instruction_at bs i
  unfolding instructions
  instructions_nth i h = nth_listed (instruction_at bs) (instruction_count bs) there i h

  pub operations_same : (i : ℕ) → i < instruction_count bs → operation_in (slice_get (instructions bs) i) ≡ operation_at bs i
  operations_same i h = ap operation_in (instructions_nth i h) ∙ operation_with (operation_at bs i) (argument_at bs i) (constant bs (argument_at bs i))

  ranges_same : (i : ℕ) → i < instruction_count bs → range_moves (instructions bs) i ≡ range_moves_at bs i
  ranges_same i h = ap on_ranges (operations_same i h)

  verdicts_same : (i : ℕ) → i < instruction_count bs → verdict_moves (instructions bs) i ≡ verdict_moves_at bs i
  verdicts_same i h = ap on_verdicts (operations_same i h)

  -- the depths of the list are those of the file
  pub range_depth_same : (i : ℕ) → i ≤ instruction_count bs → range_depth_at (instructions bs) i ≡ depth (range_moves_at bs) i
  range_depth_same i h = depth_same (range_moves (instructions bs)) (range_moves_at bs) i (λ j l. ranges_same j (omega arith))

  pub verdict_depth_same : (i : ℕ) → i ≤ instruction_count bs → verdict_depth_at (instructions bs) i ≡ depth (verdict_moves_at bs) i
  verdict_depth_same i h = depth_same (verdict_moves (instructions bs)) (verdict_moves_at bs) i (λ j l. verdicts_same j (omega arith))

  pub greatest_range_same : greatest_range_depth (instructions bs) ≡ greatest (range_moves_at bs) (instruction_count bs)
  greatest_range_same = ap (greatest (range_moves (instructions bs))) instructions_length ∙ greatest_same (range_moves (instructions bs)) (range_moves_at bs) (instruction_count bs) ranges_same

  pub greatest_verdict_same : greatest_verdict_depth (instructions bs) ≡ greatest (verdict_moves_at bs) (instruction_count bs)
  greatest_verdict_same = ap (greatest (verdict_moves (instructions bs))) instructions_length ∙ greatest_same (verdict_moves (instructions bs)) (verdict_moves_at bs) (instruction_count bs) verdicts_same

  -- and so are the lines
  pub reads_first_same : (a : ℕ) → reads_first (instructions bs) a ≡ first_read (reads_at bs a) (keeps_at bs a) (instruction_count bs)
  reads_first_same a =
      let xs = instructions bs in
      ap (first_read (λ i. reads (slice_get xs i) a) (λ i. keeps (slice_get xs i) a)) instructions_length
      ∙ first_read_same (λ i. reads (slice_get xs i) a) (reads_at bs a) (λ i. keeps (slice_get xs i) a) (keeps_at bs a) (instruction_count bs)
      (λ i h. ap (λ o. reads o a) (instructions_nth i h) ∙ reads_with (operation_at bs i) (argument_at bs i) (constant bs (argument_at bs i)) a)
      (λ i h. ap (λ o. keeps o a) (instructions_nth i h) ∙ keeps_with (operation_at bs i) (argument_at bs i) (constant bs (argument_at bs i)) a)
