-- How the pass over the instructions ends. Assumes nothing.
use Rattle.std.proofs.Common.{◌≡◌, ℕ, ◌+◌, ◌<◌, ◌≤◌, ◌⊎◌, List, length, get_or, Some, None, Option, sym, ap, ◌∙◌, subst, arith}
use Rattle.std.proofs.lemmas.Bool.Decides.{nat_tests}
use Rattle.fault.specs.declared.Refusal.{Refusal}
use Rattle.sheet.specs.declared.faults.ClearingFault.TheVariants.{NotEmpty}
use Rattle.sheet.specs.declared.operation.Operation.{Operation}
use Rattle.sheet.specs.declared.tally.Tally.{Tally}
use Rattle.sheet.specs.Faults.{clearing_refusal}
use Rattle.sheet.specs.Operations.{operation_of}
use Rattle.sheet.specs.Rules.{first_below}
use Rattle.sheet.specs.Files.{operation_at, argument_at, constant_count, instruction_count, constants_in, instructions_in}
use Rattle.sheet.specs.Clearing.{broken_by, instruction_refusal, end_refusal, instructions_refusal}
use Rattle.sheet.specs.Tallies.{is_read, Tallied, After}
use Rattle.sheet.proofs.Firsts.{first_after, first_found, below_next, below_later}
use Rattle.sheet.proofs.Chunks.{instructions_count, operation_held, argument_held, constants_count}
use Rattle.sheet.proofs.Passes.{SoFar, ruled, next, read_first}
use Rattle.sheet.proofs.Listing.{greatest_range_same, greatest_verdict_same, reads_first_same}

-- at an instruction that breaks a rule
refused_at : (bs : List ℕ) (i : ℕ) (t : Tally) (q : Refusal) → SoFar bs i t → i < instruction_count bs → broken_by (constant_count bs) i (operation_at bs i) (argument_at bs i) t.ranges.«now» t.verdicts.«now» ≡ Some q → instructions_refusal bs ≡ Some q
refused_at bs i t q s h e =
    let b = below_next (instruction_refusal bs) i (Some q) s.unbroken (ruled bs i t s ∙ e) in
    let n : i + 1 ≤ instruction_count bs = omega arith in
    first_found (first_below (instruction_refusal bs) (instruction_count bs)) _ q (below_later (instruction_refusal bs) (i + 1) (instruction_count bs) q b n)

-- after the last instruction
refused_by_end : (bs : List ℕ) (t : Tally) → SoFar bs (instruction_count bs) t → instructions_refusal bs ≡ end_refusal (instruction_count bs) t.ranges.«now» t.verdicts.«now»
refused_by_end bs t s =
    first_after (first_below (instruction_refusal bs) (instruction_count bs)) _ _ s.unbroken
    ((λ i. end_refusal (instruction_count bs) (sym s.ranges i) (sym s.verdicts i)))

empty : (n r v : ℕ) → r ≤ 0 → v ≤ 0 → end_refusal n r v ≡ None
empty n r v h g = grind (arith, nat_tests)

not_empty : (n m r v : ℕ) → n ≡ m → (0 < r) ⊎ (0 < v) → end_refusal n r v ≡ Some (clearing_refusal (NotEmpty m))
not_empty n m r v e h = grind (arith, nat_tests)

passed : (bs : List ℕ) (t : Tally) → SoFar bs (instruction_count bs) t → t.ranges.«now» ≤ 0 → t.verdicts.«now» ≤ 0 → (instructions_refusal bs ≡ None) × Tallied bs t
passed bs t s h g = (
  refused_by_end bs t s ∙ empty (instruction_count bs) t.ranges.«now» t.verdicts.«now» h g,
  (
    s.most_ranges ∙ sym (greatest_range_same bs s.unbroken),
    s.most_verdicts ∙ sym (greatest_verdict_same bs s.unbroken),
    λ a. ap is_read (s.lines a) ∙ read_first _ _ ∙ sym (reads_first_same bs s.unbroken a),
  ),
)

-- at the instruction i, as a sheet holds the constants and the instructions
module _ (bs : List ℕ) (ks ps : List (List ℕ)) (constants_laid : ks ≡ constants_in bs) (instructions_laid : ps ≡ instructions_in bs) where
  module _ (i : ℕ) (t : Tally) (d : List ℕ) (s : SoFar bs i t) (h : i < length ps) where
    before_end : i < instruction_count bs
    before_end = let n = instructions_count bs ps instructions_laid in omega arith

    -- the rule that the code tests
    rule : (p : Option Operation) → p ≡ operation_at bs i → broken_by (length ks) i p (get_or (get_or ps i d) 1 0) t.ranges.«now» t.verdicts.«now» ≡ broken_by (constant_count bs) i (operation_at bs i) (argument_at bs i) t.ranges.«now» t.verdicts.«now»
    rule p e = λ j. broken_by (constants_count bs ks constants_laid j) i (e j) (argument_held bs ps instructions_laid i d before_end j) t.ranges.«now» t.verdicts.«now»

    read : operation_of (get_or (get_or ps i d) 0 0) ≡ operation_at bs i
    read = operation_held bs ps instructions_laid i d before_end

    pub rule_kept : (o : Operation) (u : Tally) → operation_of (get_or (get_or ps i d) 0 0) ≡ Some o → broken_by (length ks) i (Some o) (get_or (get_or ps i d) 1 0) t.ranges.«now» t.verdicts.«now» ≡ None → After t o (get_or (get_or ps i d) 1 0) u → SoFar bs (i + 1) u
    rule_kept o u e f x =
        let k = sym read ∙ e in
        let a = argument_held bs ps instructions_laid i d before_end in
        let g : broken_by (constant_count bs) i (Some o) (argument_at bs i) t.ranges.«now» t.verdicts.«now» ≡ None = ap (λ p. broken_by (constant_count bs) i p (argument_at bs i) t.ranges.«now» t.verdicts.«now») (sym k) ∙ sym (rule (Some o) (sym k)) ∙ f in
        next bs i t u o s k g (subst (λ b. After t o b u) a x)

    pub rule_broken : (q : Refusal) → broken_by (length ks) i (operation_of (get_or (get_or ps i d) 0 0)) (get_or (get_or ps i d) 1 0) t.ranges.«now» t.verdicts.«now» ≡ Some q → instructions_refusal bs ≡ Some q
    rule_broken q e = refused_at bs i t q s before_end (sym (rule _ read) ∙ e)

  -- after the last instruction
  module _ (i : ℕ) (t : Tally) (s : SoFar bs i t) (h : length ps ≡ i) where
    at_end : SoFar bs (instruction_count bs) t
    at_end = subst (λ n. SoFar bs n t) (sym h ∙ instructions_count bs ps instructions_laid) s

    pub left_over : (0 < t.ranges.«now») ⊎ (0 < t.verdicts.«now») → instructions_refusal bs ≡ Some (clearing_refusal (NotEmpty (length ps)))
    left_over e = refused_by_end bs t at_end ∙ not_empty (instruction_count bs) (length ps) t.ranges.«now» t.verdicts.«now» (sym (instructions_count bs ps instructions_laid)) e

    pub passes : t.ranges.«now» ≤ 0 → t.verdicts.«now» ≤ 0 → (instructions_refusal bs ≡ None) × Tallied bs t
    passes = passed bs t at_end
