-- What the pass over the instructions knows at each of them. Assumes nothing.
use Rattle.std.proofs.Common.{◌≡◌, ℕ, zero, suc, ◌+◌, ◌*◌, ◌≤◌, max, Bool, true, false, not, ◌&&◌, ◌||◌, List, get_or, replicate, Some, None, Option, sym, refl, ap, ◌∙◌, arith}
use Rattle.sheet.specs.declared.operation.Operation.{Operation}
use Rattle.sheet.specs.declared.operation.Operation.TheVariants.{Line, Keep}
use Rattle.sheet.specs.declared.tally.FirstUse.TheVariants.{Unnamed}
use Rattle.sheet.specs.declared.tally.Tally.{Tally}
use Rattle.sheet.specs.Tallies.{start, first_use, used, is_read, After}
use Rattle.sheet.specs.Rules.{first_below}
use Rattle.sheet.specs.Operations.{shape}
use Rattle.sheet.specs.Files.{operation_at, argument_at, constant_count}
use Rattle.sheet.specs.Depths.{after, depth, greatest, on_ranges, on_verdicts}
use Rattle.sheet.specs.Lines.{any_below, first_read, is_on}
use Rattle.sheet.specs.Clearing.{broken_by, instruction_refusal, range_moves_at, verdict_moves_at}
use Rattle.sheet.proofs.Firsts.{below_none, below_next}
use Rattle.sheet.proofs.Operations.{puts_few}
use Rattle.sheet.proofs.Walks.{depth_next, greatest_next, any_next}

-- whether the instruction i of a file reads or keeps the line a
abbrev pub does_at : Option Operation → ℕ → Operation → ℕ → Bool
does_at None b p a = false
does_at (Some o) b p a = is_on o b p a

abbrev pub reads_at : List ℕ → ℕ → ℕ → Bool
reads_at bs a i = does_at (operation_at bs i) (argument_at bs i) Line a

abbrev pub keeps_at : List ℕ → ℕ → ℕ → Bool
keeps_at bs a i = does_at (operation_at bs i) (argument_at bs i) Keep a

-- what the tally knows before the instruction i
pub record SoFar (bs : List ℕ) (i : ℕ) (t : Tally) : Type 0 where
  pub unbroken : first_below (instruction_refusal bs) i ≡ None
  pub ranges : t.ranges.«now» ≡ depth (range_moves_at bs) i
  pub most_ranges : t.ranges.greatest ≡ greatest (range_moves_at bs) i
  pub few_ranges : t.ranges.«now» ≤ 2 * i
  pub verdicts : t.verdicts.«now» ≡ depth (verdict_moves_at bs) i
  pub most_verdicts : t.verdicts.greatest ≡ greatest (verdict_moves_at bs) i
  pub few_verdicts : t.verdicts.«now» ≤ 2 * i
  pub lines : (a : ℕ) → get_or t.first_uses a Unnamed ≡ first_use (first_read (reads_at bs a) (keeps_at bs a) i) (any_below (keeps_at bs a) i)

unused : (n a : ℕ) → get_or (replicate n Unnamed) a Unnamed ≡ first_use false false
unused zero a = refl
unused (suc n) zero = refl
unused (suc n) (suc a) = unused n a

pub begin : (bs : List ℕ) → SoFar bs 0 start
unfolding depth greatest any_below
begin bs = record {
  unbroken = below_none (instruction_refusal bs);
  ranges = refl;
  most_ranges = refl;
  few_ranges = omega arith;
  verdicts = refl;
  most_verdicts = refl;
  few_verdicts = omega arith;
  lines = unused 32;
}

-- the rule on the instruction i, at the depths that the pass has
pub ruled : (bs : List ℕ) (i : ℕ) (t : Tally) → SoFar bs i t → instruction_refusal bs i ≡ broken_by (constant_count bs) i (operation_at bs i) (argument_at bs i) t.ranges.«now» t.verdicts.«now»
ruled bs i t s =
    ap (λ x. broken_by (constant_count bs) i (operation_at bs i) (argument_at bs i) x (depth (verdict_moves_at bs) i)) (sym s.ranges)
    ∙ ap (broken_by (constant_count bs) i (operation_at bs i) (argument_at bs i) t.ranges.«now») (sym s.verdicts)

-- a line's first use stays
used_after : (f k r s : Bool) → used (first_use f k) r s ≡ first_use (f || (r && not k)) (k || s)
used_after true k r s = refl
used_after false true true s = refl
used_after false true false s = refl
used_after false false true s = refl
used_after false false false s = refl

-- one instruction more, which breaks no rule
pub next : (bs : List ℕ) (i : ℕ) (t u : Tally) (o : Operation) → SoFar bs i t → operation_at bs i ≡ Some o → broken_by (constant_count bs) i (Some o) (argument_at bs i) t.ranges.«now» t.verdicts.«now» ≡ None → After t o (argument_at bs i) u → SoFar bs (i + 1) u
next bs i t u o s known fine x =
    let few = puts_few o in
    let r = t.ranges.«now» in
    let v = t.verdicts.«now» in
    let b = argument_at bs i in
    let mr : after (shape o).ranges r ≡ depth (range_moves_at bs) (i + 1) = ap (after (shape o).ranges) s.ranges ∙ ap (λ p. after (on_ranges p) (depth (range_moves_at bs) i)) (sym known) ∙ sym (depth_next (range_moves_at bs) i) in
    let mv : after (shape o).verdicts v ≡ depth (verdict_moves_at bs) (i + 1) = ap (after (shape o).verdicts) s.verdicts ∙ ap (λ p. after (on_verdicts p) (depth (verdict_moves_at bs) i)) (sym known) ∙ sym (depth_next (verdict_moves_at bs) i) in
    let keep : (a : ℕ) → is_on o b Keep a ≡ keeps_at bs a i = λ a. ap (λ p. does_at p b Keep a) (sym known) in
    let read : (a : ℕ) → is_on o b Line a ≡ reads_at bs a i = λ a. ap (λ p. does_at p b Line a) (sym known) in
    record {
      unbroken = below_next (instruction_refusal bs) i None s.unbroken (ruled bs i t s ∙ ap (λ p. broken_by (constant_count bs) i p b r v) known ∙ fine);
      ranges = x.range_depth ∙ mr;
      most_ranges = x.greatest_range_depth ∙ ap (max t.ranges.greatest) mr ∙ ap (λ g. max g (depth (range_moves_at bs) (i + 1))) s.most_ranges ∙ sym (greatest_next (range_moves_at bs) i);
      few_ranges = omega (arith, s.few_ranges, x.range_depth, few.0);
      verdicts = x.verdict_depth ∙ mv;
      most_verdicts = x.greatest_verdict_depth ∙ ap (max t.verdicts.greatest) mv ∙ ap (λ g. max g (depth (verdict_moves_at bs) (i + 1))) s.most_verdicts ∙ sym (greatest_next (verdict_moves_at bs) i);
      few_verdicts = omega (arith, s.few_verdicts, x.verdict_depth, few.1);
      lines = λ a.
          let f = first_read (reads_at bs a) (keeps_at bs a) i in
          let k = any_below (keeps_at bs a) i in
          x.first_uses a
          ∙ ap (λ q. used q (is_on o b Line a) (is_on o b Keep a)) (s.lines a)
          ∙ ap (λ q. used (first_use f k) q (is_on o b Keep a)) (read a)
          ∙ ap (used (first_use f k) (reads_at bs a i)) (keep a)
          ∙ used_after f k (reads_at bs a i) (keeps_at bs a i)
          ∙ ap (λ q. first_use q (k || keeps_at bs a i)) (sym (any_next (λ j. reads_at bs a j && not (any_below (keeps_at bs a) j)) i))
          ∙ ap (first_use (first_read (reads_at bs a) (keeps_at bs a) (i + 1))) (sym (any_next (keeps_at bs a) i));
    }

-- what is told of a first use
pub read_first : (f k : Bool) → is_read (first_use f k) ≡ f
read_first true k = refl
read_first false true = refl
read_first false false = refl
