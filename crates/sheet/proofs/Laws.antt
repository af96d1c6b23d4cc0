-- The laws of sheets, for whoever works them. Assumes nothing.
use Rattle.std.proofs.Common.{◌≡◌, ℕ, zero, suc, ◌+◌, ◌<◌, ◌≤◌, true, false, List, [], ◌∷◌, length, is_some, Some, None, sym, refl, ap, ◌∙◌, subst, arith}
use Rattle.std.proofs.lemmas.Bool.{leb-true, ltb-true}
use Rattle.std.specs.List.{slice_get}
use Rattle.number.specs.declared.Fraction.{Fraction}
use Rattle.number.specs.Fraction.{value}
use Rattle.sheet.specs.declared.instruction.Instruction.{Instruction}
use Rattle.sheet.specs.declared.instruction.Instruction.TheVariants.{Line, Constant, Keep, Flag}
use Rattle.sheet.specs.declared.sheet.FiledSheet.{FiledSheet}
use Rattle.sheet.specs.declared.sheet.ClearedSheet.{ClearedSheet}
use Rattle.sheet.specs.Operations.{shape, allowed}
use Rattle.sheet.specs.Files.{constant, constant_count, instruction_count, operation_at, argument_at}
use Rattle.sheet.specs.Filing.{filing}
use Rattle.sheet.specs.Instructions.{instructions, named, operation, with_argument}
use Rattle.sheet.specs.Depths.{after, depth, on_ranges, on_verdicts, operation_in, range_moves, verdict_moves, range_depth_at, verdict_depth_at, greatest_range_depth, greatest_verdict_depth}
use Rattle.sheet.specs.Clearing.{clearing}
use Rattle.sheet.specs.Workable.{Workable}
use Rattle.sheet.specs.Held.{filed_bytes, cleared_bytes, instructions_of}
use Rattle.sheet.proofs.Accepted.{accepted}
use Rattle.sheet.proofs.Walks.{depth_next, within_greatest, greatest_reached}
use Rattle.sheet.proofs.Listing.{operations_same, instructions_length, instructions_nth, range_depth_same, verdict_depth_same}
use Rattle.sheet.proofs.Unbroken.{none_from, unbroken, ended, valued, ruled_at}

-- a filed sheet breaks no rule of filing
pub is_filed : (s : FiledSheet) → filing (filed_bytes s) ≡ None
is_filed s = none_from (filing (filed_bytes s)) s.filed

-- an instruction that is there stands before the end
pub nth_before : {X : Type 0} (xs : List X) (i : ℕ) (x : X) → slice_get xs i ≡ Some x → i < length xs
nth_before [] i x e = let z : ◌≡◌ {A = ℕ} 0 1 = cc in absurd (omega arith)
nth_before (y ∷ xs) zero x e = omega arith
nth_before (y ∷ xs) (suc i) x e = let h = nth_before xs i x e in omega arith

-- the depths along any list of instructions
module _ (xs : List Instruction) where
  pub depths_start : (range_depth_at xs 0 ≡ 0) × (verdict_depth_at xs 0 ≡ 0)
  unfolding depth
  depths_start = (refl, refl)

  pub depths_next : (i : ℕ) (x : Instruction) → slice_get xs i ≡ Some x → (range_depth_at xs (i + 1) ≡ after (shape (operation x)).ranges (range_depth_at xs i)) × (verdict_depth_at xs (i + 1) ≡ after (shape (operation x)).verdicts (verdict_depth_at xs i))
  depths_next i x e = (
    depth_next (range_moves xs) i ∙ ap (λ o. after (on_ranges (operation_in o)) (range_depth_at xs i)) e,
    depth_next (verdict_moves xs) i ∙ ap (λ o. after (on_verdicts (operation_in o)) (verdict_depth_at xs i)) e,
  )

  -- the greatest depths are not exceeded, and are reached
  pub depths_within : (i : ℕ) → i ≤ length xs → (range_depth_at xs i ≤ greatest_range_depth xs) × (verdict_depth_at xs i ≤ greatest_verdict_depth xs)
  depths_within i h = (within_greatest (range_moves xs) (length xs) i h, within_greatest (verdict_moves xs) (length xs) i h)

  pub ranges_reached : (i : ℕ) × (i ≤ length xs) × (range_depth_at xs i ≡ greatest_range_depth xs)
  ranges_reached = greatest_reached (range_moves xs) (length xs)

  pub verdicts_reached : (i : ℕ) × (i ≤ length xs) × (verdict_depth_at xs i ≡ greatest_verdict_depth xs)
  verdicts_reached = greatest_reached (verdict_moves xs) (length xs)

-- the instructions of a file that breaks no rule
module _ (bs : List ℕ) (cleared : is_some (clearing bs) ≡ false) where
  pub count_from : length (instructions bs) ≡ instruction_count bs
  count_from = instructions_length bs (unbroken bs cleared)

  module _ (i : ℕ) (x : Instruction) (e : slice_get (instructions bs) i ≡ Some x) where
    before_end : i < instruction_count bs
    before_end = let n = count_from in let h = nth_before (instructions bs) i x e in omega arith

    read_as : (operation_at bs i ≡ Some (operation x)) × (named (operation x) (argument_at bs i) (constant bs (argument_at bs i)) ≡ x)
    read_as =
        let u = unbroken bs cleared in
        let o = sym (operations_same bs u i before_end) ∙ ap operation_in e in
        let a = argument_at bs i in
        let n : Some (named (operation x) a (constant bs a)) ≡ Some x = ap (λ p. with_argument p a (constant bs a)) (sym o) ∙ sym (instructions_nth bs u i before_end) ∙ e in
        (o, cc)

    enough : ((shape (operation x)).ranges.takes ≤ range_depth_at (instructions bs) i) × ((shape (operation x)).verdicts.takes ≤ verdict_depth_at (instructions bs) i)
    enough =
        let u = unbroken bs cleared in
        let r = ruled_at bs cleared i (operation x) before_end read_as.0 in
        let h : i ≤ instruction_count bs = omega (arith, before_end) in
        let p = range_depth_same bs u i h in
        let q = verdict_depth_same bs u i h in
        (omega (arith, r.ranges, p), omega (arith, r.verdicts, q))

    fine : allowed (shape (operation x)).argument (constant_count bs) (argument_at bs i) ≡ true
    fine = (ruled_at bs cleared i (operation x) before_end read_as.0).argument

  empty_at_end : (range_depth_at (instructions bs) (length (instructions bs)) ≡ 0) × (verdict_depth_at (instructions bs) (length (instructions bs)) ≡ 0)
  empty_at_end =
      let u = unbroken bs cleared in
      let z = ended bs cleared in
      let h : instruction_count bs ≤ instruction_count bs = omega arith in (
        ap (range_depth_at (instructions bs)) count_from ∙ range_depth_same bs u (instruction_count bs) h ∙ z.0,
        ap (verdict_depth_at (instructions bs)) count_from ∙ verdict_depth_same bs u (instruction_count bs) h ∙ z.1,
      )

  line_small : (i a : ℕ) → slice_get (instructions bs) i ≡ Some (Line a) → a ≤ 31
  line_small i a e = let n = (read_as i (Line a) e).1 in let b : argument_at bs i ≡ a = cc in omega (arith, leb-true (argument_at bs i) 31 (fine i (Line a) e), b)

  keep_small : (i a : ℕ) → slice_get (instructions bs) i ≡ Some (Keep a) → a ≤ 31
  keep_small i a e = let n = (read_as i (Keep a) e).1 in let b : argument_at bs i ≡ a = cc in omega (arith, leb-true (argument_at bs i) 31 (fine i (Keep a) e), b)

  flag_small : (i a : ℕ) → slice_get (instructions bs) i ≡ Some (Flag a) → a ≤ 31
  flag_small i a e = let n = (read_as i (Flag a) e).1 in let b : argument_at bs i ≡ a = cc in omega (arith, leb-true (argument_at bs i) 31 (fine i (Flag a) e), b)

  constant_valued : (i : ℕ) (f : Fraction) → slice_get (instructions bs) i ≡ Some (Constant f) → is_some (value f) ≡ true
  constant_valued i f e =
      let n = (read_as i (Constant f) e).1 in
      let b : constant bs (argument_at bs i) ≡ f = cc in
      subst (λ g. is_some (value g) ≡ true) b (valued bs cleared (argument_at bs i) (ltb-true (argument_at bs i) (constant_count bs) (fine i (Constant f) e)))

  -- they can be worked
  pub workable_from : Workable (instructions bs)
  workable_from = record {
    enough_ranges = λ i x e. (enough i x e).0;
    enough_verdicts = λ i x e. (enough i x e).1;
    no_range_left = empty_at_end.0;
    no_verdict_left = empty_at_end.1;
    line = line_small;
    keep = keep_small;
    flag = flag_small;
    constant = constant_valued;
  }

module _ (s : ClearedSheet) where
  -- a cleared sheet breaks no rule
  pub is_cleared : (filing (cleared_bytes s) ≡ None) × (clearing (cleared_bytes s) ≡ None)
  is_cleared = (none_from (filing (cleared_bytes s)) s.sheet.filed, none_from (clearing (cleared_bytes s)) s.cleared)

  pub count : length (instructions_of s) ≡ instruction_count (cleared_bytes s)
  count = count_from (cleared_bytes s) s.cleared

  -- it has from 1 to 4096 instructions
  pub counted : (1 ≤ length (instructions_of s)) × (length (instructions_of s) ≤ 4096)
  counted = let n = count in let l = accepted (cleared_bytes s) s.sheet.filed in (omega (arith, l.some_instruction), omega (arith, l.few_instructions))

  -- it can be worked
  pub workable : Workable (instructions_of s)
  workable = workable_from (cleared_bytes s) s.cleared
