-- What an instruction does to the depths of the piles and to which lines are set, in whichever reading. Assumes nothing.
use Rattle.std.proofs.Common.{◌≡◌, ℕ, zero, suc, ◌+◌, ◌-◌, ◌<◌, Bool, true, false, ◌&&◌, ◌||◌, List, [], ◌∷◌, length, get_or, set, is_some, Some, None, Option, sym, refl, ap, ◌∙◌, subst, arith, length-set}
use Rattle.std.proofs.lemmas.Bool.{false≢true, eqb-true}
use Rattle.std.proofs.lemmas.List.{get_or-set_same}
use Rattle.number.specs.Number.{Number}
use Rattle.number.specs.Place.{Sums, Differences, Products, Quotients}
use Rattle.range.specs.declared.range.Range.{Range}
use Rattle.range.specs.declared.verdict.Verdict.{Verdict}
use Rattle.range.specs.Outcomes.{Negations, Squares, Lesser, Greater, Either, Both}
use Rattle.range.specs.Truths.{Less, IsAtMost, Equal}
use Rattle.sheet.specs.declared.instruction.Instruction.{Instruction}
use Rattle.sheet.specs.declared.instruction.Instruction.TheVariants as I
use Rattle.sheet.specs.declared.operation.Argument.TheVariants.{Unused}
use Rattle.sheet.specs.Depths.{after}
use Rattle.sheet.specs.Instructions.{operation}
use Rattle.sheet.specs.Lines.{keeps}
use Rattle.sheet.specs.Operations.{shape, shape_by}
use Rattle.pad.specs.Boards.{line_at}
use Rattle.pad.specs.Working.{Reading, State, state, One, Two, Compare, Combine, Step}

pub record Effect (x : Instruction) (s t : State) : Type 0 where
  pub ranges : length t.ranges ≡ after (shape (operation x)).ranges (length s.ranges)
  pub verdicts : length t.verdicts ≡ after (shape (operation x)).verdicts (length s.verdicts)
  -- a line that was set still is, and so is one that the instruction keeps
  pub still : (a : ℕ) → is_some (line_at s.board a) ≡ true → is_some (line_at t.board a) ≡ true
  pub kept : (a : ℕ) → a < length s.board.lines.cells → keeps (Some x) a ≡ true → is_some (line_at t.board a) ≡ true
  pub cells : length t.board.lines.cells ≡ length s.board.lines.cells

still_set : {A : Type 0} (cells : List (Option A)) (a b : ℕ) (r : A) → is_some (get_or cells a None) ≡ true → is_some (get_or (set cells b (Some r)) a None) ≡ true
still_set [] a b r e = e
still_set (x ∷ cells) zero zero r e = refl
still_set (x ∷ cells) zero (suc b) r e = e
still_set (x ∷ cells) (suc a) zero r e = e
still_set (x ∷ cells) (suc a) (suc b) r e = still_set cells a b r e

now_set : {A : Type 0} (cells : List (Option A)) (a : ℕ) (r : A) → a < length cells → is_some (get_or (set cells a (Some r)) a None) ≡ true
now_set cells a r h = ap is_some (get_or-set_same cells a (Some r) None h)

-- the board stays as it is
module _ (x : Instruction) (s t : State) (other : (a : ℕ) → keeps (Some x) a ≡ false) where
  unmoved : (rs : List Range) (vs : List Verdict) → t ≡ state rs vs s.board
      → length rs ≡ after (shape (operation x)).ranges (length s.ranges)
      → length vs ≡ after (shape (operation x)).verdicts (length s.verdicts)
      → Effect x s t
  unmoved rs vs e r v = record {
    ranges = ap (λ z. length z.ranges) e ∙ r;
    verdicts = ap (λ z. length z.verdicts) e ∙ v;
    still = λ a h. ap (λ z. is_some (line_at z.board a)) e ∙ h;
    kept = λ a l h. absurd (false≢true (sym (other a) ∙ h));
    cells = ap (λ z. length z.board.lines.cells) e;
  }

  module _ (ρ : Reading) where
    two : (O : (Number → Type 0) → (Number → Type 0) → Number → Type 0) → shape (operation x) ≡ shape_by Unused 2 1 0 0 → Two ρ O s t → Effect x s t
    two O h w =
        let l : length s.ranges ≡ suc (suc (length w.3)) = ap length w.4 in
        let r : suc (length w.3) ≡ length s.ranges - 2 + 1 = omega arith in
        let v : length s.verdicts ≡ length s.verdicts - 0 + 0 = omega arith in
        unmoved (w.2 ∷ w.3) s.verdicts w.6
        (r ∙ ap (λ z. after z.ranges (length s.ranges)) (sym h)) (v ∙ ap (λ z. after z.verdicts (length s.verdicts)) (sym h))

    one : (O : (Number → Type 0) → Number → Type 0) → shape (operation x) ≡ shape_by Unused 1 1 0 0 → One ρ O s t → Effect x s t
    one O h w =
        let l : length s.ranges ≡ suc (length w.2) = ap length w.3 in
        let r : suc (length w.2) ≡ length s.ranges - 1 + 1 = omega arith in
        let v : length s.verdicts ≡ length s.verdicts - 0 + 0 = omega arith in
        unmoved (w.1 ∷ w.2) s.verdicts w.5
        (r ∙ ap (λ z. after z.ranges (length s.ranges)) (sym h)) (v ∙ ap (λ z. after z.verdicts (length s.verdicts)) (sym h))

    compare : (C : Number → Number → Bool → Type 0) → shape (operation x) ≡ shape_by Unused 2 0 0 1 → Compare ρ C s t → Effect x s t
    compare C h w =
        let l : length s.ranges ≡ suc (suc (length w.3)) = ap length w.4 in
        let r : length w.3 ≡ length s.ranges - 2 + 0 = omega arith in
        let v : suc (length s.verdicts) ≡ length s.verdicts - 0 + 1 = omega arith in
        unmoved w.3 (w.2 ∷ s.verdicts) w.6
        (r ∙ ap (λ z. after z.ranges (length s.ranges)) (sym h)) (v ∙ ap (λ z. after z.verdicts (length s.verdicts)) (sym h))

    combine : (f : Bool → Bool → Bool) → shape (operation x) ≡ shape_by Unused 0 0 2 1 → Combine ρ f s t → Effect x s t
    combine f h w =
        let l : length s.verdicts ≡ suc (suc (length w.3)) = ap length w.4 in
        let r : length s.ranges ≡ length s.ranges - 0 + 0 = omega arith in
        let v : suc (length w.3) ≡ length s.verdicts - 2 + 1 = omega arith in
        unmoved s.ranges (w.2 ∷ w.3) w.6
        (r ∙ ap (λ z. after z.ranges (length s.ranges)) (sym h)) (v ∙ ap (λ z. after z.verdicts (length s.verdicts)) (sym h))

module _ (ρ : Reading) where
  pub effect : (x : Instruction) (s t : State) → Step ρ x s t → Effect x s t
  effect (I.Line a) s t w = unmoved (I.Line a) s t (λ _. refl) (w.1 ∷ s.ranges) s.verdicts w.4 (omega arith) (omega arith)
  effect (I.Constant f) s t w = unmoved (I.Constant f) s t (λ _. refl) (w.0 ∷ s.ranges) s.verdicts w.2 (omega arith) (omega arith)
  effect (I.Keep b) s t w =
      let l : length s.ranges ≡ suc (length w.2) = ap length w.3 in
      let r : length w.2 ≡ length s.ranges - 1 + 0 = omega arith in
      let v : length s.verdicts ≡ length s.verdicts - 0 + 0 = omega arith in
      record {
        ranges = ap (λ z. length z.ranges) w.5 ∙ r;
        verdicts = ap (λ z. length z.verdicts) w.5 ∙ v;
        still = λ a h. ap (λ z. is_some (line_at z.board a)) w.5 ∙ still_set s.board.lines.cells a b w.1 h;
        kept = λ a h k. ap (λ z. is_some (line_at z.board a)) w.5 ∙ subst (λ n. is_some (get_or (set s.board.lines.cells n (Some w.1)) a None) ≡ true) (sym (eqb-true b a k)) (now_set s.board.lines.cells a w.1 h);
        cells = ap (λ z. length z.board.lines.cells) w.5 ∙ length-set s.board.lines.cells b (Some w.1);
      }
  effect (I.Flag b) s t w =
      let l : length s.verdicts ≡ suc (length w.2) = ap length w.3 in
      let r : length s.ranges ≡ length s.ranges - 0 + 0 = omega arith in
      let v : length w.2 ≡ length s.verdicts - 1 + 0 = omega arith in
      record {
        ranges = ap (λ z. length z.ranges) w.5 ∙ r;
        verdicts = ap (λ z. length z.verdicts) w.5 ∙ v;
        still = λ a h. ap (λ z. is_some (line_at z.board a)) w.5 ∙ h;
        kept = λ a h k. absurd (false≢true k);
        cells = ap (λ z. length z.board.lines.cells) w.5;
      }
  effect I.Again s t w =
      let l : length s.ranges ≡ suc (length w.3) = ap length w.4 in
      unmoved I.Again s t (λ _. refl) (w.2 ∷ (w.1 ∷ w.3)) s.verdicts w.7 (omega arith) (omega arith)
  effect I.Plus s t w = two I.Plus s t (λ _. refl) ρ Sums refl w
  effect I.Minus s t w = two I.Minus s t (λ _. refl) ρ Differences refl w
  effect I.Times s t w = two I.Times s t (λ _. refl) ρ Products refl w
  effect I.Over s t w = two I.Over s t (λ _. refl) ρ Quotients refl w
  effect I.Parted s t w =
      let l : length s.ranges ≡ suc (suc (length w.4)) = ap length w.5 in
      unmoved I.Parted s t (λ _. refl) (w.3 ∷ (w.2 ∷ w.4)) s.verdicts w.8 (omega arith) (omega arith)
  effect I.Negate s t w = one I.Negate s t (λ _. refl) ρ Negations refl w
  effect I.Square s t w = one I.Square s t (λ _. refl) ρ Squares refl w
  effect I.Lesser s t w = two I.Lesser s t (λ _. refl) ρ Lesser refl w
  effect I.Greater s t w = two I.Greater s t (λ _. refl) ρ Greater refl w
  effect I.Join s t w = two I.Join s t (λ _. refl) ρ Either refl w
  effect I.Meet s t w = two I.Meet s t (λ _. refl) ρ Both refl w
  effect I.Less s t w = compare I.Less s t (λ _. refl) ρ Less refl w
  effect I.AtMost s t w = compare I.AtMost s t (λ _. refl) ρ IsAtMost refl w
  effect I.Equal s t w = compare I.Equal s t (λ _. refl) ρ Equal refl w
  effect I.And s t w = combine I.And s t (λ _. refl) ρ ◌&&◌ refl w
  effect I.Or s t w = combine I.Or s t (λ _. refl) ρ ◌||◌ refl w
  effect I.Not s t w =
      let l : length s.verdicts ≡ suc (length w.2) = ap length w.3 in
      unmoved I.Not s t (λ _. refl) s.ranges (w.1 ∷ w.2) w.5 (omega arith) (omega arith)
  effect I.Pick s t w =
      let l : length s.ranges ≡ suc (suc (length w.5)) = ap length w.7 in
      let k : length s.verdicts ≡ suc (length w.4) = ap length w.6 in
      unmoved I.Pick s t (λ _. refl) (w.3 ∷ w.5) w.4 w.9 (omega arith) (omega arith)
