-- Depths and tests along a list of moves: one step, and two walks that agree. Assumes nothing.
use Rattle.std.proofs.Common.{◌≡◌, ℕ, zero, suc, ◌+◌, ◌<◌, ◌≤◌, max, Bool, not, ◌&&◌, ◌||◌, refl, ap, ◌∙◌, subst, inl, inr, add-one, arith}
use Rattle.std.proofs.lemmas.Bool.{cases_eq, cases_lt}
use Rattle.sheet.specs.declared.operation.Move.{Move}
use Rattle.sheet.specs.Depths.{after, depth, greatest}
use Rattle.sheet.specs.Lines.{any_below, first_read}

pub depth_next : (m : ℕ → Move) (i : ℕ) → depth m (i + 1) ≡ after (m i) (depth m i)
unfolding depth
depth_next m i = rw add-one

pub greatest_next : (m : ℕ → Move) (i : ℕ) → greatest m (i + 1) ≡ max (greatest m i) (depth m (i + 1))
unfolding greatest
greatest_next m i = rw add-one

pub any_next : (t : ℕ → Bool) (i : ℕ) → any_below t (i + 1) ≡ (any_below t i || t i)
unfolding any_below
any_next t i = rw add-one

module _ (m n : ℕ → Move) where
  pub depth_same : (e : ℕ) → ((i : ℕ) → i < e → m i ≡ n i) → depth m e ≡ depth n e
  unfolding depth
  depth_same zero h = refl
  depth_same (suc e) h = (λ i. after (h e (omega arith) i) (depth m e)) ∙ ap (after (n e)) (depth_same e (λ i l. h i (omega arith)))

  pub greatest_same : (e : ℕ) → ((i : ℕ) → i < e → m i ≡ n i) → greatest m e ≡ greatest n e
  unfolding greatest
  greatest_same zero h = refl
  greatest_same (suc e) h = ap (λ g. max g (depth m (suc e))) (greatest_same e (λ i l. h i (omega arith))) ∙ ap (max (greatest n e)) (depth_same (suc e) h)

pub any_same : (s t : ℕ → Bool) (e : ℕ) → ((i : ℕ) → i < e → s i ≡ t i) → any_below s e ≡ any_below t e
unfolding any_below
any_same s t zero h = refl
any_same s t (suc e) h = ap (λ b. b || s e) (any_same s t e (λ i l. h i (omega arith))) ∙ ap (λ b. any_below t e || b) (h e (omega arith))

pub first_read_same : (r s k l : ℕ → Bool) (e : ℕ) → ((i : ℕ) → i < e → r i ≡ s i) → ((i : ℕ) → i < e → k i ≡ l i) → first_read r k e ≡ first_read s l e
first_read_same r s k l e h g =
    any_same (λ i. r i && not (any_below k i)) (λ i. s i && not (any_below l i)) e
    (λ i b. ap (λ x. x && not (any_below k i)) (h i b) ∙ ap (λ x. s i && not x) (any_same k l i (λ j c. g j (omega arith))))

-- the greatest depth is not exceeded, and is reached
module _ (m : ℕ → Move) where
  pub within_greatest : (n i : ℕ) → i ≤ n → depth m i ≤ greatest m n
  unfolding depth greatest
  within_greatest zero i h = let e : 0 ≡ i = omega arith in subst (λ j. depth m j ≤ 0) e (omega arith)
  within_greatest (suc n) i h = elim (cases_eq (suc n) i) [ inl e ↦ subst (λ j. depth m j ≤ greatest m (suc n)) e (omega arith) | inr e ↦ (let b : i ≤ n = omega arith in omega (arith, within_greatest n i b)) ]

  pub greatest_reached : (n : ℕ) → (i : ℕ) × (i ≤ n) × (depth m i ≡ greatest m n)
  unfolding depth greatest
  greatest_reached zero = (0, omega arith, refl)
  greatest_reached (suc n) =
      let r = greatest_reached n in
      elim (cases_lt (greatest m n) (depth m (suc n))) [ inl l ↦ (suc n, omega arith, omega arith) | inr l ↦ (r.0, omega (arith, r.1), omega (arith, r.2)) ]
