-- The first broken rule below a number. Assumes nothing.
use Rattle.std.proofs.Common.{◌≡◌, ℕ, zero, suc, ◌+◌, ◌<◌, ◌≤◌, Some, None, Option, refl, sym, subst, inl, inr, add-one, arith}
use Rattle.std.proofs.lemmas.Bool.{cases_eq}
use Rattle.fault.specs.declared.Refusal.{Refusal}
use Rattle.sheet.specs.Rules.{first, first_below}

-- both are kept where the first of two is
pub first_none : (o p : Option Refusal) → first o p ≡ None → (o ≡ None) × (p ≡ None)
first_none o p e = grind arith

pub first_after : (o p q : Option Refusal) → o ≡ None → p ≡ q → first o p ≡ q
first_after o p q e f = grind arith

pub first_found : (o p : Option Refusal) (r : Refusal) → o ≡ Some r → first o p ≡ Some r
first_found o p r e = grind arith

module _ (f : ℕ → Option Refusal) where
  pub below_none : first_below f 0 ≡ None
  unfolding first_below
  below_none = refl

  -- one more
  pub below_next : (i : ℕ) (o : Option Refusal) → first_below f i ≡ None → f i ≡ o → first_below f (i + 1) ≡ o
  unfolding first_below
  below_next i o e h = rw add-one (first_after (first_below f i) (f i) o e h)

  -- a refusal stays the first
  pub below_later : (i n : ℕ) (r : Refusal) → first_below f i ≡ Some r → i ≤ n → first_below f n ≡ Some r
  unfolding first_below
  below_later i zero r e h = let k : i ≡ zero = omega arith in subst (λ m. first_below f m ≡ Some r) k e
  below_later i (suc n) r e h =
      elim (cases_eq (suc n) i) [ inl q ↦ subst (λ m. first_below f m ≡ Some r) (sym q) e | inr q ↦ first_found (first_below f n) (f n) r (below_later i n r e (omega arith)) ]

  -- no rule is broken below n
  pub below_kept : (n i : ℕ) → first_below f n ≡ None → i < n → f i ≡ None
  unfolding first_below
  below_kept zero i e h = absurd (omega arith)
  below_kept (suc n) i e h =
      let b = first_none (first_below f n) (f n) e in
      elim (cases_eq n i) [ inl q ↦ subst (λ m. f m ≡ None) q b.1 | inr q ↦ below_kept n i b.0 (omega arith) ]
