-- Laws of the lines that a list of instructions reads before it keeps them. Assumes nothing.
use Rattle.std.proofs.Common.{◌≡◌, ℕ, zero, suc, ◌+◌, ◌<◌, Bool, true, false, not, ◌&&◌, ◌||◌, ◌⊎◌, List, length, Some, Option, sym, refl, ap, ◌∙◌, subst, inl, inr, arith}
use Rattle.std.proofs.lemmas.Bool.{false≢true, both_ways, eq-eqb, cases_eq, cases_Bool, and_parts, and_from, or_cases, or_left, or_right, not-true, not_from_false}
use Rattle.std.proofs.lemmas.Bool.Decides.{nat_tests}
use Rattle.std.specs.List.{slice_get}
use Rattle.sheet.specs.declared.instruction.Instruction.{Instruction}
use Rattle.sheet.specs.declared.instruction.Instruction.TheVariants.{Line, Keep}
use Rattle.sheet.specs.Lines.{any_below, reads, keeps, kept_before, reads_first}
use Rattle.sheet.proofs.Walks.{any_next}

-- a test that holds below n
pub any_at : (t : ℕ → Bool) (n i : ℕ) → i < n → t i ≡ true → any_below t n ≡ true
unfolding any_below
any_at t zero i h e = absurd (omega arith)
any_at t (suc n) i h e = elim (cases_eq n i) [ inl q ↦ or_right (any_below t n) (t n) (subst (λ j. t j ≡ true) (sym q) e) | inr q ↦ or_left (any_below t n) (t n) (any_at t n i (omega arith) e) ]

pub any_from : (t : ℕ → Bool) (n : ℕ) → any_below t n ≡ true → (i : ℕ) × (i < n) × (t i ≡ true)
unfolding any_below
any_from t zero e = absurd (false≢true e)
any_from t (suc n) e = elim (or_cases (any_below t n) (t n) e) [ inl q ↦ (let r = any_from t n q in let h : r.0 < suc n = omega (arith, r.1) in (r.0, h, r.2)) | inr q ↦ (n, omega arith, q) ]

-- only the instruction `Line a` reads the line a, and only `Keep a` keeps it
pub reads_is : (o : Option Instruction) (a : ℕ) → reads o a ≡ true → o ≡ Some (Line a)
reads_is o a e = grind (arith, nat_tests)

pub keeps_is : (o : Option Instruction) (a : ℕ) → keeps o a ≡ true → o ≡ Some (Keep a)
keeps_is o a e = grind (arith, nat_tests)

module _ (xs : List Instruction) (a : ℕ) where
  -- a line that is read was kept before, or is read first
  pub read_kept_or_first : (i : ℕ) → i < length xs → slice_get xs i ≡ Some (Line a) → (kept_before xs a i ≡ true) ⊎ (reads_first xs a ≡ true)
  read_kept_or_first i h e =
      let r : reads (slice_get xs i) a ≡ true = ap (λ o. reads o a) e ∙ eq-eqb a a refl in
      elim (cases_Bool (kept_before xs a i)) [ inl k ↦ inl k | inr k ↦ inr (any_at (λ j. reads (slice_get xs j) a && not (kept_before xs a j)) (length xs) i h (and_from (reads (slice_get xs i) a) (not (kept_before xs a i)) r (not_from_false (kept_before xs a i) k))) ]

  -- a line that is read first: where
  pub first_read_at : reads_first xs a ≡ true → (i : ℕ) × (i < length xs) × (slice_get xs i ≡ Some (Line a)) × (kept_before xs a i ≡ false)
  first_read_at e =
      let r = any_from (λ j. reads (slice_get xs j) a && not (kept_before xs a j)) (length xs) e in
      let b = and_parts (reads (slice_get xs r.0) a) (not (kept_before xs a r.0)) r.2 in
      (r.0, r.1, reads_is (slice_get xs r.0) a b.0, not-true (kept_before xs a r.0) b.1)

  pub first_read_from : (i : ℕ) → i < length xs → slice_get xs i ≡ Some (Line a) → kept_before xs a i ≡ false → reads_first xs a ≡ true
  first_read_from i h e k = elim (read_kept_or_first i h e) [ inl t ↦ absurd (both_ways (kept_before xs a i) k t) | inr r ↦ r ]

  -- a line that is kept before the instruction i: where
  pub kept_at : (i : ℕ) → kept_before xs a i ≡ true → (j : ℕ) × (j < i) × (slice_get xs j ≡ Some (Keep a))
  kept_at i e = let r = any_from (λ j. keeps (slice_get xs j) a) i e in (r.0, r.1, keeps_is (slice_get xs r.0) a r.2)

  pub kept_from : (i j : ℕ) → j < i → slice_get xs j ≡ Some (Keep a) → kept_before xs a i ≡ true
  kept_from i j h e = any_at (λ j. keeps (slice_get xs j) a) i j h (ap (λ o. keeps o a) e ∙ eq-eqb a a refl)

  -- one instruction more
  pub kept_next : (i : ℕ) → kept_before xs a (i + 1) ≡ (kept_before xs a i || keeps (slice_get xs i) a)
  kept_next = any_next (λ j. keeps (slice_get xs j) a)
