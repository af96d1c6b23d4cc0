-- Texts of a row, one after the other. Assumes nothing.
use Rattle.std.proofs.Common.{◌≡◌, ℕ, zero, suc, ◌+◌, ◌<◌, List, [], ◌++◌, IsSome, unwrap_or, Some, None, Option, sym, refl, ◌∙◌, subst, append-nil, arith}
use Rattle.std.specs.Fmt.{AppendsText}
use Rattle.program.specs.Text.{Joined, Told}

module _ (P : ℕ → List ℕ → Type 0) where
  -- none of a row, and one more
  pub joined_none : (t : List ℕ) → t ≡ [] → Joined P 0 t
  unfolding Joined
  joined_none t e = e

  pub joined_more : (n : ℕ) (s u t : List ℕ) → Joined P n s → P n u → t ≡ s ++ u → Joined P (n + 1) t
  unfolding Joined
  joined_more n s u t j h e = let k : suc n ≡ n + 1 = omega arith in subst (λ m. Joined P m t) k (s, u, j, h, e)

  -- a row of which more is known
  pub joined_weaker : (Q : ℕ → List ℕ → Type 0) (n : ℕ) (t : List ℕ) → ((k : ℕ) → k < n → (u : List ℕ) → P k u → Q k u) → Joined P n t → Joined Q n t
  unfolding Joined
  joined_weaker Q zero t f j = j
  joined_weaker Q (suc n) t f j = (j.0, j.1, joined_weaker Q n j.0 (λ k l. f k (omega arith)) j.2, f n (omega arith) j.1 j.3, j.4)

module _ {A : Type 0} (tells : ℕ → Option A → Type 0) (text : A → Option (List ℕ)) where
  pub told_some : (n : ℕ) (s t : List ℕ) (x : A) → Joined (Told tells text) n s → tells n (Some x) → IsSome (text x) → AppendsText s t (text x) → Joined (Told tells text) (n + 1) t
  told_some n s t x j h k a = joined_more (Told tells text) n s (unwrap_or (text x) []) t j (Some x, h, refl) (by (text x) k a)
    where
      by : (o : Option (List ℕ)) → IsSome o → AppendsText s t o → t ≡ s ++ unwrap_or o []
      by (Some b) k a = a
      by None k a = absurd (let z : ◌≡◌ {A = ℕ} 0 1 = cc in omega arith)

  pub told_none : (n : ℕ) (s t : List ℕ) → Joined (Told tells text) n s → tells n None → t ≡ s → Joined (Told tells text) (n + 1) t
  told_none n s t j h e = joined_more (Told tells text) n s [] t j (None, h, refl) (e ∙ sym (append-nil s))
