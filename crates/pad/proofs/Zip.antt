-- Relations between options, and between lists place by place: reading, setting and filling. Assumes nothing.
--     All P o            P holds of what is there
--     Agreeing P o u     P holds of the two, where both are there
--     Rel P o u          P holds of the two, or neither is there
use Rattle.std.proofs.Common.{◌≡◌, ℕ, zero, suc, List, ◌∷◌, map, get_or, set, replicate, is_some, Some, None, Option, sym, refl, subst, subst₂}
use mathlib.Core.List.{Forall₂, Forall₂-cons}

pub data All {A : Type 0} (P : A → Type 0) : Option A → Type 0 where
  none : All P None
  some : {a : A} → P a → All P (Some a)

pub all_some : {A : Type 0} {P : A → Type 0} {a : A} → All P (Some a) → P a
all_some (some h) = h

pub all_map : {A : Type 0} {P Q : A → Type 0} {o : Option A} → ((a : A) → P a → Q a) → All P o → All Q o
all_map f none = none
all_map f (some {a} h) = some (f a h)

module _ {A : Type 0} {P : A → Type 0} where
  pub there : {o : Option A} {a : A} → o ≡ Some a → P a → All P o
  there e h = subst (All P) (sym e) (some h)

  pub missing : {o : Option A} → o ≡ None → All P o
  missing e = subst (All P) (sym e) none

abbrev pub Agreeing : {A B : Type 0} → (A → B → Type 0) → Option A → Option B → Type 0
Agreeing P o u = All (λ a. All (P a) u) o

pub data Rel {A B : Type 0} (P : A → B → Type 0) : Option A → Option B → Type 0 where
  neither : Rel P None None
  both : {a : A} {b : B} → P a b → Rel P (Some a) (Some b)

pub rel_both : {A B : Type 0} {P : A → B → Type 0} {a : A} {b : B} → Rel P (Some a) (Some b) → P a b
rel_both (both h) = h

module _ {A B : Type 0} {P : A → B → Type 0} where
  pub uncons : {xs ys : List A} {us vs : List B} {x : A} {u : B} → xs ≡ x ∷ ys → us ≡ u ∷ vs → Forall₂ P xs us → P x u × Forall₂ P ys vs
  uncons e f z = Forall₂-cons.0 (subst₂ (Forall₂ P) e f z)

  pub uncons₂ : {xs ys : List A} {us vs : List B} {x y : A} {u v : B} → xs ≡ x ∷ (y ∷ ys) → us ≡ u ∷ (v ∷ vs) → Forall₂ P xs us → P x u × P y v × Forall₂ P ys vs
  uncons₂ e f z = let h = uncons e f z in let k = Forall₂-cons.0 h.1 in (h.0, k.0, k.1)

  pub zip_at : {xs : List A} {us : List B} → Forall₂ P xs us → (i : ℕ) {x : A} {u : B} → P x u → P (get_or xs i x) (get_or us i u)
  zip_at Forall₂.nil i h = h
  zip_at (Forall₂.cons k z) zero h = k
  zip_at (Forall₂.cons k z) (suc i) h = zip_at z i h

  pub zip_set : {xs : List A} {us : List B} → Forall₂ P xs us → (i : ℕ) {x : A} {u : B} → P x u → Forall₂ P (set xs i x) (set us i u)
  zip_set Forall₂.nil i h = Forall₂.nil
  zip_set (Forall₂.cons k z) zero h = Forall₂.cons h z
  zip_set (Forall₂.cons k z) (suc i) h = Forall₂.cons k (zip_set z i h)

  pub zip_replicate : (n : ℕ) (x : A) (u : B) → P x u → Forall₂ P (replicate n x) (replicate n u)
  zip_replicate zero x u h = Forall₂.nil
  zip_replicate (suc n) x u h = Forall₂.cons h (zip_replicate n x u h)

module _ {A B : Type 0} {P : A → B → Type 0} where
  pub agreeing_at : {xs : List (Option A)} {us : List (Option B)} {x : A} → Forall₂ (Agreeing P) xs us → (i : ℕ) → get_or xs i None ≡ Some x → All (P x) (get_or us i None)
  agreeing_at {us} z i e = all_some (subst (λ o. Agreeing P o (get_or us i None)) e (zip_at z i none))

  pub rel_at : {xs : List (Option A)} {us : List (Option B)} {x : A} {u : B} → Forall₂ (Rel P) xs us → (i : ℕ) → get_or xs i None ≡ Some x → get_or us i None ≡ Some u → P x u
  rel_at z i e f = rel_both (subst₂ (Rel P) e f (zip_at z i neither))

  -- the same are there
  same_some : {o : Option A} {u : Option B} → Rel P o u → is_some o ≡ is_some u
  same_some neither = refl
  same_some (both h) = refl

  pub same_set : {xs : List (Option A)} {us : List (Option B)} → Forall₂ (Rel P) xs us → map is_some xs ≡ map is_some us
  same_set Forall₂.nil = refl
  same_set (Forall₂.cons h z) = let e = same_some h in let f = same_set z in cc
