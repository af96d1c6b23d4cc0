-- Places: the order, and how sums, products and negation go with it. Assumes nothing.
--     ⊑_elim            what holds below plus infinity, above minus infinity and between numbers holds of any two places in order
--     mono_or_anti      the product with a place y goes up with the other factor (Mono y), or down (Anti y)
--     corners_inside    what is not above the four products of ends is not above a product of places between them
use Rattle.std.proofs.Common.{◌≡◌, ℕ, zero, suc, ◌<◌, ◌⊎◌, ℤ, pos, negsuc, neg_ℤ, sym, refl, ap, subst, subst₂, inl, inr, ⊎_elim, arith}
use Rattle.number.specs.Number.{Number, fraction, ◌≼◌, ◌≃◌, nought}
use Rattle.number.specs.Place.{Place, −∞, at, +∞, ◌⊑◌, opp}
use Rattle.number.specs.Ends.{◌⊹◌, far, far⁻, ◌⊙◌, Corners}
use Rattle.number.proofs.Fractions.{⟨◌⟩, ◌⊠◌, ≼_in, ≼_out, ≼_refl, ≼_trans, ≼_antisym, ≼_or_≺, ≺-≼, ≺_not_≼, ≃-≼, plus_mono, times_mono, times_comm, by_positive, nought_top}
use Rattle.number.proofs.Fractions.{neg_neg, neg_≼, plus_neg, times_neg}

-- ---- the order of places
pub −∞_least : {q : Place} → −∞ ⊑ q
−∞_least = record { le = tt }

pub +∞_greatest : {p : Place} → p ⊑ +∞
+∞_greatest {p = −∞} = record { le = tt }
+∞_greatest {p = at x} = record { le = tt }
+∞_greatest {p = +∞} = record { le = tt }

pub at_⊑ : {x y : Number} → x ≼ y → at x ⊑ at y
at_⊑ h = record { le = h }

pub ⊑_at : {x y : Number} → at x ⊑ at y → x ≼ y
⊑_at h = h.le

-- a number is not below minus infinity, nor above plus infinity
pub at_not_⊑-−∞ : {x : Number} → ¬ (at x ⊑ −∞)
at_not_⊑-−∞ h = h.le

pub +∞_not_⊑_at : {x : Number} → ¬ (+∞ ⊑ at x)
+∞_not_⊑_at h = h.le

pub +∞_not_⊑-−∞ : ¬ (+∞ ⊑ −∞)
+∞_not_⊑-−∞ h = h.le

pub ⊑_elim : (P : Place → Place → Type 0) → ((q : Place) → P −∞ q) → ((p : Place) → P p +∞) → ((x y : Number) → x ≼ y → P (at x) (at y)) → {p q : Place} → p ⊑ q → P p q
⊑_elim P f g k {p = −∞} {q} h = f q
⊑_elim P f g k {p = at x} {q = −∞} h = absurd h.le
⊑_elim P f g k {p = at x} {q = at y} h = k x y h.le
⊑_elim P f g k {p = at x} {q = +∞} h = g (at x)
⊑_elim P f g k {p = +∞} {q = −∞} h = absurd h.le
⊑_elim P f g k {p = +∞} {q = at y} h = absurd h.le
⊑_elim P f g k {p = +∞} {q = +∞} h = g +∞

pub ⊑_refl : {p : Place} → p ⊑ p
⊑_refl {p = −∞} = −∞_least
⊑_refl {p = at x} = at_⊑ ≼_refl
⊑_refl {p = +∞} = +∞_greatest

pub ⊑_trans : {p q r : Place} → p ⊑ q → q ⊑ r → p ⊑ r
⊑_trans {p = −∞} h k = −∞_least
⊑_trans {p = at x} {q = −∞} h k = absurd h.le
⊑_trans {p = at x} {q = at y} {r = −∞} h k = absurd k.le
⊑_trans {p = at x} {q = at y} {r = at z} h k = at_⊑ (≼_trans h.le k.le)
⊑_trans {p = at x} {q = at y} {r = +∞} h k = +∞_greatest
⊑_trans {p = at x} {q = +∞} {r = −∞} h k = absurd k.le
⊑_trans {p = at x} {q = +∞} {r = at z} h k = absurd k.le
⊑_trans {p = at x} {q = +∞} {r = +∞} h k = +∞_greatest
⊑_trans {p = +∞} {q = −∞} h k = absurd h.le
⊑_trans {p = +∞} {q = at y} h k = absurd h.le
⊑_trans {p = +∞} {q = +∞} h k = k

pub ⊑_or : (p q : Place) → (p ⊑ q) ⊎ (q ⊑ p)
⊑_or −∞ q = inl −∞_least
⊑_or (at x) −∞ = inr −∞_least
⊑_or (at x) (at y) = ⊎_elim (λ h. inl (at_⊑ h)) (λ h. inr (at_⊑ (≺-≼ h))) (≼_or_≺ x y)
⊑_or (at x) +∞ = inl +∞_greatest
⊑_or +∞ q = inr +∞_greatest

pub ⊑_or_not : (p q : Place) → (p ⊑ q) ⊎ ¬ (p ⊑ q)
⊑_or_not −∞ q = inl −∞_least
⊑_or_not (at x) −∞ = inr at_not_⊑-−∞
⊑_or_not (at x) (at y) = ⊎_elim (λ h. inl (at_⊑ h)) (λ h. inr (λ k. ≺_not_≼ h (⊑_at k))) (≼_or_≺ x y)
⊑_or_not (at x) +∞ = inl +∞_greatest
⊑_or_not +∞ −∞ = inr +∞_not_⊑-−∞
⊑_or_not +∞ (at y) = inr +∞_not_⊑_at
⊑_or_not +∞ +∞ = inl +∞_greatest

-- the infinities are alone at their ends
pub ⊑-−∞ : {p : Place} → p ⊑ −∞ → p ≡ −∞
⊑-−∞ {p = −∞} h = refl
⊑-−∞ {p = at x} h = absurd h.le
⊑-−∞ {p = +∞} h = absurd h.le

pub +∞-⊑ : {q : Place} → +∞ ⊑ q → q ≡ +∞
+∞-⊑ {q = −∞} h = absurd h.le
+∞-⊑ {q = at x} h = absurd h.le
+∞-⊑ {q = +∞} h = refl

-- ---- negation turns the order round
pub opp_opp : (p : Place) → opp (opp p) ≡ p
opp_opp −∞ = refl
opp_opp (at x) = ap at (neg_neg x)
opp_opp +∞ = refl

pub opp_⊑ : {p q : Place} → p ⊑ q → opp q ⊑ opp p
opp_⊑ = ⊑_elim (λ p q. opp q ⊑ opp p) (λ q. +∞_greatest) (λ p. −∞_least) (λ x y h. at_⊑ (neg_≼ h))

pub opp_turn : {p q : Place} → p ⊑ opp q → q ⊑ opp p
opp_turn {p} {q} h = rw (opp_opp q) at (opp_⊑ h)

pub opp_back : {p q : Place} → opp p ⊑ q → opp q ⊑ p
opp_back {p} {q} h = rw (opp_opp p) at (opp_⊑ h)

pub opp_both : {p q : Place} → opp p ⊑ opp q → q ⊑ p
opp_both {p} {q} h = rw (opp_opp p) at (opp_turn h)

-- ---- sums
pub ⊹_mono : {u u' v v' : Place} → u ⊑ u' → v ⊑ v' → u ⊹ v ⊑ u' ⊹ v'
⊹_mono {u} {u'} {v} {v'} h k = ⊑_elim (λ u u'. u ⊹ v ⊑ u' ⊹ v') (λ u'. −∞_least) (λ u. +∞_greatest) numbers h
  where
    numbers : (x y : Number) → x ≼ y → at x ⊹ v ⊑ at y ⊹ v'
    numbers x y l = ⊑_elim (λ v v'. at x ⊹ v ⊑ at y ⊹ v') (λ v'. −∞_least) (λ v. +∞_greatest) (λ z w m. at_⊑ (plus_mono l m)) k

pub ⊹_opp : (u v : Place) → opp u ⊹ opp v ≡ opp (u ⊹ v)
⊹_opp −∞ v = refl
⊹_opp (at x) −∞ = refl
⊹_opp (at x) (at y) = ap at (plus_neg x y)
⊹_opp (at x) +∞ = refl
⊹_opp +∞ v = refl

-- ---- products
far_opp : (t : ℤ) → (far⁻ t ≡ opp (far t)) × (far t ≡ opp (far⁻ t)) × (far (neg_ℤ t) ≡ opp (far t)) × (far⁻ (neg_ℤ t) ≡ opp (far⁻ t))
far_opp (pos zero) = (refl, refl, refl, refl)
far_opp (pos (suc n)) = (refl, refl, refl, refl)
far_opp (negsuc n) = (refl, refl, refl, refl)

pub ⊙_opp : (u v : Place) → u ⊙ opp v ≡ opp (u ⊙ v)
⊙_opp −∞ −∞ = refl
⊙_opp −∞ (at y) = (far_opp y.top).3
⊙_opp −∞ +∞ = refl
⊙_opp (at x) −∞ = (far_opp x.top).1
⊙_opp (at x) (at y) = ap at (times_neg x y)
⊙_opp (at x) +∞ = (far_opp x.top).0
⊙_opp +∞ −∞ = refl
⊙_opp +∞ (at y) = (far_opp y.top).2
⊙_opp +∞ +∞ = refl

pub record Mono (y : Place) : Type 0 where
  pub up : {u v : Place} → u ⊑ v → u ⊙ y ⊑ v ⊙ y

pub record Anti (y : Place) : Type 0 where
  pub down : {u v : Place} → u ⊑ v → v ⊙ y ⊑ u ⊙ y

mono_∞ : Mono +∞
mono_∞ = record { up = ⊑_elim (λ u v. u ⊙ +∞ ⊑ v ⊙ +∞) (λ v. −∞_least) (λ u. +∞_greatest) (λ x y. by x.top y.top x.positive y.positive) }
  where
    by : (s t : ℤ) {a b : ℕ} (p : 0 < a) (q : 0 < b) → fraction s a p ≼ fraction t b q → far s ⊑ far t
    by (pos zero) (pos zero) p q h = ⊑_refl
    by (pos zero) (pos (suc m)) p q h = +∞_greatest
    by (pos zero) (negsuc m) p q h = absurd (omega (arith, ≼_out ⟨ fraction (pos 0) _ p ⟩ ⟨ fraction (negsuc m) _ q ⟩ h))
    by (pos (suc n)) (pos zero) p q h = absurd (omega (arith, ≼_out ⟨ fraction (pos (suc n)) _ p ⟩ ⟨ fraction (pos 0) _ q ⟩ h))
    by (pos (suc n)) (pos (suc m)) p q h = ⊑_refl
    by (pos (suc n)) (negsuc m) p q h = absurd (omega (arith, ≼_out ⟨ fraction (pos (suc n)) _ p ⟩ ⟨ fraction (negsuc m) _ q ⟩ h))
    by (negsuc n) t p q h = −∞_least

-- every product with 0 is 0
mono_nought : {y : Number} → y ≃ nought → Mono (at y)
mono_nought {y} e = subst (λ t. Mono (at (fraction t y.bottom y.positive))) (sym (nought_top e)) (record { up = λ h. ⊑_trans (to _) (from _) })
  where
    zero_over : Number
    zero_over = fraction (pos 0) y.bottom y.positive

    to : (u : Place) → u ⊙ at zero_over ⊑ at nought
    to −∞ = ⊑_refl
    to (at x) = at_⊑ (≼_in (⟨ x ⟩ ⊠ ⟨ zero_over ⟩) ⟨ nought ⟩ (omega arith))
    to +∞ = ⊑_refl

    from : (u : Place) → at nought ⊑ u ⊙ at zero_over
    from −∞ = ⊑_refl
    from (at x) = at_⊑ (≼_in ⟨ nought ⟩ (⟨ x ⟩ ⊠ ⟨ zero_over ⟩) (omega arith))
    from +∞ = ⊑_refl

pub mono_at : {y : Number} → nought ≼ y → Mono (at y)
mono_at {y} h = ⊎_elim (λ k. mono_nought (≼_antisym k h)) (λ k. by_positive (λ y. nought ≼ y → Mono (at y)) above k h) (≼_or_≺ y nought)
  where
    above : (n b : ℕ) (p : 0 < b) → nought ≼ fraction (pos (suc n)) b p → Mono (at (fraction (pos (suc n)) b p))
    above n b p h = let y = at (fraction (pos (suc n)) b p) in record { up = ⊑_elim (λ u v. u ⊙ y ⊑ v ⊙ y) (λ v. −∞_least) (λ u. +∞_greatest) (λ u v k. at_⊑ (times_mono h k)) }

mono_opp : (y : Place) → Mono (opp y) → Anti y
mono_opp y m = record { down = λ h. opp_both (subst₂ ◌⊑◌ (⊙_opp _ y) (⊙_opp _ y) (m.up h)) }

pub anti_at : {y : Number} → y ≼ nought → Anti (at y)
anti_at {y} h = mono_opp (at y) (mono_at (neg_≼ h))

pub mono_or_anti : (y : Place) → Mono y ⊎ Anti y
mono_or_anti −∞ = inr (mono_opp −∞ mono_∞)
mono_or_anti (at y) = ⊎_elim (λ h. inl (mono_at h)) (λ h. inr (anti_at (≺-≼ h))) (≼_or_≺ nought y)
mono_or_anti +∞ = inl mono_∞

pub ⊙_comm : (u v : Place) → u ⊙ v ⊑ v ⊙ u
⊙_comm −∞ −∞ = ⊑_refl
⊙_comm −∞ (at y) = ⊑_refl
⊙_comm −∞ +∞ = ⊑_refl
⊙_comm (at x) −∞ = ⊑_refl
⊙_comm (at x) (at y) = at_⊑ (≃-≼ (times_comm x y))
⊙_comm (at x) +∞ = ⊑_refl
⊙_comm +∞ −∞ = ⊑_refl
⊙_comm +∞ (at y) = ⊑_refl
⊙_comm +∞ +∞ = ⊑_refl

-- what is not above the products at two ends is not above one in between
squeeze : {q u x v : Place} (y : Place) → u ⊑ x → x ⊑ v → q ⊑ u ⊙ y → q ⊑ v ⊙ y → q ⊑ x ⊙ y
squeeze y h k l r = ⊎_elim (λ m. ⊑_trans l (m.up h)) (λ m. ⊑_trans r (m.down k)) (mono_or_anti y)

pub corners_inside : {q a b c d x y : Place} → a ⊑ x → x ⊑ b → c ⊑ y → y ⊑ d → Corners q a b c d → q ⊑ x ⊙ y
corners_inside {q} {a} {b} {c} {d} {x} {y} ax xb cy yd k = squeeze y ax xb (on a k.0 k.1) (on b k.2 k.3)
  where
    on : (e : Place) → q ⊑ e ⊙ c → q ⊑ e ⊙ d → q ⊑ e ⊙ y
    on e l r = ⊑_trans (squeeze e cy yd (⊑_trans l (⊙_comm e c)) (⊑_trans r (⊙_comm e d))) (⊙_comm y e)
