-- The ends of quotients: x / y is x times 1 / y, so the ends of 1 / y, for y of one sign, give them as those of a product. Assumes nothing.
--     quotient_ends⁺  quotient_ends⁻      by the positive numbers of a range, by the negative ones
--     quotient_parts                      by all of them but 0
use Rattle.std.proofs.Common.{◌≡◌, zero, suc, ◌⊎◌, ◌↔◌, ℤ, pos, negsuc, refl, ap, ◌∙◌, inl, inr, ⊎_elim, arith}
use mathlib.Core.Logic.Iff
use Rattle.number.specs.Number.{Number, fraction, ◌≼◌, ◌≺◌, nought, plus, neg, reciprocal, over}
use Rattle.number.specs.Place.{Place, −∞, at, +∞, ◌⊑◌, opp, Set, IsLowerBound, IsUpperBound, Inf, Sup, Inhabited, Between, PositivePart, NegativePart}
use Rattle.number.specs.Place.{Outcomes, Products, Quotients}
use Rattle.number.specs.Ends.{Corners, Corners⁺, recip_of, recip⁺, recip⁻}
use Rattle.number.proofs.Fractions.{⟨◌⟩, ≼_out, ≼_trans, ≼_or_≺, ≺-≼, ≺_not_≼, ≺-≼_trans, ≃-≼, ≃-≽, ≃_sym, ≺_not_≃, ≄-≺, neg_≺, one, one_more, plus_comm, plus_positive}
use Rattle.number.proofs.Fractions.{by_positive, reciprocal_neg, reciprocal_reciprocal, reciprocal_positive, reciprocal_anti}
use Rattle.number.proofs.Places.{−∞_least, +∞_greatest, at_⊑, ⊑_at, ⊑_elim, ⊑_refl, ⊑_trans}
use Rattle.number.proofs.Ends.{lower_same, upper_same, inf_mirrored, sup_mirrored, between_to, between_from, range_inf, range_sup, products_low, products_high}

abbrev pub Reciprocals : Set → Set
Reciprocals Y w = (y : Number) × Y y × (reciprocal y ≡ w)

-- ---- one over an end
recip_at : {y : Number} → nought ≺ y → recip⁺ (at y) ≡ at (reciprocal y)
recip_at = by_positive (λ y. recip⁺ (at y) ≡ at (reciprocal y)) (λ n b p. refl)

recip_under : {y : Number} → y ≼ nought → recip⁺ (at y) ≡ +∞
recip_under {y} = by y.top
  where
    by : (t : ℤ) → fraction t y.bottom y.positive ≼ nought → recip_of t y.bottom ≡ +∞
    by (pos zero) h = refl
    by (pos (suc n)) h = absurd (omega (arith, ≼_out ⟨ fraction (pos (suc n)) y.bottom y.positive ⟩ ⟨ nought ⟩ h))
    by (negsuc n) h = refl

recip_nought : (p : Place) → at nought ⊑ recip⁺ p
recip_nought −∞ = +∞_greatest
recip_nought (at y) = ⊎_elim
    (λ (h : y ≼ nought). rw (recip_under h) +∞_greatest)
    (λ (h : nought ≺ y). rw (recip_at h) (at_⊑ (≺-≼ (reciprocal_positive h))))
    (≼_or_≺ y nought)
recip_nought +∞ = ⊑_refl

recip_anti : {p q : Place} → p ⊑ q → recip⁺ q ⊑ recip⁺ p
recip_anti = ⊑_elim (λ p q. recip⁺ q ⊑ recip⁺ p) (λ q. +∞_greatest) recip_nought numbers
  where
    numbers : (x y : Number) → x ≼ y → recip⁺ (at y) ⊑ recip⁺ (at x)
    numbers x y h = ⊎_elim
        (λ (k : x ≼ nought). rw (recip_under k) +∞_greatest)
        (λ (k : nought ≺ x). rw (recip_at (≺-≼_trans k h), recip_at k) (at_⊑ (reciprocal_anti k h)))
        (≼_or_≺ x nought)

-- ---- one over the positive numbers of a range
abbrev Positives : Place → Place → Set
Positives c d = PositivePart (Between c d)

reciprocals_low : (c d q : Place) → Inhabited (Positives c d) → ((y : Number) → Positives c d y → q ⊑ at (reciprocal y)) → q ⊑ recip⁺ d
reciprocals_low c −∞ q s h = absurd s.1.0.1.le
reciprocals_low c (at d) q s h = let n : nought ≺ d = ≺-≼_trans s.1.1 (⊑_at s.1.0.1) in rw (recip_at n) (h d ((⊑_trans s.1.0.0 s.1.0.1, ⊑_refl), n))
reciprocals_low c +∞ −∞ s h = −∞_least
reciprocals_low c +∞ (at q) s h = ⊎_elim at_⊑ (λ n. absurd (far n)) (≼_or_≺ q nought)
  where
    -- y grows without end, so that 1 / y comes below q
    far : nought ≺ q → ⊥
    far n =
        let y = plus (reciprocal q) s.0 in
        let more : s.0 ≼ y = ≼_trans (≺-≼ (plus_positive s.0 (reciprocal_positive n))) (≃-≼ (plus_comm s.0 (reciprocal q))) in
        let k = ⊑_at (h y ((⊑_trans s.1.0.0 (at_⊑ more), +∞_greatest), ≺-≼_trans s.1.1 more)) in
        ≺_not_≼ (plus_positive (reciprocal q) s.1.1) (≼_trans (≃-≽ (reciprocal_reciprocal y)) (reciprocal_anti n k))
reciprocals_low c +∞ +∞ s h = absurd (h s.0 s.1).le

-- y comes near 0, so that 1 / y grows without end
near : (c d q : Place) → c ⊑ at nought → Inhabited (Positives c d) → ((y : Number) → Positives c d y → at (reciprocal y) ⊑ q) → +∞ ⊑ q
near c d −∞ l s h = absurd (h s.0 s.1).le
near c d (at q) l s h =
    let w = plus q one in
    let big : reciprocal s.0 ≼ w = ≼_trans (⊑_at (h s.0 s.1)) (≺-≼ (one_more q)) in
    let n = reciprocal_positive s.1.1 in
    let m = reciprocal_positive (≺-≼_trans n big) in
    let small : reciprocal w ≼ s.0 = ≼_trans (reciprocal_anti n big) (≃-≼ (reciprocal_reciprocal s.0)) in
    let k = ⊑_at (h (reciprocal w) ((⊑_trans l (at_⊑ (≺-≼ m)), ⊑_trans (at_⊑ small) s.1.0.1), m)) in
    absurd (≺_not_≼ (one_more q) (≼_trans (≃-≽ (reciprocal_reciprocal w)) k))
near c d +∞ l s h = ⊑_refl

reciprocals_high : (c d q : Place) → Inhabited (Positives c d) → ((y : Number) → Positives c d y → at (reciprocal y) ⊑ q) → recip⁺ c ⊑ q
reciprocals_high −∞ d q s h = near −∞ d q −∞_least s h
reciprocals_high (at c) d q s h = ⊎_elim
    (λ (k : c ≼ nought). rw (recip_under k) (near (at c) d q (at_⊑ k) s h))
    (λ (k : nought ≺ c). rw (recip_at k) (h c ((⊑_refl, ⊑_trans s.1.0.0 s.1.0.1), k)))
    (≼_or_≺ c nought)
reciprocals_high +∞ d q s h = absurd s.1.0.0.le

lower_reciprocals : {S : Set} (q : Place) → IsLowerBound q (Reciprocals S) ↔ ((y : Number) → S y → q ⊑ at (reciprocal y))
lower_reciprocals q = (λ h y hy. h (reciprocal y) (y, hy, refl), λ h w o. rw o.2 at (h o.0 o.1))

upper_reciprocals : {S : Set} (q : Place) → IsUpperBound q (Reciprocals S) ↔ ((y : Number) → S y → at (reciprocal y) ⊑ q)
upper_reciprocals q = (λ h y hy. h (reciprocal y) (y, hy, refl), λ h w o. rw o.2 at (h o.0 o.1))

module _ {c d : Place} (s : Inhabited (Positives c d)) where
  pub reciprocals_inf⁺ : Inf (Reciprocals (Positives c d)) (recip⁺ d)
  reciprocals_inf⁺ = record { inf = λ q. Iff.trans (lower_reciprocals q) (reciprocals_low c d q s, λ k y hy. ⊑_trans k (rw (recip_at hy.1) at (recip_anti hy.0.1))) }

  pub reciprocals_sup⁺ : Sup (Reciprocals (Positives c d)) (recip⁺ c)
  reciprocals_sup⁺ = record { sup = λ q. Iff.trans (upper_reciprocals q) (reciprocals_high c d q s, λ k y hy. ⊑_trans (rw (recip_at hy.1) at (recip_anti hy.0.0)) k) }

-- ---- one over the negative numbers, by negation
abbrev Negatives : Place → Place → Set
Negatives c d = NegativePart (Between c d)

module _ {c d : Place} where
  negatives_to : (y : Number) → Negatives c d y → Positives (opp d) (opp c) (neg y)
  negatives_to y h = (between_to y h.0, neg_≺ h.1)

  reciprocals_to : (w : Number) → Reciprocals (Negatives c d) w → Reciprocals (Positives (opp d) (opp c)) (neg w)
  reciprocals_to w o = (neg o.0, negatives_to o.0 o.1, reciprocal_neg o.0 ∙ ap neg o.2)

  reciprocals_from : (w : Number) → Reciprocals (Positives (opp d) (opp c)) w → Reciprocals (Negatives c d) (neg w)
  reciprocals_from w o = (neg o.0, (between_from o.0 o.1.0, neg_≺ o.1.1), reciprocal_neg o.0 ∙ ap neg o.2)

  pub reciprocals_inf⁻ : Inhabited (Negatives c d) → Inf (Reciprocals (Negatives c d)) (recip⁻ d)
  reciprocals_inf⁻ s = inf_mirrored reciprocals_to reciprocals_from (reciprocals_sup⁺ (neg s.0, negatives_to s.0 s.1))

  pub reciprocals_sup⁻ : Inhabited (Negatives c d) → Sup (Reciprocals (Negatives c d)) (recip⁻ c)
  reciprocals_sup⁻ s = sup_mirrored reciprocals_to reciprocals_from (reciprocals_inf⁺ (neg s.0, negatives_to s.0 s.1))

-- ---- x / y is x times 1 / y
module _ {X W : Set} where
  over_to : (z : Number) → Outcomes over X W z → Products X (Reciprocals W) z
  over_to z o = (o.0, reciprocal o.1, o.2, (o.1, o.3, refl), o.4)

  over_from : (z : Number) → Products X (Reciprocals W) z → Outcomes over X W z
  over_from z o = (o.0, o.3.0, o.2, o.3.1, rw o.3.2 o.4)

reciprocals_inhabited : {W : Set} → Inhabited W → Inhabited (Reciprocals W)
reciprocals_inhabited s = (reciprocal s.0, (s.0, s.1, refl))

module _ {X W : Set} {a b e f : Place} (sx : Inhabited X) (sw : Inhabited W) (A : Inf X a) (B : Sup X b) (E : Inf (Reciprocals W) e) (F : Sup (Reciprocals W) f) (q : Place) where
  pub over_low : IsLowerBound q (Outcomes over X W) ↔ Corners q a b e f
  over_low = Iff.trans (lower_same over_to over_from q) (products_low sx (reciprocals_inhabited sw) A B E F q)

  pub over_high : IsUpperBound q (Outcomes over X W) ↔ Corners⁺ q a b e f
  over_high = Iff.trans (upper_same over_to over_from q) (products_high sx (reciprocals_inhabited sw) A B E F q)

-- ---- of ranges
module _ (a b c d : Place) where
  pub quotient_ends⁺ : Inhabited (Between a b) → Inhabited (PositivePart (Between c d)) → (q : Place) →
      (IsLowerBound q (Outcomes over (Between a b) (PositivePart (Between c d))) ↔ Corners q a b (recip⁺ d) (recip⁺ c))
      × (IsUpperBound q (Outcomes over (Between a b) (PositivePart (Between c d))) ↔ Corners⁺ q a b (recip⁺ d) (recip⁺ c))
  quotient_ends⁺ s r q = (
    over_low s r (range_inf s) (range_sup s) (reciprocals_inf⁺ r) (reciprocals_sup⁺ r) q,
    over_high s r (range_inf s) (range_sup s) (reciprocals_inf⁺ r) (reciprocals_sup⁺ r) q,
  )

  pub quotient_ends⁻ : Inhabited (Between a b) → Inhabited (NegativePart (Between c d)) → (q : Place) →
      (IsLowerBound q (Outcomes over (Between a b) (NegativePart (Between c d))) ↔ Corners q a b (recip⁻ d) (recip⁻ c))
      × (IsUpperBound q (Outcomes over (Between a b) (NegativePart (Between c d))) ↔ Corners⁺ q a b (recip⁻ d) (recip⁻ c))
  quotient_ends⁻ s r q = (
    over_low s r (range_inf s) (range_sup s) (reciprocals_inf⁻ r) (reciprocals_sup⁻ r) q,
    over_high s r (range_inf s) (range_sup s) (reciprocals_inf⁻ r) (reciprocals_sup⁻ r) q,
  )

-- the quotients by all numbers of Y but 0
module _ {X Y : Set} where
  positive_in : (z : Number) → Outcomes over X (PositivePart Y) z → Quotients X Y z
  positive_in z o = (o.0, o.1, o.2, (o.3.0, λ e. ≺_not_≃ o.3.1 (≃_sym e)), o.4)

  negative_in : (z : Number) → Outcomes over X (NegativePart Y) z → Quotients X Y z
  negative_in z o = (o.0, o.1, o.2, (o.3.0, ≺_not_≃ o.3.1), o.4)

  by_part : (z : Number) → Quotients X Y z → Outcomes over X (NegativePart Y) z ⊎ Outcomes over X (PositivePart Y) z
  by_part z o = ⊎_elim (λ h. inl (o.0, o.1, o.2, (o.3.0, h), o.4)) (λ h. inr (o.0, o.1, o.2, (o.3.0, h), o.4)) (≄-≺ o.3.1)

pub quotient_parts : (a b c d q : Place) →
    (IsLowerBound q (Quotients (Between a b) (Between c d)) ↔
    (IsLowerBound q (Outcomes over (Between a b) (PositivePart (Between c d))) × IsLowerBound q (Outcomes over (Between a b) (NegativePart (Between c d)))))
    × (IsUpperBound q (Quotients (Between a b) (Between c d)) ↔
    (IsUpperBound q (Outcomes over (Between a b) (PositivePart (Between c d))) × IsUpperBound q (Outcomes over (Between a b) (NegativePart (Between c d)))))
quotient_parts a b c d q = (
  (λ h. (λ z o. h z (positive_in z o), λ z o. h z (negative_in z o)), λ k z o. ⊎_elim (k.1 z) (k.0 z) (by_part z o)),
  (λ h. (λ z o. h z (positive_in z o), λ z o. h z (negative_in z o)), λ k z o. ⊎_elim (k.1 z) (k.0 z) (by_part z o)),
)
