-- The ends of ranges, and of sums, differences and products of sets. Assumes nothing.
-- The lower ends come first, by residuation: q ≼ x + y is q - y ≼ x, and q ≼ x p is q / p ≼ x for a positive p. The upper ones follow by negation.
--     range_ends  sum_ends  difference_ends  product_ends      of ranges
use Rattle.std.proofs.Common.{◌⊎◌, ◌↔◌, sym, subst, inl, inr, ⊎_elim}
use mathlib.Core.Logic.Iff
use Rattle.number.specs.Number.{Number, ◌≼◌, ◌≺◌, ◌≃◌, nought, plus, neg, minus, times, over}
use Rattle.number.specs.Place.{Place, −∞, at, +∞, ◌⊑◌, opp, Set, IsLowerBound, IsUpperBound, Inf, Sup, Inhabited, Between, Negated, Outcomes, Sums, Differences, Products}
use Rattle.number.specs.Ends.{◌⊹◌, far⁻, ◌⊙◌, Corners, Corners⁺}
use Rattle.number.proofs.Fractions.{≼_refl, ≼_trans, ≼_or_≺, ≺-≼, ≺_not_≼, ≃-≼, ≃-≽, ≃_refl, neg_neg, neg_≃, plus_neg, times_neg}
use Rattle.number.proofs.Fractions.{one, one_less, plus_comm, plus_to_minus, minus_to_plus, times_comm, by_positive, times_to_over, over_to_times, times_to_over⁻, over_to_times⁻}
use Rattle.number.proofs.Places.{−∞_least, +∞_greatest, at_⊑, ⊑_at, ⊑_refl, ⊑_trans, opp_opp, opp_⊑, opp_turn, opp_back, opp_both, ⊹_mono, ⊹_opp}
use Rattle.number.proofs.Places.{⊙_opp, ⊙_comm, mono_at, anti_at, corners_inside}

-- ---- bounds and ends
pub inf_lower : {S : Set} {i : Place} → Inf S i → IsLowerBound i S
inf_lower {S} {i} I = (I.inf i).1 ⊑_refl

pub sup_upper : {S : Set} {i : Place} → Sup S i → IsUpperBound i S
sup_upper {S} {i} I = (I.sup i).1 ⊑_refl

-- sets with the same members
module _ {S R : Set} (to : (x : Number) → S x → R x) (from : (x : Number) → R x → S x) where
  pub lower_same : (q : Place) → IsLowerBound q S ↔ IsLowerBound q R
  lower_same q = (λ h x hx. h x (from x hx), λ h x hx. h x (to x hx))

  pub upper_same : (q : Place) → IsUpperBound q S ↔ IsUpperBound q R
  upper_same q = (λ h x hx. h x (from x hx), λ h x hx. h x (to x hx))

  pub inf_same : {i : Place} → Inf R i → Inf S i
  inf_same I = record { inf = λ q. Iff.trans (lower_same q) (I.inf q) }

  pub sup_same : {i : Place} → Sup R i → Sup S i
  sup_same I = record { sup = λ q. Iff.trans (upper_same q) (I.sup q) }

-- sets whose members are each other's negations
module _ {S R : Set} (to : (x : Number) → S x → R (neg x)) (from : (x : Number) → R x → S (neg x)) where
  pub lower_mirrored : (q : Place) → IsLowerBound q S ↔ IsUpperBound (opp q) R
  lower_mirrored q = (λ h x hx. opp_turn (h (neg x) (from x hx)), λ h x hx. opp_both (h (neg x) (to x hx)))

  pub upper_mirrored : (q : Place) → IsUpperBound q S ↔ IsLowerBound (opp q) R
  upper_mirrored q = (λ h x hx. opp_back (h (neg x) (from x hx)), λ h x hx. opp_both (h (neg x) (to x hx)))

  pub inf_mirrored : {i : Place} → Sup R i → Inf S (opp i)
  inf_mirrored I = record { inf = λ q. Iff.trans (lower_mirrored q) (Iff.trans (I.sup (opp q)) (opp_turn, opp_turn)) }

  pub sup_mirrored : {i : Place} → Inf R i → Sup S (opp i)
  sup_mirrored I = record { sup = λ q. Iff.trans (upper_mirrored q) (Iff.trans (I.inf (opp q)) (opp_back, opp_back)) }

neg_neg_in : (S : Set) (x : Number) → S x → S (neg (neg x))
neg_neg_in S x h = rw (neg_neg x) h

module _ {S : Set} where
  pub inhabited_neg : Inhabited S → Inhabited (Negated S)
  inhabited_neg s = (neg s.0, neg_neg_in S s.0 s.1)

  pub inf_neg : {i : Place} → Sup S i → Inf (Negated S) (opp i)
  inf_neg = inf_mirrored (λ x h. h) (neg_neg_in S)

  pub sup_neg : {i : Place} → Inf S i → Sup (Negated S) (opp i)
  sup_neg = sup_mirrored (λ x h. h) (neg_neg_in S)

-- ---- ranges
pub range_inf : {a b : Place} → Inhabited (Between a b) → Inf (Between a b) a
range_inf {a} {b} s = record { inf = λ q. (to a s.1.0 q, λ h x hx. ⊑_trans h hx.0) }
  where
    to : (a : Place) → a ⊑ at s.0 → (q : Place) → IsLowerBound q (Between a b) → q ⊑ a
    to −∞ l −∞ h = ⊑_refl
    to −∞ l (at q) h = absurd (≺_not_≼ (one_less q) (⊑_at (h (minus q one) (−∞_least, ⊑_trans (at_⊑ (≺-≼ (one_less q))) (⊑_trans (h s.0 (l, s.1.1)) s.1.1)))))
    to −∞ l +∞ h = absurd (h s.0 (l, s.1.1)).le
    to (at a) l q h = h a (⊑_refl, ⊑_trans l s.1.1)
    to +∞ l q h = absurd l.le

-- the mirror image of a range
module _ {a b : Place} where
  pub between_to : (x : Number) → Between a b x → Between (opp b) (opp a) (neg x)
  between_to x h = (opp_⊑ h.1, opp_⊑ h.0)

  pub between_from : (x : Number) → Between (opp b) (opp a) x → Between a b (neg x)
  between_from x h = (opp_turn h.1, opp_back h.0)

pub range_sup : {a b : Place} → Inhabited (Between a b) → Sup (Between a b) b
range_sup {a} {b} s = rw (opp_opp b) at (sup_mirrored between_to between_from (range_inf (neg s.0, between_to s.0 s.1)))

-- ---- the outcomes of a function of two numbers
module _ {f : Number → Number → Number} {X Y : Set} (q : Place) where
  pub lower_outcomes : IsLowerBound q (Outcomes f X Y) ↔ ((x y : Number) → X x → Y y → q ⊑ at (f x y))
  lower_outcomes = (λ h x y hx hy. h (f x y) (x, y, hx, hy, ≃_refl), λ h z o. ⊑_trans (h o.0 o.1 o.2 o.3) (at_⊑ (≃-≼ o.4)))

  pub upper_outcomes : IsUpperBound q (Outcomes f X Y) ↔ ((x y : Number) → X x → Y y → at (f x y) ⊑ q)
  upper_outcomes = (λ h x y hx hy. h (f x y) (x, y, hx, hy, ≃_refl), λ h z o. ⊑_trans (at_⊑ (≃-≽ o.4)) (h o.0 o.1 o.2 o.3))

-- ---- sums
pub sums_inf : {X Y : Set} {a c : Place} → Inhabited X → Inhabited Y → Inf X a → Inf Y c → Inf (Sums X Y) (a ⊹ c)
sums_inf {X} {Y} {a} {c} sx sy A C = record {
  inf = λ q. (
    λ h. to q ((lower_outcomes q).0 h),
    λ k. (lower_outcomes q).1 (λ x y hx hy. ⊑_trans k (⊹_mono (inf_lower A x hx) (inf_lower C y hy))),
  );
}
  where
    reach : (q : Number) (a : Place) → ((y : Number) → Y y → at q ⊑ a ⊹ at y) → at q ⊑ a ⊹ c
    reach q −∞ h = h sy.0 sy.1
    reach q (at a) h = ⊑_trans (at_⊑ (≼_trans (minus_to_plus a ≼_refl) (≃-≼ (plus_comm (minus q a) a))))
        (⊹_mono (⊑_refl {p = at a}) ((C.inf (at (minus q a))).0 (λ y hy. at_⊑ (plus_to_minus a (≼_trans (⊑_at (h y hy)) (≃-≼ (plus_comm a y)))))))
    reach q +∞ h = +∞_greatest

    to : (q : Place) → ((x y : Number) → X x → Y y → q ⊑ at (plus x y)) → q ⊑ a ⊹ c
    to −∞ h = −∞_least
    to (at q) h = reach q a (λ y hy. ⊑_trans (at_⊑ (minus_to_plus y ≼_refl)) (⊹_mono ((A.inf (at (minus q y))).0 (λ x hx. at_⊑ (plus_to_minus y (⊑_at (h x y hx hy))))) ⊑_refl))
    to +∞ h = absurd (h sx.0 sy.0 sx.1 sy.1).le

pub sums_sup : {X Y : Set} {b d : Place} → Inhabited X → Inhabited Y → Sup X b → Sup Y d → Sup (Sums X Y) (b ⊹ d)
sums_sup {X} {Y} {b} {d} sx sy B D =
    let I = sums_inf (inhabited_neg sx) (inhabited_neg sy) (inf_neg B) (inf_neg D) in
    rw (⊹_opp b d, opp_opp (b ⊹ d)) at (sup_mirrored to from I)
  where
    turned : (x y : Number) {z : Number} → plus x y ≃ z → plus (neg x) (neg y) ≃ neg z
    turned x y e = rw (plus_neg x y) (neg_≃ e)

    to : (z : Number) → Sums X Y z → Sums (Negated X) (Negated Y) (neg z)
    to z o = (neg o.0, neg o.1, neg_neg_in X o.0 o.2, neg_neg_in Y o.1 o.3, turned o.0 o.1 o.4)

    from : (z : Number) → Sums (Negated X) (Negated Y) z → Sums X Y (neg z)
    from z o = (neg o.0, neg o.1, o.2, o.3, turned o.0 o.1 o.4)

-- ---- differences are sums with the negation
module _ {X Y : Set} where
  difference_to : (z : Number) → Differences X Y z → Sums X (Negated Y) z
  difference_to z o = (o.0, neg o.1, o.2, neg_neg_in Y o.1 o.3, o.4)

  difference_from : (z : Number) → Sums X (Negated Y) z → Differences X Y z
  difference_from z o = (o.0, neg o.1, o.2, o.3, subst (λ r. plus o.0 r ≃ z) (sym (neg_neg o.1)) o.4)

module _ {X Y : Set} (sx : Inhabited X) (sy : Inhabited Y) where
  pub differences_inf : {a d : Place} → Inf X a → Sup Y d → Inf (Differences X Y) (a ⊹ opp d)
  differences_inf A D = inf_same difference_to difference_from (sums_inf sx (inhabited_neg sy) A (inf_neg D))

  pub differences_sup : {b c : Place} → Sup X b → Inf Y c → Sup (Differences X Y) (b ⊹ opp c)
  differences_sup B C = sup_same difference_to difference_from (sums_sup sx (inhabited_neg sy) B (sup_neg C))

-- ---- products
abbrev End : Set → Place → Type 0
End X e = Inf X e ⊎ Sup X e

-- what is not above x p for any x of X is not above e p for an end e of X
module _ {X : Set} {e : Place} (s : Inhabited X) {q : Number} (p : Number) (h : (x : Number) → X x → q ≼ times x p) where
  inf_reach : Inf X e → at q ⊑ e ⊙ at p
  inf_reach I = ⊎_elim
      (λ n. ⊑_trans (at_⊑ (h s.0 s.1)) ((anti_at n).down (inf_lower I s.0 s.1)))
      (λ n. ⊑_trans (at_⊑ (over_to_times n ≼_refl)) ((mono_at (≺-≼ n)).up ((I.inf (at (over q p))).0 (λ x hx. at_⊑ (times_to_over n (h x hx))))))
      (≼_or_≺ p nought)

  sup_reach : Sup X e → at q ⊑ e ⊙ at p
  sup_reach S = ⊎_elim
      (λ n. ⊑_trans (at_⊑ (h s.0 s.1)) ((mono_at n).up (sup_upper S s.0 s.1)))
      (λ n. ⊑_trans (at_⊑ (over_to_times⁻ n ≼_refl)) ((anti_at (≺-≼ n)).down ((S.sup (at (over q p))).0 (λ x hx. at_⊑ (times_to_over⁻ n (h x hx))))))
      (≼_or_≺ nought p)

  reach : End X e → at q ⊑ e ⊙ at p
  reach = ⊎_elim inf_reach sup_reach

-- q is not above the product of any x of X and y of Y
abbrev Under : Number → Set → Set → Type 0
Under q X Y = (x y : Number) → X x → Y y → q ≼ times x y

swapped : {q : Number} {X Y : Set} → Under q X Y → Under q Y X
swapped h y x hy hx = ≼_trans (h x y hx hy) (≃-≼ (times_comm x y))

module _ {X Y : Set} (sx : Inhabited X) (sy : Inhabited Y) {q : Number} where
  finite : {e : Place} {f : Number} → End X e → End Y (at f) → Under q X Y → at q ⊑ e ⊙ at f
  finite {f} E F h = reach sx f (λ x hx. ≼_trans (⊑_at (reach sy x (λ y hy. swapped h y x hy hx) F)) (≃-≼ (times_comm f x))) E

  -- without a lower end on one side and an upper end on the other, there is no bound
  apart : End X −∞ → End Y +∞ → ¬ (Under q X Y)
  apart E F h = ⊎_elim (λ I. (inf_lower I sy.0 sy.1).le) (λ S. ((S.sup (at nought)).0 (λ y hy. at_⊑ (⊎_elim (λ k. k) (λ k. absurd (above k hy)) (≼_or_≺ y nought)))).le) F
    where
      above : {y : Number} → nought ≺ y → Y y → ⊥
      above {y} k hy = by_positive (λ y. ¬ (at q ⊑ far⁻ y.top)) (λ n b p l. l.le) k (reach sx y (λ x hx. h x y hx hy) E)

corner : {X Y : Set} → Inhabited X → Inhabited Y → {q : Number} (e f : Place) → End X e → End Y f → Under q X Y → at q ⊑ e ⊙ f
corner sx sy e (at f) E F h = finite sx sy E F h
corner sx sy (at e) −∞ E F h = ⊑_trans (finite sy sx F E (swapped h)) (⊙_comm −∞ (at e))
corner sx sy (at e) +∞ E F h = ⊑_trans (finite sy sx F E (swapped h)) (⊙_comm +∞ (at e))
corner sx sy −∞ −∞ E F h = +∞_greatest
corner sx sy −∞ +∞ E F h = absurd (apart sx sy E F h)
corner sx sy +∞ −∞ E F h = absurd (apart sy sx F E (swapped h))
corner sx sy +∞ +∞ E F h = +∞_greatest

-- a place bounds the products exactly if it bounds the four products of ends
pub products_low : {X Y : Set} {a b c d : Place} → Inhabited X → Inhabited Y → Inf X a → Sup X b → Inf Y c → Sup Y d →
    (q : Place) → IsLowerBound q (Products X Y) ↔ Corners q a b c d
products_low {X} {Y} {a} {b} {c} {d} sx sy A B C D q = (
  λ h. to q ((lower_outcomes q).0 h),
  λ k. (lower_outcomes q).1 (λ x y hx hy. corners_inside (inf_lower A x hx) (sup_upper B x hx) (inf_lower C y hy) (sup_upper D y hy) k),
)
  where
    to : (q : Place) → ((x y : Number) → X x → Y y → q ⊑ at (times x y)) → Corners q a b c d
    to −∞ h = (−∞_least, −∞_least, −∞_least, −∞_least)
    to (at q) h =
        let g : Under q X Y = λ x y hx hy. ⊑_at (h x y hx hy) in
        (corner sx sy a c (inl A) (inl C) g, corner sx sy a d (inl A) (inr D) g, corner sx sy b c (inr B) (inl C) g, corner sx sy b d (inr B) (inr D) g)
    to +∞ h = absurd (h sx.0 sy.0 sx.1 sy.1).le

pub products_high : {X Y : Set} {a b c d : Place} → Inhabited X → Inhabited Y → Inf X a → Sup X b → Inf Y c → Sup Y d →
    (q : Place) → IsUpperBound q (Products X Y) ↔ Corners⁺ q a b c d
products_high {X} {Y} {a} {b} {c} {d} sx sy A B C D q =
    let l = products_low sx (inhabited_neg sy) A B (inf_neg D) (sup_neg C) (opp q) in
    Iff.trans (upper_mirrored to from q) (Iff.trans l corners)
  where
    turned : (x y : Number) {z : Number} → times x y ≃ z → times x (neg y) ≃ neg z
    turned x y e = rw (times_neg x y) (neg_≃ e)

    to : (z : Number) → Products X Y z → Products X (Negated Y) (neg z)
    to z o = (o.0, neg o.1, o.2, neg_neg_in Y o.1 o.3, turned o.0 o.1 o.4)

    from : (z : Number) → Products X (Negated Y) z → Products X Y (neg z)
    from z o = (o.0, neg o.1, o.2, o.3, turned o.0 o.1 o.4)

    each : (u v : Place) → (opp q ⊑ u ⊙ opp v) ↔ (u ⊙ v ⊑ q)
    each u v = rw (⊙_opp u v) (opp_both, opp_⊑)

    corners : Corners (opp q) a b (opp d) (opp c) ↔ Corners⁺ q a b c d
    corners = (
      λ k. ((each a c).0 k.1, (each a d).0 k.0, (each b c).0 k.3, (each b d).0 k.2),
      λ k. ((each a d).1 k.1, (each a c).1 k.0, (each b d).1 k.3, (each b c).1 k.2),
    )

-- ---- of ranges
pub range_ends : (a b : Place) → Inhabited (Between a b) → Inf (Between a b) a × Sup (Between a b) b
range_ends a b s = (range_inf s, range_sup s)

module _ (a b c d : Place) (s : Inhabited (Between a b)) (r : Inhabited (Between c d)) where
  pub sum_ends : Inf (Sums (Between a b) (Between c d)) (a ⊹ c) × Sup (Sums (Between a b) (Between c d)) (b ⊹ d)
  sum_ends = (sums_inf s r (range_inf s) (range_inf r), sums_sup s r (range_sup s) (range_sup r))

  pub difference_ends : Inf (Differences (Between a b) (Between c d)) (a ⊹ opp d) × Sup (Differences (Between a b) (Between c d)) (b ⊹ opp c)
  difference_ends = (differences_inf s r (range_inf s) (range_sup r), differences_sup s r (range_sup s) (range_inf r))

  pub product_ends : (q : Place) →
      (IsLowerBound q (Products (Between a b) (Between c d)) ↔ Corners q a b c d)
      × (IsUpperBound q (Products (Between a b) (Between c d)) ↔ Corners⁺ q a b c d)
  product_ends q = (
    products_low s r (range_inf s) (range_sup s) (range_inf r) (range_sup r) q,
    products_high s r (range_inf s) (range_sup s) (range_inf r) (range_sup r) q,
  )
