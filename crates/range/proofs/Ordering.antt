-- Hulls and comparisons that need only the order of a scale. Assumes nothing.
--     hull_bounds                sets with the same bounds have the same hull
--     lower_either  upper_either  lower_lesser  upper_lesser  lower_greater  upper_greater      their bounds
--     some_below  some_at_most  some_same        which pairs of members there are
use Rattle.std.proofs.Common.{◌≡◌, ◌↔◌, ℤ, sym, refl, subst, inl, inr, ⊎_elim}
use Rattle.number.specs.Number.{Number, ◌≼◌, ◌≺◌, plus, minus}
use Rattle.number.specs.Place.{Place, −∞, at, +∞, ◌⊑◌, IsLowerBound, IsUpperBound, Inhabited, Between}
use Rattle.number.proofs.Fractions.{≼_refl, ≼_trans, ≼_or_≺, ≺-≼, ≺_not_≼, ≺-≼_trans, ≼-≺_trans, ≃_refl, ≃-≼, ≃-≽, one, one_less, one_more}
use Rattle.number.proofs.Places.{−∞_least, +∞_greatest, at_⊑, ⊑_at, ⊑_refl, ⊑_trans, ⊑_or, ⊑_or_not}
use Rattle.number.proofs.Ends.{range_inf, range_sup}
use Rattle.number.proofs.Ranges.{range_inhabited}
use Rattle.range.specs.declared.range.Range.{Range}
use Rattle.range.specs.Hull.{Hull, blank, ends}
use Rattle.range.specs.Outcomes.{Lesser, Greater, Either}

-- ---- members of two ranges, by their ends
module _ {a b c d : Place} (X : Inhabited (Between a b)) (Y : Inhabited (Between c d)) where
  ends_of : (a ⊑ b) × ¬ (+∞ ⊑ a) × ¬ (b ⊑ −∞)
  ends_of = (range_inhabited a b).0 X

  -- a number that is not above the one of the other range
  pub some_at_most : a ⊑ d → (x : Number) × (y : Number) × Between a b x × Between c d y × (x ≼ y)
  some_at_most h = ⊎_elim (λ k. (X.0, Y.0, X.1, Y.1, k)) (λ k. ⊎_elim (low k) (high k) (⊑_or a (at Y.0))) (≼_or_≺ X.0 Y.0)
    where
      low : Y.0 ≺ X.0 → a ⊑ at Y.0 → (x : Number) × (y : Number) × Between a b x × Between c d y × (x ≼ y)
      low k l = (Y.0, Y.0, (l, ⊑_trans (at_⊑ (≺-≼ k)) X.1.1), Y.1, ≼_refl)

      by : (q : Place) → a ≡ q → at Y.0 ⊑ a → (x : Number) × (y : Number) × Between a b x × Between c d y × (x ≼ y)
      by −∞ e l = absurd (subst (λ r. at Y.0 ⊑ r) e l).le
      by (at z) e l = (z, z, (subst (λ r. r ⊑ at z) (sym e) ⊑_refl, subst (λ r. r ⊑ b) e ends_of.0), (⊑_trans Y.1.0 (subst (λ r. at Y.0 ⊑ r) e l), subst (λ r. r ⊑ d) e h), ≼_refl)
      by +∞ e l = absurd (ends_of.1 (subst (λ r. +∞ ⊑ r) (sym e) ⊑_refl))

      high : Y.0 ≺ X.0 → at Y.0 ⊑ a → (x : Number) × (y : Number) × Between a b x × Between c d y × (x ≼ y)
      high k l = by a refl l

pub at_most_ends : {a b c d : Place} {x y : Number} → Between a b x → Between c d y → x ≼ y → a ⊑ d
at_most_ends h k l = ⊑_trans h.0 (⊑_trans (at_⊑ l) k.1)

-- a member above n, and one below, where the end allows
above_member : (c d : Place) (n : Number) → Between c d n → ¬ (d ⊑ at n) → (y : Number) × Between c d y × (n ≺ y)
above_member c −∞ n h k = absurd (k −∞_least)
above_member c (at y) n h k = ⊎_elim (λ l. absurd (k (at_⊑ l))) (λ l. (y, (⊑_trans h.0 h.1, ⊑_refl), l)) (≼_or_≺ y n)
above_member c +∞ n h k = (plus n one, (⊑_trans h.0 (at_⊑ (≺-≼ (one_more n))), +∞_greatest), one_more n)

below_member : (a b : Place) (n : Number) → Between a b n → ¬ (at n ⊑ a) → (x : Number) × Between a b x × (x ≺ n)
below_member +∞ b n h k = absurd (k +∞_greatest)
below_member (at x) b n h k = ⊎_elim (λ l. absurd (k (at_⊑ l))) (λ l. (x, (⊑_refl, ⊑_trans h.0 h.1), l)) (≼_or_≺ n x)
below_member −∞ b n h k = (minus n one, (−∞_least, ⊑_trans (at_⊑ (≺-≼ (one_less n))) h.1), one_less n)

module _ {a b c d : Place} (X : Inhabited (Between a b)) (Y : Inhabited (Between c d)) where
  -- a number below one of the other range
  pub some_below : ¬ (d ⊑ a) → (x : Number) × (y : Number) × Between a b x × Between c d y × (x ≺ y)
  some_below n =
      let s = some_at_most X Y (⊎_elim (λ h. h) (λ h. absurd (n h)) (⊑_or a d)) in
      ⊎_elim (λ h. same s h) (λ h. (s.0, s.1, s.2, s.3, h)) (≼_or_≺ s.1 s.0)
    where
      same : (s : (x : Number) × (y : Number) × Between a b x × Between c d y × (x ≼ y)) → s.1 ≼ s.0 → (x : Number) × (y : Number) × Between a b x × Between c d y × (x ≺ y)
      same s h = ⊎_elim
          (λ k. let l = below_member a b s.0 s.2 (λ m. n (⊑_trans k (⊑_trans (at_⊑ h) m))) in (l.0, s.1, l.1, s.3, ≺-≼_trans l.2 s.4))
          (λ k. let u = above_member c d s.1 s.3 k in (s.0, u.0, s.2, u.1, ≼-≺_trans s.4 u.2))
          (⊑_or_not d (at s.1))

  -- a number in both
  pub some_same : a ⊑ d → c ⊑ b → (x : Number) × Between a b x × Between c d x
  some_same h k = ⊎_elim
      (λ l. ⊎_elim (λ m. both (k, R.1, L.2) l ⊑_refl ⊑_refl m) (λ m. both R l ⊑_refl m ⊑_refl) (⊑_or b d))
      (λ l. ⊎_elim (λ m. both L ⊑_refl l ⊑_refl m) (λ m. both (h, L.1, R.2) ⊑_refl l m ⊑_refl) (⊑_or b d))
      (⊑_or a c)
    where
      L : (a ⊑ b) × ¬ (+∞ ⊑ a) × ¬ (b ⊑ −∞)
      L = (range_inhabited a b).0 X

      R : (c ⊑ d) × ¬ (+∞ ⊑ c) × ¬ (d ⊑ −∞)
      R = (range_inhabited c d).0 Y

      both : {u v : Place} → (u ⊑ v) × ¬ (+∞ ⊑ u) × ¬ (v ⊑ −∞) → a ⊑ u → c ⊑ u → v ⊑ b → v ⊑ d → (x : Number) × Between a b x × Between c d x
      both {u} {v} o l m s t =
          let z = (range_inhabited u v).1 o in
          (z.0, (⊑_trans l z.1.0, ⊑_trans z.1.1 s), (⊑_trans m z.1.0, ⊑_trans z.1.1 t))

pub below_ends : {a b c d : Place} {x y : Number} → Between a b x → Between c d y → x ≺ y → ¬ (d ⊑ a)
below_ends h k l m = ≺_not_≼ l (⊑_at (⊑_trans k.1 (⊑_trans m h.0)))

-- ---- sets with the same bounds
module _ {p : ℤ → Place} {S R : Number → Type 0} where
  pub hull_bounds : Inhabited S → Inhabited R → ((q : Place) → IsLowerBound q S ↔ IsLowerBound q R) → ((q : Place) → IsUpperBound q S ↔ IsUpperBound q R) → {r : Range} → Hull p S r → Hull p R r
  hull_bounds s t l u (blank n e) = absurd (n s.0 s.1)
  hull_bounds s t l u {r} (ends x h m v) = ends t.0 t.1
      (record { code = m.code; bound = (l (p r.lower)).0 m.bound; greatest = λ d k b. m.greatest d k ((l (p d)).1 b) })
      (record { code = v.code; bound = (u (p r.upper)).0 v.bound; least = λ d k b. v.least d k ((u (p d)).1 b) })

-- ---- the bounds of joins, of the lesser and of the greater
module _ (X Y : Number → Type 0) where
  pub lower_either : (q : Place) → IsLowerBound q (Either X Y) ↔ (IsLowerBound q X × IsLowerBound q Y)
  lower_either q = (λ h. ((λ x k. h x (inl k)), λ y k. h y (inr k)), λ h z k. ⊎_elim (h.0 z) (h.1 z) k)

  pub upper_either : (q : Place) → IsUpperBound q (Either X Y) ↔ (IsUpperBound q X × IsUpperBound q Y)
  upper_either q = (λ h. ((λ x k. h x (inl k)), λ y k. h y (inr k)), λ h z k. ⊎_elim (h.0 z) (h.1 z) k)

  module _ (s : Inhabited X) (t : Inhabited Y) where
    pub lower_lesser : (q : Place) → IsLowerBound q (Lesser X Y) ↔ (IsLowerBound q X × IsLowerBound q Y)
    lower_lesser q = (
      λ h. (
        (λ x k. ⊎_elim (λ l. h x (x, t.0, k, t.1, inl (l, ≃_refl))) (λ l. ⊑_trans (h t.0 (x, t.0, k, t.1, inr (≺-≼ l, ≃_refl))) (at_⊑ (≺-≼ l))) (≼_or_≺ x t.0)),
        λ y k. ⊎_elim (λ l. h y (s.0, y, s.1, k, inr (l, ≃_refl))) (λ l. ⊑_trans (h s.0 (s.0, y, s.1, k, inl (≺-≼ l, ≃_refl))) (at_⊑ (≺-≼ l))) (≼_or_≺ y s.0),
      ),
      λ h z o. ⊎_elim (λ e. ⊑_trans (h.0 o.0 o.2) (at_⊑ (≃-≼ e.1))) (λ e. ⊑_trans (h.1 o.1 o.3) (at_⊑ (≃-≼ e.1))) o.4,
    )

    pub upper_greater : (q : Place) → IsUpperBound q (Greater X Y) ↔ (IsUpperBound q X × IsUpperBound q Y)
    upper_greater q = (
      λ h. (
        (λ x k. ⊎_elim (λ l. ⊑_trans (at_⊑ l) (h t.0 (x, t.0, k, t.1, inr (l, ≃_refl)))) (λ l. h x (x, t.0, k, t.1, inl (≺-≼ l, ≃_refl))) (≼_or_≺ x t.0)),
        λ y k. ⊎_elim (λ l. ⊑_trans (at_⊑ l) (h s.0 (s.0, y, s.1, k, inl (l, ≃_refl)))) (λ l. h y (s.0, y, s.1, k, inr (≺-≼ l, ≃_refl))) (≼_or_≺ y s.0),
      ),
      λ h z o. ⊎_elim (λ e. ⊑_trans (at_⊑ (≃-≽ e.1)) (h.0 o.0 o.2)) (λ e. ⊑_trans (at_⊑ (≃-≽ e.1)) (h.1 o.1 o.3)) o.4,
    )

-- the other end: that of the range whose end is nearer
module _ {a b c d : Place} (s : Inhabited (Between a b)) (t : Inhabited (Between c d)) where
  -- x is a lesser where the other range goes as far up
  up_to : b ⊑ d → (x : Number) → Between a b x → Lesser (Between a b) (Between c d) x
  up_to h x k = ⊎_elim
      (λ l. (x, t.0, k, t.1, inl (l, ≃_refl)))
      (λ l. (x, x, k, (⊑_trans t.1.0 (at_⊑ (≺-≼ l)), ⊑_trans k.1 h), inl (≼_refl, ≃_refl)))
      (≼_or_≺ x t.0)

  down_to : c ⊑ a → (x : Number) → Between a b x → Greater (Between a b) (Between c d) x
  down_to h x k = ⊎_elim
      (λ l. (x, t.0, k, t.1, inl (l, ≃_refl)))
      (λ l. (x, x, k, (⊑_trans h k.0, ⊑_trans (at_⊑ (≺-≼ l)) t.1.1), inl (≼_refl, ≃_refl)))
      (≼_or_≺ t.0 x)

  pub upper_lesser : b ⊑ d → (q : Place) → IsUpperBound q (Lesser (Between a b) (Between c d)) ↔ (b ⊑ q)
  upper_lesser h q = (
    λ k. ((range_sup s).sup q).0 (λ x l. k x (up_to h x l)),
    λ k z o. ⊎_elim (λ e. ⊑_trans (at_⊑ (≃-≽ e.1)) (⊑_trans o.2.1 k)) (λ e. ⊑_trans (at_⊑ (≼_trans (≃-≽ e.1) e.0)) (⊑_trans o.2.1 k)) o.4,
  )

  pub lower_greater : c ⊑ a → (q : Place) → IsLowerBound q (Greater (Between a b) (Between c d)) ↔ (q ⊑ a)
  lower_greater h q = (
    λ k. ((range_inf s).inf q).0 (λ x l. k x (down_to h x l)),
    λ k z o. ⊎_elim (λ e. ⊑_trans k (⊑_trans o.2.0 (at_⊑ (≃-≼ e.1)))) (λ e. ⊑_trans k (⊑_trans o.2.0 (at_⊑ (≼_trans e.0 (≃-≼ e.1))))) o.4,
  )

-- the order of the operands does not matter
pub lesser_swap : {X Y : Number → Type 0} (z : Number) → Lesser X Y z → Lesser Y X z
lesser_swap z o = (o.1, o.0, o.3, o.2, ⊎_elim inr inl o.4)

pub greater_swap : {X Y : Number → Type 0} (z : Number) → Greater X Y z → Greater Y X z
greater_swap z o = (o.1, o.0, o.3, o.2, ⊎_elim inr inl o.4)
