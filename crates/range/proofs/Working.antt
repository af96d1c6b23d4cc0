-- Hulls of sums, differences, products and quotients. Assumes nothing.
-- The lower end, rounded down, and the upper end, rounded up, are one text: what is lower for Down is higher for Up.
use Rattle.std.proofs.Common.{◌≡◌, ◌⊎◌, ◌↔◌, ℤ, ◌≤ℤ◌, true, is_some, Some, sym, refl, ap, ◌∙◌, subst, inl, inr, ⊎_elim, arith}
use borrow.Author.Differences.{ints}
use Rattle.std.proofs.lemmas.Int.{clamps, by_lt_z}
use Rattle.number.specs.Number.{Number, ◌≃◌, nought, neg, minus}
use Rattle.number.specs.Place.{Place, −∞, at, +∞, ◌⊑◌, opp, Inf, Sup, Inhabited, Outcomes, Sums, Differences, Products, Quotients}
use Rattle.number.specs.Ends.{◌⊹◌, ◌⊙◌}
use Rattle.number.specs.declared.Fraction.{Fraction}
use Rattle.number.specs.Fraction.{value}
use Rattle.number.proofs.Fractions.{≼_antisym, ≃_refl, ≃_sym, ≃_trans, ≃-≼, ≃-≽, ≺_not_≃, ≄-≺, minus_≃, plus_nought}
use Rattle.number.proofs.Places.{at_⊑, ⊑_at, ⊑_refl, ⊑_trans, opp_⊑}
use Rattle.number.proofs.Ends.{sum_ends, difference_ends, product_ends}
use Rattle.number.proofs.Ranges.{range_positive, range_negative}
use Rattle.number.proofs.Quotients.{quotient_ends⁺, quotient_ends⁻}
use Rattle.scale.specs.declared.rounding.Rounding.{Rounding}
use Rattle.scale.specs.declared.rounding.Rounding.TheVariants.{Down, Up}
use Rattle.scale.specs.Scale.{Code, Floor, Ceiling, Ordered, Told}
use Rattle.scale.specs.Rounded.{Rounded, sum_of, difference_of, Sum, Difference, Written}
use Rattle.range.specs.declared.corner.Side.{Side}
use Rattle.range.specs.declared.corner.Side.TheVariants.{Below, Above}
use Rattle.range.specs.declared.range.Range.{Range}
use Rattle.range.specs.Held.{Holds}
use Rattle.range.specs.Hull.{Lowest, Highest, Hull, blank, ends}
use Rattle.range.specs.Outcomes.{Constant, Negations, Either, Quotients⁻, Quotients⁺}
use Rattle.range.specs.Corner.{Corner, End, outer, Outermost, Facing, end_towards, part, recip, QuotientsOn}
use Rattle.range.specs.Worked.{BinaryEnd}
use Rattle.range.proofs.Bounding.{valued}
use Rattle.range.proofs.Codes.{Codes, lowest_by, highest_by, hull_same, nothing_holds}

-- ---- by either rounding
-- lower for Down, higher for Up
abbrev Beyond : Rounding → Place → Place → Type 0
Beyond Down q s = q ⊑ s
Beyond Up q s = s ⊑ q

abbrev Further : Rounding → ℤ → ℤ → Type 0
Further Down c d = c ≤ℤ d
Further Up c d = d ≤ℤ c

abbrev Bound : Rounding → Place → (Number → Type 0) → Type 0
Bound r q S = (x : Number) → S x → Beyond r q (at x)

abbrev ByCorners : Rounding → Place → Place → Place → Place → Place → Type 0
ByCorners r q a b c d = Beyond r q (a ⊙ c) × Beyond r q (a ⊙ d) × Beyond r q (b ⊙ c) × Beyond r q (b ⊙ d)

beyond_trans : (r : Rounding) (q s t : Place) → Beyond r q s → Beyond r s t → Beyond r q t
beyond_trans Down q s t h k = ⊑_trans h k
beyond_trans Up q s t h k = ⊑_trans k h

outer_one : (r : Rounding) (k l : ℤ) → ((outer r k l ≡ k) × Further r k l) ⊎ ((outer r k l ≡ l) × Further r l k)
outer_one Down k l = by_lt_z k l (λ h. inl (omega (arith, ints, clamps), omega (arith, ints))) (λ h. inr (omega (arith, ints, clamps), omega (arith, ints)))
outer_one Up k l = by_lt_z k l (λ h. inr (omega (arith, ints, clamps), omega (arith, ints))) (λ h. inl (omega (arith, ints, clamps), omega (arith, ints)))

-- the innermost code whose place has the property Q
record Last (p : ℤ → Place) (r : Rounding) (Q : Place → Type 0) (c : ℤ) : Type 0 where
  code : Code c
  holds : Q (p c)
  last : (d : ℤ) → Code d → Q (p d) → Further r d c

module _ {p : ℤ → Place} {c : ℤ} where
  corner_last : (r : Rounding) (q : Place) → Corner p r q c → Last p r (λ s. Beyond r s q) c
  corner_last Down q f = record { code = f.code; holds = f.not_above; last = f.greatest }
  corner_last Up q f = record { code = f.code; holds = f.not_below; last = f.least }

  module _ (S : Number → Type 0) where
    end_last : (r : Rounding) → End p r S c → Last p r (λ q. Bound r q S) c
    end_last Down f = record { code = f.code; holds = f.bound; last = f.greatest }
    end_last Up f = record { code = f.code; holds = f.bound; last = f.least }

    last_end : (r : Rounding) {Q : Place → Type 0} → ((q : Place) → Bound r q S ↔ Q q) → Last p r Q c → End p r S c
    last_end Down e f = record { code = f.code; bound = (e (p c)).1 f.holds; greatest = λ d k b. f.last d k ((e (p d)).0 b) }
    last_end Up e f = record { code = f.code; bound = (e (p c)).1 f.holds; least = λ d k b. f.last d k ((e (p d)).0 b) }

-- Q goes outwards
abbrev Closed : Rounding → (Place → Type 0) → Type 0
Closed r Q = (q s : Place) → Beyond r q s → Q s → Q q

module _ {p : ℤ → Place} (O : Ordered p) where
  outwards : (r : Rounding) {c d : ℤ} → Code c → Code d → Further r c d → Beyond r (p c) (p d)
  outwards Down {c} {d} f g h = O.monotone c d f g h
  outwards Up {c} {d} f g h = O.monotone d c g f h

  -- both properties at once: the outer one of the two codes
  last_both : (r : Rounding) {Q R : Place → Type 0} {k l : ℤ} → Closed r Q → Closed r R → Last p r Q k → Last p r R l → Last p r (λ q. Q q × R q) (outer r k l)
  last_both r {Q} {R} {k} {l} u v f g = ⊎_elim
      (λ h. subst (λ c. Last p r (λ q. Q q × R q) c) (sym h.0) (record { code = f.code; holds = (f.holds, v (p k) (p l) (outwards r f.code g.code h.1) g.holds); last = λ d c b. f.last d c b.0 }))
      (λ h. subst (λ c. Last p r (λ q. Q q × R q) c) (sym h.0) (record { code = g.code; holds = (u (p l) (p k) (outwards r g.code f.code h.1) f.holds, g.holds); last = λ d c b. g.last d c b.1 }))
      (outer_one r k l)

  -- ---- a set that is bounded by the four products of ends
  module _ (r : Rounding) (a b c d : Place) (S : Number → Type 0) (e : (q : Place) → Bound r q S ↔ ByCorners r q a b c d) (k l m n : ℤ) where
    corners_end : Corner p r (a ⊙ c) k → Corner p r (a ⊙ d) l → Corner p r (b ⊙ c) m → Corner p r (b ⊙ d) n → End p r S (outer r (outer r k l) (outer r m n))
    corners_end f g h i = last_end S r
        (λ q. ((λ b. let c = (e q).0 b in ((c.0, c.1), (c.2, c.3))), λ c. (e q).1 (c.0.0, c.0.1, c.1.0, c.1.1)))
        (last_both r (two a) (two b) (last_both r (one (a ⊙ c)) (one (a ⊙ d)) (corner_last r (a ⊙ c) f) (corner_last r (a ⊙ d) g)) (last_both r (one (b ⊙ c)) (one (b ⊙ d)) (corner_last r (b ⊙ c) h) (corner_last r (b ⊙ d) i)))
      where
        one : (t q s : Place) → Beyond r q s → Beyond r s t → Beyond r q t
        one t q s h k = beyond_trans r q s t h k

        two : (t q s : Place) → Beyond r q s → Beyond r s (t ⊙ c) × Beyond r s (t ⊙ d) → Beyond r q (t ⊙ c) × Beyond r q (t ⊙ d)
        two t q s h k = (one (t ⊙ c) q s h k.0, one (t ⊙ d) q s h k.1)

  -- C gives the corners of any two codes
  module _ (r : Rounding) (x y : Range) (X : Codes x) (Y : Codes y) {C : ℤ → ℤ → ℤ → Type 0} {k : ℤ} (u : Outermost C r x y k) where
    pub product_end : ((a b c : ℤ) → Code a → Code b → C a b c → Corner p r (p a ⊙ p b) c) → BinaryEnd p r Products x y k
    product_end f o =
        subst (λ c. End p r (Products (Holds p x) (Holds p y)) c) (sym u.outermost) (corners_end r (p x.lower) (p x.upper) (p y.lower) (p y.upper) (Products (Holds p x) (Holds p y)) (by (o.1.0, o.1.2) (o.1.1, o.1.3) r) u.k u.l u.m u.n
        (f _ _ _ X.lower_code Y.lower_code u.lower_lower) (f _ _ _ X.lower_code Y.upper_code u.lower_upper) (f _ _ _ X.upper_code Y.lower_code u.upper_lower) (f _ _ _ X.upper_code Y.upper_code u.upper_upper))
      where
        by : Inhabited (Holds p x) → Inhabited (Holds p y) → (r : Rounding) (q : Place) → Bound r q (Products (Holds p x) (Holds p y)) ↔ ByCorners r q (p x.lower) (p x.upper) (p y.lower) (p y.upper)
        by sx sy Down q = (product_ends (p x.lower) (p x.upper) (p y.lower) (p y.upper) sx sy q).0
        by sx sy Up q = (product_ends (p x.lower) (p x.upper) (p y.lower) (p y.upper) sx sy q).1

    -- one over the upper end is the lower one
    pub quotient_end : (s : Side) → ((a b c : ℤ) → Code a → Code b → C a b c → Corner p r (p a ⊙ recip s (p b)) c) → BinaryEnd p r (QuotientsOn s) x y k
    quotient_end s f o =
        subst (λ c. End p r (QuotientsOn s (Holds p x) (Holds p y)) c) (sym u.outermost) (corners_end r (p x.lower) (p x.upper) (recip s (p y.lower)) (recip s (p y.upper)) (QuotientsOn s (Holds p x) (Holds p y)) (λ q. swap (by s (o.1.0, o.1.2) (o.1.1, o.1.3) r q)) u.k u.l u.m u.n
        (f _ _ _ X.lower_code Y.lower_code u.lower_lower) (f _ _ _ X.lower_code Y.upper_code u.lower_upper) (f _ _ _ X.upper_code Y.lower_code u.upper_lower) (f _ _ _ X.upper_code Y.upper_code u.upper_upper))
      where
        by : (s : Side) → Inhabited (Holds p x) → Inhabited (part s (Holds p y)) → (r : Rounding) (q : Place) → Bound r q (QuotientsOn s (Holds p x) (Holds p y)) ↔ ByCorners r q (p x.lower) (p x.upper) (recip s (p y.upper)) (recip s (p y.lower))
        by Below sx sy Down q = (quotient_ends⁻ (p x.lower) (p x.upper) (p y.lower) (p y.upper) sx sy q).0
        by Below sx sy Up q = (quotient_ends⁻ (p x.lower) (p x.upper) (p y.lower) (p y.upper) sx sy q).1
        by Above sx sy Down q = (quotient_ends⁺ (p x.lower) (p x.upper) (p y.lower) (p y.upper) sx sy q).0
        by Above sx sy Up q = (quotient_ends⁺ (p x.lower) (p x.upper) (p y.lower) (p y.upper) sx sy q).1

        swap : {A : Type 0} {B C D E : Type 0} → A ↔ (B × C × D × E) → A ↔ (C × B × E × D)
        swap e = (λ a. let u = e.0 a in (u.1, u.0, u.3, u.2), λ u. e.1 (u.1, u.0, u.3, u.2))

-- ---- whether a range has a number on a side of 0
module _ (p : ℤ → Place) (s : Side) (y : Range) where
  pub reached : Inhabited (Holds p y) → Facing s (p (end_towards s y)) → Inhabited (part s (Holds p y))
  reached = by s
    where
      by : (s : Side) → Inhabited (Holds p y) → Facing s (p (end_towards s y)) → Inhabited (part s (Holds p y))
      by Below h k = (range_negative (p y.lower) (p y.upper)).1 (h, k)
      by Above h k = (range_positive (p y.lower) (p y.upper)).1 (h, k)

  pub not_reached : ¬ (Facing s (p (end_towards s y))) → (z : Number) → part s (Holds p y) z → ⊥
  not_reached = by s
    where
      by : (s : Side) → ¬ (Facing s (p (end_towards s y))) → (z : Number) → part s (Holds p y) z → ⊥
      by Below n z h = n ((range_negative (p y.lower) (p y.upper)).0 (z, h)).1
      by Above n z h = n ((range_positive (p y.lower) (p y.upper)).0 (z, h)).1

-- ---- outcomes by their two ends
outcome : {f : Number → Number → Number} {X Y : Number → Type 0} → Inhabited X → Inhabited Y → Inhabited (Outcomes f X Y)
outcome {f} s t = (f s.0 t.0, (s.0, t.0, s.1, t.1, ≃_refl))

pub outcome_hull : {p : ℤ → Place} {f : Number → Number → Number} {X Y : Number → Type 0} → Inhabited X → Inhabited Y → {c d : ℤ} →
    (Inhabited (Outcomes f X Y) → Lowest p (Outcomes f X Y) c) → (Inhabited (Outcomes f X Y) → Highest p (Outcomes f X Y) d) → Hull p (Outcomes f X Y) (record { lower = c; upper = d })
outcome_hull s t l u = let o = outcome s t in ends o.0 o.1 (l o) (u o)

-- ---- sums and differences
difference_is : (u v : Place) → difference_of u v ≡ sum_of u (opp v)
difference_is −∞ v = refl
difference_is (at x) −∞ = refl
difference_is (at x) (at y) = refl
difference_is (at x) +∞ = refl
difference_is +∞ v = refl

module _ (p : ℤ → Place) where
  ends_hull : {S : Number → Type 0} {i j : Place} {c d : ℤ} → Inhabited S → Inf S i × Sup S j → Floor p i c → Ceiling p j d → Hull p S (record { lower = c; upper = d })
  ends_hull s e f g = ends s.0 s.1 (lowest_by e.0 f) (highest_by e.1 g)

  -- an operand's infinite lower end is minus infinity and its infinite upper end plus infinity, and so is the sum's
  sum_corner : (r : Rounding) (u v : Place) (x y : Number) (c : ℤ) → Beyond r u (at x) → Beyond r v (at y) → Rounded p r (sum_of u v) c → Corner p r (u ⊹ v) c
  sum_corner Down −∞ v x y c h k f = f
  sum_corner Down (at w) −∞ x y c h k f = f
  sum_corner Down (at w) (at z) x y c h k f = f
  sum_corner Down (at w) +∞ x y c h k f = absurd k.le
  sum_corner Down +∞ v x y c h k f = absurd h.le
  sum_corner Up −∞ v x y c h k f = absurd h.le
  sum_corner Up (at w) −∞ x y c h k f = absurd k.le
  sum_corner Up (at w) (at z) x y c h k f = f
  sum_corner Up (at w) +∞ x y c h k f = f
  sum_corner Up +∞ v x y c h k f = f

  difference_corner : (r : Rounding) (u v : Place) (x y : Number) (c : ℤ) → Beyond r u (at x) → Beyond r (opp v) (at (neg y)) → Rounded p r (difference_of u v) c → Corner p r (u ⊹ opp v) c
  difference_corner r u v x y c h k f = sum_corner r u (opp v) x (neg y) c h k (subst (λ o. Rounded p r o c) (difference_is u v) f)

  module _ (x y : Range) (sx : Inhabited (Holds p x)) (sy : Inhabited (Holds p y)) (c d : ℤ) where
    pub sum_hull : Sum p Down x.lower y.lower c → Sum p Up x.upper y.upper d → Hull p (Sums (Holds p x) (Holds p y)) (record { lower = c; upper = d })
    sum_hull f g = ends_hull (outcome sx sy) (sum_ends (p x.lower) (p x.upper) (p y.lower) (p y.upper) sx sy)
        (sum_corner Down (p x.lower) (p y.lower) sx.0 sy.0 c sx.1.0 sy.1.0 f)
        (sum_corner Up (p x.upper) (p y.upper) sx.0 sy.0 d sx.1.1 sy.1.1 g)

    pub difference_hull : Difference p Down x.lower y.upper c → Difference p Up x.upper y.lower d → Hull p (Differences (Holds p x) (Holds p y)) (record { lower = c; upper = d })
    difference_hull f g = ends_hull (outcome sx sy) (difference_ends (p x.lower) (p x.upper) (p y.lower) (p y.upper) sx sy)
        (difference_corner Down (p x.lower) (p y.upper) sx.0 sy.0 c sx.1.0 (opp_⊑ sy.1.1) f)
        (difference_corner Up (p x.upper) (p y.lower) sx.0 sy.0 d sx.1.1 (opp_⊑ sy.1.0) g)

  -- ---- the negation is 0 less the range
  module _ {low origin high : ℤ} (T : Told p low origin high) (z y : Range) (l : z.lower ≡ origin) (u : z.upper ≡ origin) where
    pub negation_hull : {r : Range} → Hull p (Differences (Holds p z) (Holds p y)) r → Hull p (Negations (Holds p y)) r
    negation_hull = hull_same to from
      where
        low_is : p z.lower ≡ at T.origin_zero.number
        low_is = ap p l ∙ T.origin_zero.place

        high_is : p z.upper ≡ at T.origin_zero.number
        high_is = ap p u ∙ T.origin_zero.place

        less : (x y : Number) → x ≃ nought → minus x y ≃ neg y
        less x y e = ≃_trans (minus_≃ {y = y} e ≃_refl) (plus_nought (neg y))

        alone : (x : Number) → Holds p z x → x ≃ nought
        alone x h = ≃_trans (≼_antisym (⊑_at (subst (λ q. at x ⊑ q) high_is h.1)) (⊑_at (subst (λ q. q ⊑ at x) low_is h.0))) T.origin_zero.nil

        to : (w : Number) → Differences (Holds p z) (Holds p y) w → Negations (Holds p y) w
        to w o = (o.1, o.3, ≃_trans (≃_sym (less o.0 o.1 (alone o.0 o.2))) o.4)

        from : (w : Number) → Negations (Holds p y) w → Differences (Holds p z) (Holds p y) w
        from w o =
            let n = T.origin_zero.number in
            (n, o.0, (subst (λ q. q ⊑ at n) (sym low_is) ⊑_refl, subst (λ q. at n ⊑ q) (sym high_is) ⊑_refl), o.1, ≃_trans (less n o.0 T.origin_zero.nil) o.2)

  -- ---- the value of a fraction is both its ends
  pub constant_hull : (f : Fraction) → is_some (value f) ≡ true → (c d : ℤ) → Written p Down f c → Written p Up f d → Hull p (Constant f) (record { lower = c; upper = d })
  constant_hull f v c d h k = ends_hull (x, (x, e, ≃_refl))
      (record { inf = λ q. (λ b. b x (x, e, ≃_refl), λ b y m. ⊑_trans b (same y m).0) }, record { sup = λ q. (λ b. b x (x, e, ≃_refl), λ b y m. ⊑_trans (same y m).1 b) })
      (subst (λ o. Rounded p Down o c) e h) (subst (λ o. Rounded p Up o d) e k)
    where
      x : Number
      x = (valued f v).0

      e : value f ≡ Some x
      e = (valued f v).1

      same : (y : Number) → Constant f y → (at x ⊑ at y) × (at y ⊑ at x)
      same y m = let s : m.0 ≡ x = cc (e) in let t : x ≃ y = subst (λ w. w ≃ y) s m.2 in (at_⊑ (≃-≼ t), at_⊑ (≃-≽ t))

-- ---- what a hull tells of its set
module _ {p : ℤ → Place} {S : Number → Type 0} {m : Range} where
  hull_holds : Hull p S m → (x : Number) → S x → Holds p m x
  hull_holds (blank n e) x h = absurd (n x h)
  hull_holds (ends y k l u) x h = (l.bound x h, u.bound x h)

  module _ (O : Ordered p) where
    hull_some : Hull p S m → Inhabited (Holds p m) → Inhabited S
    hull_some (blank n e) s = absurd (nothing_holds O s.0 (subst (λ q. Holds p q s.0) e s.1))
    hull_some (ends x h l u) s = (x, h)

    -- a code that bounds the set bounds its hull
    hull_bound : (r : Rounding) (d : ℤ) → Code d → Hull p S m → Bound r (p d) S → Bound r (p d) (Holds p m)
    hull_bound r d f (blank n e) b = λ x h. absurd (nothing_holds O x (subst (λ q. Holds p q x) e h))
    hull_bound Down d f (ends y k l u) b = λ x h. ⊑_trans (O.monotone d m.lower f l.code (l.greatest d f b)) h.0
    hull_bound Up d f (ends y k l u) b = λ x h. ⊑_trans h.1 (O.monotone m.upper d u.code f (u.least d f b))

-- ---- the hull of two hulls is that of the two sets
module _ {p : ℤ → Place} (O : Ordered p) {S R : Number → Type 0} {m n : Range} (h : Hull p S m) (k : Hull p R n) where
  held : (x : Number) → Either S R x → Either (Holds p m) (Holds p n) x
  held x = ⊎_elim (λ o. inl (hull_holds h x o)) (λ o. inr (hull_holds k x o))

  either_end : (r : Rounding) (c : ℤ) → End p r (Either (Holds p m) (Holds p n)) c → End p r (Either S R) c
  either_end r c e = let f = end_last (Either (Holds p m) (Holds p n)) r e in last_end (Either S R) r (λ q. (λ b. b, λ b. b)) (record {
    code = f.code;
    holds = λ x o. f.holds x (held x o);
    last = λ d g b. f.last d g (λ x. ⊎_elim (hull_bound O r d g h (λ y o. b y (inl o)) x) (hull_bound O r d g k (λ y o. b y (inr o)) x));
  })

  either_hull : {r : Range} → Hull p (Either (Holds p m) (Holds p n)) r → Hull p (Either S R) r
  either_hull (blank e f) = blank (λ x o. e x (held x o)) f
  either_hull {r} (ends x o l u) =
      let s : Inhabited (Either S R) = ⊎_elim (λ a. let b = hull_some O h (x, a) in (b.0, inl b.1)) (λ a. let b = hull_some O k (x, a) in (b.0, inr b.1)) o in
      ends s.0 s.1 (either_end Down r.lower l) (either_end Up r.upper u)

-- ---- the quotients are those by the divisors on either side
pub sides_hull : {p : ℤ → Place} → Ordered p → (X Y : Number → Type 0) {m n r : Range} → Hull p (Quotients⁻ X Y) m → Hull p (Quotients⁺ X Y) n → Hull p (Either (Holds p m) (Holds p n)) r → Hull p (Quotients X Y) r
sides_hull O X Y h k j = hull_same to from (either_hull O h k j)
  where
    to : (z : Number) → Either (Quotients⁻ X Y) (Quotients⁺ X Y) z → Quotients X Y z
    to z = ⊎_elim (λ o. (o.0, o.1, o.2, (o.3.0, ≺_not_≃ o.3.1), o.4)) (λ o. (o.0, o.1, o.2, (o.3.0, λ e. ≺_not_≃ o.3.1 (≃_sym e)), o.4))

    from : (z : Number) → Quotients X Y z → Either (Quotients⁻ X Y) (Quotients⁺ X Y) z
    from z o = ⊎_elim (λ h. inl (o.0, o.1, o.2, (o.3.0, h), o.4)) (λ h. inr (o.0, o.1, o.2, (o.3.0, h), o.4)) (≄-≺ o.3.1)
