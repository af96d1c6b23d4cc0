-- Operations on codes that need only the order of a scale: what the lesser and greater codes of two ranges make, and which truths occur. Assumes nothing.
use Rattle.std.proofs.Common.{◌≡◌, ℕ, Bool, true, false, ◌&&◌, ◌||◌, T, ◌⊎◌, ◌↔◌, ℤ, ◌≤ℤ◌, ◌<ℤ◌, sym, refl, ◌∙◌, subst, inl, inr, ⊎_elim, arith}
use borrow.Author.Differences.{ints}
use lib.Signed.{lt_z, le_z}
use Rattle.std.specs.Int.{int_max, int_min}
use Rattle.std.proofs.lemmas.Int.{clamps, by_lt_z}
use Rattle.number.specs.Number.{Number, ◌≼◌, ◌≺◌}
use Rattle.number.specs.Place.{Place, −∞, at, +∞, ◌⊑◌, IsLowerBound, IsUpperBound, Inhabited}
use Rattle.number.proofs.Fractions.{≼_or_≺, ≺-≼, ≺_not_≃, ≃_refl, ≃_sym, ≃-≼, ≃-≽, ≄-≺}
use Rattle.number.proofs.Places.{at_⊑, ⊑_refl, ⊑_trans}
use Rattle.number.proofs.Ends.{range_inf, range_sup}
use Rattle.scale.specs.Scale.{Code, Ordered}
use Rattle.range.specs.declared.range.Range.{Range}
use Rattle.range.specs.declared.verdict.Verdict.{Verdict}
use Rattle.range.specs.Held.{Holds}
use Rattle.range.specs.Hull.{Hull}
use Rattle.range.specs.Outcomes.{Lesser, Greater, Either, Both}
use Rattle.range.specs.Truths.{allowed, Exactly, Comparisons, Less, IsAtMost, Equal}
use Rattle.range.proofs.Codes.{Codes, code_alone, hull_same}
use Rattle.range.proofs.Ordering.{some_at_most, at_most_ends, some_below, below_ends, some_same, hull_bounds, lower_either, upper_either, lower_lesser, upper_lesser, lower_greater, upper_greater, lesser_swap, greater_swap}

-- ---- a verdict from two tests
pub exactly_by : (T : Bool → Type 0) (v : Verdict) {t f : Bool} → allowed v true ≡ t → allowed v false ≡ f → ((t ≡ true) ↔ T true) → ((f ≡ true) ↔ T false) → Exactly T v
exactly_by S v {t} {f} e g h k = record { sound = λ b s. sound b s; tight = λ b s. tight b s }
  where
    sound : (b : Bool) → S b → T (allowed v b)
    sound true s = subst T (sym (e ∙ h.1 s)) tt
    sound false s = subst T (sym (g ∙ k.1 s)) tt

    tells : (b : Bool) → T b → b ≡ true
    tells true s = refl
    tells false s = absurd s

    tight : (b : Bool) → T (allowed v b) → S b
    tight true s = h.0 (sym e ∙ tells (allowed v true) s)
    tight false s = k.0 (sym g ∙ tells (allowed v false) s)

-- no truth occurs where an operand has no member
pub exactly_none : (T : Bool → Type 0) (v : Verdict) → ((b : Bool) → allowed v b ≡ false) → ((b : Bool) → T b → ⊥) → Exactly T v
exactly_none S v e n = record { sound = λ b s. absurd (n b s); tight = λ b s. absurd (subst T (e b) s) }

-- ---- joins with a blank operand
module _ {p : ℤ → Place} {X Y : Number → Type 0} {r : Range} where
  pub join_first : ((z : Number) → Y z → ⊥) → Hull p X r → Hull p (Either X Y) r
  join_first n = hull_same (λ z h. inl h) (λ z h. ⊎_elim (λ k. k) (λ k. absurd (n z k)) h)

  pub join_second : ((z : Number) → X z → ⊥) → Hull p Y r → Hull p (Either X Y) r
  join_second n = hull_same (λ z h. inr h) (λ z h. ⊎_elim (λ k. absurd (n z k)) (λ k. k) h)

module _ {p : ℤ → Place} (O : Ordered p) where
  -- ---- the lesser and the greater of two codes
  module _ {c d : ℤ} (f : Code c) (g : Code d) where
    pub min_place : (q : Place) → (q ⊑ p (int_min c d)) ↔ ((q ⊑ p c) × (q ⊑ p d))
    min_place q = by_lt_z d c
        (λ l. let e : d ≡ int_min c d = omega (arith, ints, clamps) in
        subst (λ m. (q ⊑ p m) ↔ ((q ⊑ p c) × (q ⊑ p d))) e (λ h. (⊑_trans h (O.monotone d c g f (omega (arith, ints))), h), λ h. h.1))
        (λ l. let e : c ≡ int_min c d = omega (arith, ints, clamps) in
        subst (λ m. (q ⊑ p m) ↔ ((q ⊑ p c) × (q ⊑ p d))) e (λ h. (h, ⊑_trans h (O.monotone c d f g l)), λ h. h.0))

    pub max_place : (q : Place) → (p (int_max c d) ⊑ q) ↔ ((p c ⊑ q) × (p d ⊑ q))
    max_place q = by_lt_z d c
        (λ l. let e : c ≡ int_max c d = omega (arith, ints, clamps) in
        subst (λ m. (p m ⊑ q) ↔ ((p c ⊑ q) × (p d ⊑ q))) e (λ h. (h, ⊑_trans (O.monotone d c g f (omega (arith, ints))) h), λ h. h.0))
        (λ l. let e : d ≡ int_max c d = omega (arith, ints, clamps) in
        subst (λ m. (p m ⊑ q) ↔ ((p c ⊑ q) × (p d ⊑ q))) e (λ h. (⊑_trans (O.monotone c d f g l) h, h), λ h. h.1))

    -- ---- the order of two codes is that of their places, where the one is not plus infinity's and the other not minus infinity's
    clash : {x y : Number} → p c ⊑ at x → at y ⊑ p d → p c ⊑ p d → p d ⊑ p c → c ≡ d
    clash {x} {y} h k l m = by (p c) refl
      where
        by : (q : Place) → p c ≡ q → c ≡ d
        by −∞ e = absurd (subst (λ q. at y ⊑ q) e (⊑_trans k m)).le
        by (at z) e = code_alone O f g e l m
        by +∞ e = absurd (subst (λ q. q ⊑ at x) e h).le

    pub code_le : {x y : Number} → p c ⊑ at x → at y ⊑ p d → (c ≤ℤ d) ↔ (p c ⊑ p d)
    code_le h k = (
      λ l. O.monotone c d f g l,
      λ l. by_lt_z d c (λ s. let e = clash h k l (O.monotone d c g f (omega (arith, ints))) in omega (arith, ints)) (λ s. s),
    )

    pub code_lt : {x y : Number} → p c ⊑ at x → at y ⊑ p d → (c <ℤ d) ↔ ¬ (p d ⊑ p c)
    code_lt h k = (
      λ l m. let e = clash h k (O.monotone c d f g (omega (arith, ints))) m in omega (arith, ints),
      λ n. by_lt_z c d (λ s. s) (λ s. absurd (n (O.monotone d c g f s))),
    )

  module _ (x y : Range) (C : Codes x) (D : Codes y) where
    abbrev X : Number → Type 0
    X = Holds p x

    abbrev Y : Number → Type 0
    Y = Holds p y

    -- ---- meet needs no member
    abbrev meet : Range
    meet = record { lower = int_max x.lower y.lower; upper = int_min x.upper y.upper }

    meet_to : (z : Number) → Holds p meet z → Both (Holds p x) (Holds p y) z
    meet_to z h =
        let l = (max_place C.lower_code D.lower_code (at z)).0 h.0 in
        let u = (min_place C.upper_code D.upper_code (at z)).0 h.1 in
        ((l.0, u.0), (l.1, u.1))

    meet_from : (z : Number) → Both (Holds p x) (Holds p y) z → Holds p meet z
    meet_from z h = ((max_place C.lower_code D.lower_code (at z)).1 (h.0.0, h.1.0), (min_place C.upper_code D.upper_code (at z)).1 (h.0.1, h.1.1))

    pub meet_hull : {r : Range} → Hull p (Holds p meet) r → Hull p (Both (Holds p x) (Holds p y)) r
    meet_hull = hull_same meet_to meet_from

    module _ (s : Inhabited (Holds p x)) (t : Inhabited (Holds p y)) where
      lows : (q : Place) → (q ⊑ p (int_min x.lower y.lower)) ↔ (IsLowerBound q X × IsLowerBound q Y)
      lows q =
          let m = min_place C.lower_code D.lower_code q in
          (λ h. (((range_inf s).inf q).1 (m.0 h).0, ((range_inf t).inf q).1 (m.0 h).1), λ h. m.1 (((range_inf s).inf q).0 h.0, ((range_inf t).inf q).0 h.1))

      highs : (q : Place) → (p (int_max x.upper y.upper) ⊑ q) ↔ (IsUpperBound q X × IsUpperBound q Y)
      highs q =
          let m = max_place C.upper_code D.upper_code q in
          (λ h. (((range_sup s).sup q).1 (m.0 h).0, ((range_sup t).sup q).1 (m.0 h).1), λ h. m.1 (((range_sup s).sup q).0 h.0, ((range_sup t).sup q).0 h.1))

      -- ---- join
      abbrev wide : Range
      wide = record { lower = int_min x.lower y.lower; upper = int_max x.upper y.upper }

      pub join_hull : {r : Range} → Hull p (Holds p wide) r → Hull p (Either X Y) r
      join_hull =
          let w : Inhabited (Holds p wide) = (s.0, (min_low, max_high)) in
          hull_bounds w (s.0, inl s.1)
          (λ q. (λ h. (lower_either X Y q).1 ((lows q).0 (((range_inf w).inf q).0 h)), λ h. ((range_inf w).inf q).1 ((lows q).1 ((lower_either X Y q).0 h))))
          (λ q. (λ h. (upper_either X Y q).1 ((highs q).0 (((range_sup w).sup q).0 h)), λ h. ((range_sup w).sup q).1 ((highs q).1 ((upper_either X Y q).0 h))))
        where
          min_low : p (int_min x.lower y.lower) ⊑ at s.0
          min_low = ⊑_trans ((min_place C.lower_code D.lower_code _).0 ⊑_refl).0 s.1.0

          max_high : at s.0 ⊑ p (int_max x.upper y.upper)
          max_high = ⊑_trans s.1.1 ((max_place C.upper_code D.upper_code _).0 ⊑_refl).0

      -- ---- the lesser
      abbrev lesser : Range
      lesser = record { lower = int_min x.lower y.lower; upper = int_min x.upper y.upper }

      some_lesser : (z : Number) × Lesser X Y z × Holds p lesser z
      some_lesser = ⊎_elim
          (λ l. (s.0, (s.0, t.0, s.1, t.1, inl (l, ≃_refl)), (⊑_trans ((min_place C.lower_code D.lower_code _).0 ⊑_refl).0 s.1.0, (min_place C.upper_code D.upper_code _).1 (s.1.1, ⊑_trans (at_⊑ l) t.1.1))))
          (λ l. (t.0, (s.0, t.0, s.1, t.1, inr (≺-≼ l, ≃_refl)), (⊑_trans ((min_place C.lower_code D.lower_code _).0 ⊑_refl).1 t.1.0, (min_place C.upper_code D.upper_code _).1 (⊑_trans (at_⊑ (≺-≼ l)) s.1.1, t.1.1))))
          (≼_or_≺ s.0 t.0)

      lesser_high : (q : Place) → IsUpperBound q (Lesser X Y) ↔ (p (int_min x.upper y.upper) ⊑ q)
      lesser_high q = by_lt_z y.upper x.upper
          (λ l. let e : y.upper ≡ int_min x.upper y.upper = omega (arith, ints, clamps) in
          let g = upper_lesser t s (O.monotone y.upper x.upper D.upper_code C.upper_code (omega (arith, ints))) q in
          subst (λ m. IsUpperBound q (Lesser X Y) ↔ (p m ⊑ q)) e (λ h. g.0 (λ z o. h z (lesser_swap z o)), λ h z o. g.1 h z (lesser_swap z o)))
          (λ l. let e : x.upper ≡ int_min x.upper y.upper = omega (arith, ints, clamps) in
          subst (λ m. IsUpperBound q (Lesser X Y) ↔ (p m ⊑ q)) e (upper_lesser s t (O.monotone x.upper y.upper C.upper_code D.upper_code l) q))

      pub lesser_hull : {r : Range} → Hull p (Holds p lesser) r → Hull p (Lesser X Y) r
      lesser_hull =
          let z = some_lesser in
          let w : Inhabited (Holds p lesser) = (z.0, z.2) in
          hull_bounds w (z.0, z.1)
          (λ q. (λ h. (lower_lesser X Y s t q).1 ((lows q).0 (((range_inf w).inf q).0 h)), λ h. ((range_inf w).inf q).1 ((lows q).1 ((lower_lesser X Y s t q).0 h))))
          (λ q. (λ h. (lesser_high q).1 (((range_sup w).sup q).0 h), λ h. ((range_sup w).sup q).1 ((lesser_high q).0 h)))

      -- ---- the greater
      abbrev greater : Range
      greater = record { lower = int_max x.lower y.lower; upper = int_max x.upper y.upper }

      some_greater : (z : Number) × Greater X Y z × Holds p greater z
      some_greater = ⊎_elim
          (λ l. (t.0, (s.0, t.0, s.1, t.1, inr (l, ≃_refl)), ((max_place C.lower_code D.lower_code _).1 (⊑_trans s.1.0 (at_⊑ l), t.1.0), ⊑_trans t.1.1 ((max_place C.upper_code D.upper_code _).0 ⊑_refl).1)))
          (λ l. (s.0, (s.0, t.0, s.1, t.1, inl (≺-≼ l, ≃_refl)), ((max_place C.lower_code D.lower_code _).1 (s.1.0, ⊑_trans t.1.0 (at_⊑ (≺-≼ l))), ⊑_trans s.1.1 ((max_place C.upper_code D.upper_code _).0 ⊑_refl).0)))
          (≼_or_≺ s.0 t.0)

      greater_low : (q : Place) → IsLowerBound q (Greater X Y) ↔ (q ⊑ p (int_max x.lower y.lower))
      greater_low q = by_lt_z y.lower x.lower
          (λ l. let e : x.lower ≡ int_max x.lower y.lower = omega (arith, ints, clamps) in
          subst (λ m. IsLowerBound q (Greater X Y) ↔ (q ⊑ p m)) e (lower_greater s t (O.monotone y.lower x.lower D.lower_code C.lower_code (omega (arith, ints))) q))
          (λ l. let e : y.lower ≡ int_max x.lower y.lower = omega (arith, ints, clamps) in
          let g = lower_greater t s (O.monotone x.lower y.lower C.lower_code D.lower_code l) q in
          subst (λ m. IsLowerBound q (Greater X Y) ↔ (q ⊑ p m)) e (λ h. g.0 (λ z o. h z (greater_swap z o)), λ h z o. g.1 h z (greater_swap z o)))

      pub greater_hull : {r : Range} → Hull p (Holds p greater) r → Hull p (Greater X Y) r
      greater_hull =
          let z = some_greater in
          let w : Inhabited (Holds p greater) = (z.0, z.2) in
          hull_bounds w (z.0, z.1)
          (λ q. (λ h. (greater_low q).1 (((range_inf w).inf q).0 h), λ h. ((range_inf w).inf q).1 ((greater_low q).0 h)))
          (λ q. (λ h. (upper_greater X Y s t q).1 ((highs q).0 (((range_sup w).sup q).0 h)), λ h. ((range_sup w).sup q).1 ((highs q).1 ((upper_greater X Y s t q).0 h))))

      -- ---- which truths occur
      lt_occurs : (lt_z x.lower y.upper ≡ true) ↔ ((u : Number) × (v : Number) × X u × Y v × (u ≺ v))
      lt_occurs =
          let c = code_lt C.lower_code D.upper_code s.1.0 t.1.1 in
          (λ e. some_below s t (c.0 (omega (arith, ints))), λ o. let k = c.1 (below_ends o.2 o.3 o.4) in let e : true ≡ lt_z x.lower y.upper = omega (arith, ints) in sym e)

      le_occurs : (le_z x.lower y.upper ≡ true) ↔ ((u : Number) × (v : Number) × X u × Y v × (u ≼ v))
      le_occurs =
          let c = code_le C.lower_code D.upper_code s.1.0 t.1.1 in
          (λ e. some_at_most s t (c.0 (omega (arith, ints))), λ o. let k = c.1 (at_most_ends o.2 o.3 o.4) in let e : true ≡ le_z x.lower y.upper = omega (arith, ints) in sym e)

  module _ (x y : Range) (C : Codes x) (D : Codes y) (s : Inhabited (Holds p x)) (t : Inhabited (Holds p y)) (v : Verdict) where
    -- the same pairs, from the other side
    turn_lt : (lt_z y.lower x.upper ≡ true) ↔ ((a : Number) × (b : Number) × Holds p x a × Holds p y b × (b ≺ a))
    turn_lt = let e = lt_occurs y x D C t s in (λ h. let o = e.0 h in (o.1, o.0, o.3, o.2, o.4), λ o. e.1 (o.1, o.0, o.3, o.2, o.4))

    turn_le : (le_z y.lower x.upper ≡ true) ↔ ((a : Number) × (b : Number) × Holds p x a × Holds p y b × (b ≼ a))
    turn_le = let e = le_occurs y x D C t s in (λ h. let o = e.0 h in (o.1, o.0, o.3, o.2, o.4), λ o. e.1 (o.1, o.0, o.3, o.2, o.4))

    pub less_exactly : allowed v true ≡ lt_z x.lower y.upper → allowed v false ≡ le_z y.lower x.upper → Exactly (Comparisons Less (Holds p x) (Holds p y)) v
    less_exactly e f = exactly_by (Comparisons Less (Holds p x) (Holds p y)) v e f (lt_occurs x y C D s t) turn_le

    pub at_most_exactly : allowed v true ≡ le_z x.lower y.upper → allowed v false ≡ lt_z y.lower x.upper → Exactly (Comparisons IsAtMost (Holds p x) (Holds p y)) v
    at_most_exactly e f = exactly_by (Comparisons IsAtMost (Holds p x) (Holds p y)) v e f (le_occurs x y C D s t) turn_lt

    both_true : (a b : Bool) → (a && b ≡ true) ↔ ((a ≡ true) × (b ≡ true))
    both_true true b = (λ e. (refl, e), λ e. e.1)
    both_true false b = (λ e. absurd (let z : ◌≡◌ {A = ℕ} 0 1 = cc in omega arith), λ e. e.0)

    either_true : (a b : Bool) → (a || b ≡ true) ↔ ((a ≡ true) ⊎ (b ≡ true))
    either_true true b = (λ e. inl refl, λ e. refl)
    either_true false b = (λ e. inr e, λ e. ⊎_elim (λ h. absurd (let z : ◌≡◌ {A = ℕ} 0 1 = cc in omega arith)) (λ h. h) e)

    same_occurs : ((le_z x.lower y.upper ≡ true) × (le_z y.lower x.upper ≡ true)) ↔ Comparisons Equal (Holds p x) (Holds p y) true
    same_occurs =
        let c = code_le C.lower_code D.upper_code s.1.0 t.1.1 in
        let d = code_le D.lower_code C.upper_code t.1.0 s.1.1 in (
          λ e. let h = e.0 in let k = e.1 in let z = some_same s t (c.0 (omega (arith, ints))) (d.0 (omega (arith, ints))) in (z.0, z.0, z.1, z.2, ≃_refl),
          λ o. ((le_occurs x y C D s t).1 (o.0, o.1, o.2, o.3, ≃-≼ o.4), turn_le.1 (o.0, o.1, o.2, o.3, ≃-≽ o.4)),
        )

    differ_occurs : ((lt_z x.lower y.upper ≡ true) ⊎ (lt_z y.lower x.upper ≡ true)) ↔ Comparisons Equal (Holds p x) (Holds p y) false
    differ_occurs = (
      ⊎_elim
          (λ e. let o = (lt_occurs x y C D s t).0 e in (o.0, o.1, o.2, o.3, ≺_not_≃ o.4))
          (λ e. let o = turn_lt.0 e in (o.0, o.1, o.2, o.3, λ h. ≺_not_≃ o.4 (≃_sym h))),
      λ o. ⊎_elim (λ h. inl ((lt_occurs x y C D s t).1 (o.0, o.1, o.2, o.3, h))) (λ h. inr (turn_lt.1 (o.0, o.1, o.2, o.3, h))) (≄-≺ o.4),
    )

    pub equal_exactly : allowed v true ≡ (le_z x.lower y.upper && le_z y.lower x.upper) → allowed v false ≡ (lt_z x.lower y.upper || lt_z y.lower x.upper) → Exactly (Comparisons Equal (Holds p x) (Holds p y)) v
    equal_exactly e f = exactly_by (Comparisons Equal (Holds p x) (Holds p y)) v e f
        (let b = both_true (le_z x.lower y.upper) (le_z y.lower x.upper) in (λ h. same_occurs.0 (b.0 h), λ o. b.1 (same_occurs.1 o)))
        (let b = either_true (lt_z x.lower y.upper) (lt_z y.lower x.upper) in (λ h. differ_occurs.0 (b.0 h), λ o. b.1 (differ_occurs.1 o)))
