-- Codes and places on an ordered scale, ranges that hold a number, and hulls. Assumes nothing.
use Rattle.std.proofs.Common.{◌≡◌, ℤ, ◌≤ℤ◌, ◌<ℤ◌, sym, refl, ◌∙◌, subst, arith}
use borrow.Author.Differences.{ints}
use Rattle.std.specs.Int.{int_max, int_min}
use Rattle.std.proofs.lemmas.Int.{clamps, by_lt_z}
use Rattle.number.specs.Number.{Number}
use Rattle.number.specs.Place.{Place, −∞, at, +∞, ◌⊑◌, Inf, Sup, Inhabited}
use Rattle.number.proofs.Fractions.{≼_antisym}
use Rattle.number.proofs.Places.{−∞_least, +∞_greatest, ⊑_at, ⊑_refl, ⊑_trans, ⊑-−∞, +∞-⊑}
use Rattle.number.proofs.Ends.{range_inf, range_sup}
use Rattle.number.proofs.Ranges.{range_inhabited}
use Rattle.scale.specs.Scale.{Code, Floor, Ceiling, Ordered, Told}
use Rattle.range.specs.declared.range.Range.{Range}
use Rattle.range.specs.Held.{Holds, nothing}
use Rattle.range.specs.Hull.{Lowest, Highest, Hull, blank, ends}

-- the ends of a range are codes
pub record Codes (r : Range) : Type 0 where
  pub lower_code : Code r.lower
  pub upper_code : Code r.upper

≤ℤ_both : {a b : ℤ} → a ≤ℤ b → b ≤ℤ a → a ≡ b
≤ℤ_both {a} {b} h k = omega (arith, ints)

-- ---- lower and upper ends by the greatest lower bound and the least upper bound
module _ {p : ℤ → Place} {S : Number → Type 0} {i : Place} {c : ℤ} where
  pub lowest_by : Inf S i → Floor p i c → Lowest p S c
  lowest_by I f = record { code = f.code; bound = (I.inf (p c)).1 f.not_above; greatest = λ d k h. f.greatest d k ((I.inf (p d)).0 h) }

  pub highest_by : Sup S i → Ceiling p i c → Highest p S c
  highest_by I f = record { code = f.code; bound = (I.sup (p c)).1 f.not_below; least = λ d k h. f.least d k ((I.sup (p d)).0 h) }

-- ---- hulls of sets with the same members
module _ {p : ℤ → Place} {S R : Number → Type 0} (f : (x : Number) → S x → R x) (g : (x : Number) → R x → S x) where
  pub hull_same : {r : Range} → Hull p S r → Hull p R r
  hull_same (blank n e) = blank (λ x h. n x (g x h)) e
  hull_same (ends x h l u) = ends x (f x h)
      (record { code = l.code; bound = λ y k. l.bound y (g y k); greatest = λ d k b. l.greatest d k (λ y s. b y (f y s)) })
      (record { code = u.code; bound = λ y k. u.bound y (g y k); least = λ d k b. u.least d k (λ y s. b y (f y s)) })

-- ---- the hull of what a range holds, by the ends of the range
module _ {p : ℤ → Place} {q : Range} {a b : ℤ} where
  pub by_ends : q.lower ≡ a → q.upper ≡ b → {r : Range} → Hull p (Holds p q) r → Hull p (Holds p (record { lower = a; upper = b })) r
  by_ends e f {r} h = let g : ◌≡◌ {A = Range} q (record { lower = a; upper = b }) = λ i. record { lower = e i; upper = f i } in subst (λ s. Hull p (Holds p s) r) g h

-- ---- a hull is alone
module _ {p : ℤ → Place} {S : Number → Type 0} where
  pub lowest_alone : {c d : ℤ} → Lowest p S c → Lowest p S d → c ≡ d
  lowest_alone l k = ≤ℤ_both (k.greatest _ l.code l.bound) (l.greatest _ k.code k.bound)

  pub highest_alone : {c d : ℤ} → Highest p S c → Highest p S d → c ≡ d
  highest_alone l k = ≤ℤ_both (l.least _ k.code k.bound) (k.least _ l.code l.bound)

  pub hull_alone : {q r : Range} → Hull p S q → Hull p S r → q ≡ r
  hull_alone (blank n e) (blank m f) = e ∙ sym f
  hull_alone (blank n e) (ends x h l u) = absurd (n x h)
  hull_alone (ends x h l u) (blank n e) = absurd (n x h)
  hull_alone (ends x h l u) (ends y k m v) = λ i. record { lower = lowest_alone l m i; upper = highest_alone u v i }

module _ {p : ℤ → Place} (O : Ordered p) where
  -- a code whose place is a number is the only one with that place
  pub code_alone : {c d : ℤ} {x : Number} → Code c → Code d → p c ≡ at x → p c ⊑ p d → p d ⊑ p c → c ≡ d
  code_alone {c} {d} {x} f g e h k = by (p d) refl
    where
      by : (q : Place) → p d ≡ q → c ≡ d
      by −∞ s = absurd (subst (λ r. r ⊑ −∞) e (subst (λ r. p c ⊑ r) s h)).le
      by (at y) s = O.apart c d x y f g e s (≼_antisym (⊑_at (subst (λ r. r ⊑ at y) e (subst (λ r. p c ⊑ r) s h))) (⊑_at (subst (λ r. at y ⊑ r) e (subst (λ r. r ⊑ p c) s k))))
      by +∞ s = absurd (subst (λ r. +∞ ⊑ r) e (subst (λ r. r ⊑ p c) s k)).le

  -- the ends of a range that holds a number are in order
  module _ (r : Range) (C : Codes r) where
    pub in_order : (x : Number) → Holds p r x → r.lower ≤ℤ r.upper
    in_order x h = by_lt_z r.upper r.lower (λ l. absurd (apart l)) (λ l. l)
      where
        back : r.upper <ℤ r.lower → p r.upper ⊑ p r.lower
        back l = O.monotone r.upper r.lower C.upper_code C.lower_code (omega (arith, ints))

        by : (q : Place) → p r.lower ≡ q → r.upper <ℤ r.lower → ⊥
        by −∞ e l = (subst (λ q. at x ⊑ q) e (⊑_trans h.1 (back l))).le
        by (at y) e l = let s = code_alone C.lower_code C.upper_code e (⊑_trans h.0 h.1) (back l) in omega (arith, ints)
        by +∞ e l = (subst (λ q. q ⊑ at x) e h.0).le

        apart : r.upper <ℤ r.lower → ⊥
        apart l = by (p r.lower) refl l

  -- the canonical blank holds nothing
  nothing_codes : Codes nothing
  nothing_codes = record { lower_code = omega (arith, ints); upper_code = omega (arith, ints) }

  pub nothing_holds : (x : Number) → Holds p nothing x → ⊥
  nothing_holds x h = let o = in_order nothing nothing_codes x h in omega (arith, ints)

  module _ {low origin high : ℤ} (T : Told p low origin high) where
    -- where a code stands, by its place
    pub below_high : {c : ℤ} {x : Number} → Code c → p c ⊑ at x → c <ℤ high
    below_high {c} {x} f h = by_lt_z c high (λ l. l) (λ l. absurd (⊑_trans (subst (λ q. q ⊑ p c) T.high_place (O.monotone high c T.high_code f l)) h).le)

    pub above_low : {c : ℤ} {x : Number} → Code c → at x ⊑ p c → low <ℤ c
    above_low {c} {x} f h = by_lt_z low c (λ l. l) (λ l. absurd (⊑_trans h (subst (λ q. p c ⊑ q) T.low_place (O.monotone c low f T.low_code l))).le)

    pub not_high : {c : ℤ} → Code c → c <ℤ high → ¬ (+∞ ⊑ p c)
    not_high {c} f l h = let k = T.high_least c f (+∞-⊑ h) in omega (arith, ints)

    pub not_low : {c : ℤ} → Code c → low <ℤ c → ¬ (p c ⊑ −∞)
    not_low {c} f l h = let k = T.low_greatest c f (⊑-−∞ h) in omega (arith, ints)

    -- ---- which ranges hold a number
    module _ (r : Range) (C : Codes r) where
      pub held_ends : (x : Number) → Holds p r x → (r.lower <ℤ high) × (low <ℤ r.upper) × (r.lower ≤ℤ r.upper)
      held_ends x h = (below_high C.lower_code h.0, above_low C.upper_code h.1, in_order r C x h)

      pub holding : r.lower <ℤ high → low <ℤ r.upper → r.lower ≤ℤ r.upper → Inhabited (Holds p r)
      holding l u o = (range_inhabited (p r.lower) (p r.upper)).1 (O.monotone r.lower r.upper C.lower_code C.upper_code o, not_high C.lower_code l, not_low C.upper_code u)

    -- ---- roundings of the place of a code
    pub floor_place : {c : ℤ} → Code c → c <ℤ high → Floor p (p c) (int_max low c)
    floor_place {c} f l = by (p c) refl
      where
        by : (q : Place) → p c ≡ q → Floor p (p c) (int_max low c)
        by −∞ e =
            let k = T.low_greatest c f e in
            let s : low ≡ int_max low c = omega (arith, ints, clamps) in
            subst (λ d. Floor p (p c) d) s (record {
              code = T.low_code;
              not_above = subst (λ q. q ⊑ p c) (sym T.low_place) −∞_least;
              greatest = λ d g h. T.low_greatest d g (⊑-−∞ (subst (λ q. p d ⊑ q) e h));
            })
        by (at x) e =
            let k = above_low f (subst (λ q. at x ⊑ q) (sym e) ⊑_refl) in
            let s : c ≡ int_max low c = omega (arith, ints, clamps) in
            subst (λ d. Floor p (p c) d) s (record {
              code = f;
              not_above = ⊑_refl;
              greatest = λ d g h. by_lt_z c d (λ m. let a = code_alone f g e (O.monotone c d f g (omega (arith, ints))) h in omega (arith, ints)) (λ m. m);
            })
        by +∞ e = absurd (not_high f l (subst (λ q. +∞ ⊑ q) (sym e) ⊑_refl))

    pub ceiling_place : {c : ℤ} → Code c → low <ℤ c → Ceiling p (p c) (int_min high c)
    ceiling_place {c} f l = by (p c) refl
      where
        by : (q : Place) → p c ≡ q → Ceiling p (p c) (int_min high c)
        by +∞ e =
            let k = T.high_least c f e in
            let s : high ≡ int_min high c = omega (arith, ints, clamps) in
            subst (λ d. Ceiling p (p c) d) s (record {
              code = T.high_code;
              not_below = subst (λ q. p c ⊑ q) (sym T.high_place) +∞_greatest;
              least = λ d g h. T.high_least d g (+∞-⊑ (subst (λ q. q ⊑ p d) e h));
            })
        by (at x) e =
            let k = below_high f (subst (λ q. q ⊑ at x) (sym e) ⊑_refl) in
            let s : c ≡ int_min high c = omega (arith, ints, clamps) in
            subst (λ d. Ceiling p (p c) d) s (record {
              code = f;
              not_below = ⊑_refl;
              least = λ d g h. by_lt_z d c (λ m. let a = code_alone f g e h (O.monotone d c g f (omega (arith, ints))) in omega (arith, ints)) (λ m. m);
            })
        by −∞ e = absurd (not_low f l (subst (λ q. q ⊑ −∞) (sym e) ⊑_refl))

    -- the hull of what a range holds
    pub copied_hull : (r : Range) → Codes r → (x : Number) → Holds p r x → (a b : ℤ) → a ≡ int_max low r.lower → b ≡ int_min high r.upper → Hull p (Holds p r) (record { lower = a; upper = b })
    copied_hull r C x h a b e f = ends x h
        (lowest_by (range_inf (x, h)) (subst (λ c. Floor p (p r.lower) c) (sym e) (floor_place C.lower_code (below_high C.lower_code h.0))))
        (highest_by (range_sup (x, h)) (subst (λ c. Ceiling p (p r.upper) c) (sym f) (ceiling_place C.upper_code (above_low C.upper_code h.1))))

    -- the hull of what a hull holds is itself
    pub hull_again : {S : Number → Type 0} {r : Range} → Hull p S r → Hull p (Holds p r) r
    hull_again {S} {r} (blank n e) = blank (λ x h. nothing_holds x (subst (λ s. Holds p s x) e h)) e
    hull_again {S} {r} (ends x h l u) = ends x (l.bound x h, u.bound x h)
        (record { code = l.code; bound = λ y k. k.0; greatest = λ d g b. l.greatest d g (λ y s. b y (l.bound y s, u.bound y s)) })
        (record { code = u.code; bound = λ y k. k.1; least = λ d g b. u.least d g (λ y s. b y (l.bound y s, u.bound y s)) })
