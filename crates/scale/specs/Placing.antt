-- Scales of marks are ordered, and how they round. Assumes nothing.
--     by_place               a code is below the first, past the last, or has a number
--     Rising                 what makes marks a scale: a higher code counts more, and one code counts 0
--     ordered  told          the laws of a scale
--     floor_at  ceiling_at   the code of a count, from a code that tells which codes count no more, or no less
--     rounded_count          a number rounds as its count does
use Rattle.std.specs.Prelude.{◌≡◌, ℕ, Bool, true, false, cond, ◌↔◌, ℤ, pos, ◌+ℤ◌, ◌-ℤ◌, ◌*ℤ◌, ◌≤ℤ◌, ◌<ℤ◌, Some, ◌≢◌, int_lt, MatchBool, refl}
use Rattle.std.specs.Bool.{then_some}
use Rattle.std.proofs.Common.{sym, subst, arith}
use Rattle.std.specs.Int.{int_max, int_min}
use Rattle.std.proofs.lemmas.Int.{clamps, by_lt_z, ints}
use Rattle.number.specs.Number.{Number, ◌≃◌}
use Rattle.number.specs.Place.{Place, −∞, at, +∞, ◌⊑◌}
use Rattle.number.proofs.Ring.{≤ℤ_times}
use Rattle.number.proofs.Places.{−∞_least, +∞_greatest, at_⊑, ⊑_at}
use Rattle.scale.specs.declared.rounding.Rounding.{Rounding}
use Rattle.scale.specs.declared.rounding.Rounding.TheVariants.{Down, Up}
use Rattle.scale.specs.Scale.{Code, Floor, Ceiling, Zero, Ordered, Told}
use Rattle.scale.specs.Rounded.{Rounded}
use Rattle.scale.specs.Quotient.{Whole}
use Rattle.scale.specs.Marked.{Marks, counted, marked, Counted}
use Rattle.scale.specs.Wholes.{times_back, whole_down, whole_up}

-- ---- places that differ
same_number : {x y : Number} → at x ≡ at y → x ≡ y
same_number e = cc

low_no_number : {x : Number} → −∞ ≡ at x → ⊥
low_no_number e = let z : ◌≡◌ {A = ℕ} 0 1 = cc in omega arith

high_no_number : {x : Number} → +∞ ≡ at x → ⊥
high_no_number e = let z : ◌≡◌ {A = ℕ} 0 1 = cc in omega arith

low_not_high : −∞ ≡ +∞ → ⊥
low_not_high e = let z : ◌≡◌ {A = ℕ} 0 1 = cc in omega arith

-- ---- roundings to places that the codes cannot tell apart
module _ {p : ℤ → Place} {c : ℤ} {q r : Place} where
  pub floor_same : ((d : ℤ) → p d ⊑ q ↔ p d ⊑ r) → Floor p q c → Floor p r c
  floor_same e f = record { code = f.code; not_above = (e c).0 f.not_above; greatest = λ d k h. f.greatest d k ((e d).1 h) }

  pub ceiling_same : ((d : ℤ) → q ⊑ p d ↔ r ⊑ p d) → Ceiling p q c → Ceiling p r c
  ceiling_same e f = record { code = f.code; not_below = (e c).0 f.not_below; least = λ d k h. f.least d k ((e d).1 h) }

by_test : (t : Bool) (P : Place → Type 0) {p q : Place} → (t ≡ true → P p) → (t ≡ false → P q) → P (cond t p q)
by_test true P f g = f refl
by_test false P f g = g refl

module _ (m : Marks) where
  pub by_place : (c : ℤ) (P : Place → Type 0) → (c <ℤ m.first → P −∞) → (m.last <ℤ c → P +∞) → (m.first ≤ℤ c → c ≤ℤ m.last → P (at (counted m (m.count c)))) → P (marked m c)
  unfolding marked
  by_place c P low high mid =
      by_test (int_lt c m.first) P (λ e. low (omega (arith, ints)))
      (λ e. by_test (int_lt m.last c) P (λ f. high (omega (arith, ints))) (λ f. mid (omega (arith, ints)) (omega (arith, ints))))

  module _ (c : ℤ) where
    pub is_number : m.first ≤ℤ c → c ≤ℤ m.last → marked m c ≡ at (counted m (m.count c))
    is_number l h = by_place c (λ p. p ≡ at (counted m (m.count c))) (λ k. absurd (omega (arith, ints))) (λ k. absurd (omega (arith, ints))) (λ _ _. refl)

    pub is_low : m.first ≤ℤ m.last → c <ℤ m.first → marked m c ≡ −∞
    is_low o l = by_place c (λ p. p ≡ −∞) (λ _. refl) (λ k. absurd (omega (arith, ints))) (λ k _. absurd (omega (arith, ints)))

    pub is_high : m.first ≤ℤ m.last → m.last <ℤ c → marked m c ≡ +∞
    is_high o l = by_place c (λ p. p ≡ +∞) (λ k. absurd (omega (arith, ints))) (λ _. refl) (λ _ k. absurd (omega (arith, ints)))

    pub no_number : (m.first ≤ℤ c → c ≤ℤ m.last → ⊥) → (x : Number) → marked m c ≢ at x
    no_number n x = by_place c (λ p. p ≢ at x) (λ _. low_no_number) (λ _. high_no_number) (λ l h. absurd (n l h))

  -- how many parts a code counts, by a test whether it has a number
  pub counted_within : (c : ℤ) (b : Bool) → MatchBool b ((m.first ≤ℤ c) × (c ≤ℤ m.last)) (m.first ≤ℤ c → c ≤ℤ m.last → ⊥) → Counted m c (then_some b (m.count c))
  counted_within c true h = is_number c h.0 h.1
  counted_within c false h = no_number c h

  -- ---- the order of counts
  pub at_most_in : (a b : ℤ) → a ≤ℤ b → at (counted m a) ⊑ at (counted m b)
  at_most_in a b h = at_⊑ (record { not_above = ≤ℤ_times m.parts h })

  pub at_most_out : (a b : ℤ) → at (counted m a) ⊑ at (counted m b) → a ≤ℤ b
  at_most_out a b h = times_back a b m.parts m.positive (⊑_at h).not_above

  pub record Rising (origin : ℤ) : Type 0 where
    pub rises : (c d : ℤ) → m.first ≤ℤ c → d ≤ℤ m.last → c <ℤ d → m.count c <ℤ m.count d
    pub first_code : Code (m.first -ℤ pos 1)
    pub last_code : Code (m.last +ℤ pos 1)
    pub origin_first : m.first ≤ℤ origin
    pub origin_last : origin ≤ℤ m.last
    pub origin_count : m.count origin ≡ pos 0

  module _ (origin : ℤ) (R : Rising origin) where
    in_order : m.first ≤ℤ m.last
    in_order = let a = R.origin_first in let b = R.origin_last in omega (arith, ints)

    counts_rise : (c d : ℤ) → m.first ≤ℤ c → d ≤ℤ m.last → c ≤ℤ d → m.count c ≤ℤ m.count d
    counts_rise c d l h k = by_lt_z c d (λ s. let g = R.rises c d l h s in omega (arith, ints)) (λ s. let e : c ≡ d = omega (arith, ints) in subst (λ z. m.count c ≤ℤ m.count z) e (omega (arith, ints)))

    monotone : (c d : ℤ) → c ≤ℤ d → marked m c ⊑ marked m d
    monotone c d k =
        by_place c (λ p. p ⊑ marked m d) (λ _. −∞_least)
        (λ l. by_place d (λ q. +∞ ⊑ q) (λ h. absurd (let o = in_order in omega (arith, ints))) (λ _. +∞_greatest) (λ _ h. absurd (omega (arith, ints))))
        (λ l h. by_place d (λ q. at (counted m (m.count c)) ⊑ q) (λ s. absurd (omega (arith, ints))) (λ _. +∞_greatest) (λ _ s. at_most_in _ _ (counts_rise c d l s k)))

    -- the number of a code, and where it stands
    number_of : (c : ℤ) (x : Number) → marked m c ≡ at x → (x ≡ counted m (m.count c)) × (m.first ≤ℤ c) × (c ≤ℤ m.last)
    number_of c x = by_place c (λ p. p ≡ at x → (x ≡ counted m (m.count c)) × (m.first ≤ℤ c) × (c ≤ℤ m.last)) (λ _ e. absurd (low_no_number e)) (λ _ e. absurd (high_no_number e)) (λ l h e. (sym (same_number e), l, h))

    same_count : (a b : ℤ) → counted m a ≃ counted m b → a ≡ b
    same_count a b e =
        let c = e.cross in
        let h = times_back a b m.parts m.positive (omega (arith, ints)) in
        let k = times_back b a m.parts m.positive (omega (arith, ints)) in
        omega (arith, ints)

    apart : (c d : ℤ) (x y : Number) → marked m c ≡ at x → marked m d ≡ at y → x ≃ y → c ≡ d
    apart c d x y e f s =
        let u = number_of c x e in
        let v = number_of d y f in
        let k : m.count c ≡ m.count d = same_count _ _ (subst (λ z. z ≃ counted m (m.count d)) u.0 (subst (λ z. x ≃ z) v.0 s)) in
        by_lt_z c d (λ l. let g = R.rises c d u.1 v.2 l in absurd (omega (arith, ints)))
        (λ l. by_lt_z d c (λ l. let g = R.rises d c v.1 u.2 l in absurd (omega (arith, ints))) (λ h. omega (arith, ints)))

    low_is : marked m (m.first -ℤ pos 1) ≡ −∞
    low_is = is_low _ in_order (omega (arith, ints))

    high_is : marked m (m.last +ℤ pos 1) ≡ +∞
    high_is = is_high _ in_order (omega (arith, ints))

    zero_is : Code origin → Zero (marked m) origin
    zero_is f = record {
      code = f;
      number = counted m (m.count origin);
      place = is_number origin R.origin_first R.origin_last;
      nil = record { cross = let e = R.origin_count in omega (arith, ints) };
    }

    origin_code : Code origin
    origin_code = let a = R.origin_first in let b = R.origin_last in let c = R.first_code in let d = R.last_code in omega (arith, ints)

    pub ordered : Ordered (marked m)
    ordered = record {
      monotone = λ c d _ _. monotone c d;
      apart = λ c d x y _ _. apart c d x y;
      some_minus = (m.first -ℤ pos 1, R.first_code, low_is);
      some_zero = (origin, zero_is origin_code);
      some_plus = (m.last +ℤ pos 1, R.last_code, high_is);
    }

    pub told : (low high : ℤ) → low ≡ m.first -ℤ pos 1 → high ≡ m.last +ℤ pos 1 → Told (marked m) low origin high
    told low high e f = record {
      low_code = subst Code (sym e) R.first_code;
      low_place = subst (λ z. marked m z ≡ −∞) (sym e) low_is;
      low_greatest = λ c _. by_place c (λ p. p ≡ −∞ → c ≤ℤ low) (λ k _. omega (arith, ints)) (λ _ g. absurd (low_not_high (sym g))) (λ _ _ g. absurd (low_no_number (sym g)));
      origin_zero = zero_is origin_code;
      high_code = subst Code (sym f) R.last_code;
      high_place = subst (λ z. marked m z ≡ +∞) (sym f) high_is;
      high_least = λ c _. by_place c (λ p. p ≡ +∞ → high ≤ℤ c) (λ _ g. absurd (low_not_high g)) (λ k _. omega (arith, ints)) (λ _ _ g. absurd (high_no_number (sym g)));
    }

    -- ---- rounding
    module _ (n f : ℤ) where
      pub floor_at : ((d : ℤ) → m.first ≤ℤ d → d ≤ℤ m.last → (m.count d ≤ℤ n) ↔ (d ≤ℤ f)) → (c : ℤ) → c ≡ int_max (m.first -ℤ pos 1) (int_min f m.last) → Floor (marked m) (at (counted m n)) c
      floor_at e c g =
          let o = in_order in
          let u = R.first_code in
          let v = R.last_code in
          record {
            code = omega (arith, ints, clamps);
            not_above = by_place c (λ p. p ⊑ at (counted m n)) (λ _. −∞_least) (λ k. absurd (omega (arith, ints, clamps))) (λ l h. at_most_in _ _ ((e c l h).1 (omega (arith, ints, clamps))));
            greatest = λ d _. by_place d (λ p. p ⊑ at (counted m n) → d ≤ℤ c) (λ k _. omega (arith, ints, clamps)) (λ _ s. absurd s.le) (λ l h s. let k = (e d l h).0 (at_most_out _ _ s) in omega (arith, ints, clamps));
          }

      pub ceiling_at : ((d : ℤ) → m.first ≤ℤ d → d ≤ℤ m.last → (n ≤ℤ m.count d) ↔ (f ≤ℤ d)) → (c : ℤ) → c ≡ int_max m.first (int_min f (m.last +ℤ pos 1)) → Ceiling (marked m) (at (counted m n)) c
      ceiling_at e c g =
          let o = in_order in
          let u = R.first_code in
          let v = R.last_code in
          record {
            code = omega (arith, ints, clamps);
            not_below = by_place c (λ p. at (counted m n) ⊑ p) (λ k. absurd (omega (arith, ints, clamps))) (λ _. +∞_greatest) (λ l h. at_most_in _ _ ((e c l h).1 (omega (arith, ints, clamps))));
            least = λ d _. by_place d (λ p. at (counted m n) ⊑ p → c ≤ℤ d) (λ _ s. absurd s.le) (λ k _. omega (arith, ints, clamps)) (λ l h s. let k = (e d l h).0 (at_most_out _ _ s) in omega (arith, ints, clamps));
          }

    pub floor_none : (c : ℤ) → c ≡ m.first -ℤ pos 1 → Floor (marked m) −∞ c
    floor_none c e = record {
      code = subst Code (sym e) R.first_code;
      not_above = subst (λ z. marked m z ⊑ −∞) (sym e) (subst (λ p. p ⊑ −∞) (sym low_is) −∞_least);
      greatest = λ d _. by_place d (λ p. p ⊑ −∞ → d ≤ℤ c) (λ k _. omega (arith, ints)) (λ _ s. absurd s.le) (λ _ _ s. absurd s.le);
    }

    pub ceiling_none : (c : ℤ) → c ≡ m.last +ℤ pos 1 → Ceiling (marked m) +∞ c
    ceiling_none c e = record {
      code = subst Code (sym e) R.last_code;
      not_below = subst (λ z. +∞ ⊑ marked m z) (sym e) (subst (λ p. +∞ ⊑ p) (sym high_is) +∞_greatest);
      least = λ d _. by_place d (λ p. +∞ ⊑ p → c ≤ℤ d) (λ _ s. absurd s.le) (λ k _. omega (arith, ints)) (λ _ _ s. absurd s.le);
    }

  -- ---- a number rounds as its count does
  module _ (x : Number) (n : ℤ) where
    count_down : Whole Down (x.top *ℤ pos m.parts) x.bottom n → (d : ℤ) → marked m d ⊑ at (counted m n) ↔ marked m d ⊑ at x
    count_down w d = by_place d (λ p. p ⊑ at (counted m n) ↔ p ⊑ at x) (λ _. (λ _. −∞_least, λ _. −∞_least)) (λ _. (λ s. absurd s.le, λ s. absurd s.le))
        (λ _ _. let e = whole_down _ x.bottom n x.positive w (m.count d) in (λ s. at_⊑ (record { not_above = e.1 (at_most_out _ _ s) }), λ s. at_most_in _ _ (e.0 (⊑_at s).not_above)))

    count_up : Whole Up (x.top *ℤ pos m.parts) x.bottom n → (d : ℤ) → at (counted m n) ⊑ marked m d ↔ at x ⊑ marked m d
    count_up w d = by_place d (λ p. at (counted m n) ⊑ p ↔ at x ⊑ p) (λ _. (λ s. absurd s.le, λ s. absurd s.le)) (λ _. (λ _. +∞_greatest, λ _. +∞_greatest))
        (λ _ _. let e = whole_up _ x.bottom n x.positive w (m.count d) in (λ s. at_⊑ (record { not_above = e.1 (at_most_out _ _ s) }), λ s. at_most_in _ _ (e.0 (⊑_at s).not_above)))

  -- a count beyond all marks may be brought nearer
  module _ (n low high : ℤ) (far : (d : ℤ) → m.first ≤ℤ d → d ≤ℤ m.last → (low <ℤ m.count d) × (m.count d <ℤ high)) (order : low ≤ℤ high) where
    clamped_down : (d : ℤ) → marked m d ⊑ at (counted m (int_max low (int_min n high))) ↔ marked m d ⊑ at (counted m n)
    clamped_down d = by_place d (λ p. p ⊑ at (counted m (int_max low (int_min n high))) ↔ p ⊑ at (counted m n)) (λ _. (λ _. −∞_least, λ _. −∞_least)) (λ _. (λ s. absurd s.le, λ s. absurd s.le))
        (λ l h. let b = far d l h in (λ s. let k = at_most_out _ _ s in at_most_in _ _ (omega (arith, ints, clamps)), λ s. let k = at_most_out _ _ s in at_most_in _ _ (omega (arith, ints, clamps))))

    clamped_up : (d : ℤ) → at (counted m (int_max low (int_min n high))) ⊑ marked m d ↔ at (counted m n) ⊑ marked m d
    clamped_up d = by_place d (λ p. at (counted m (int_max low (int_min n high))) ⊑ p ↔ at (counted m n) ⊑ p) (λ _. (λ s. absurd s.le, λ s. absurd s.le)) (λ _. (λ _. +∞_greatest, λ _. +∞_greatest))
        (λ l h. let b = far d l h in (λ s. let k = at_most_out _ _ s in at_most_in _ _ (omega (arith, ints, clamps)), λ s. let k = at_most_out _ _ s in at_most_in _ _ (omega (arith, ints, clamps))))

    pub rounded_clamped : (r : Rounding) (c : ℤ) → Rounded (marked m) r (Some (counted m (int_max low (int_min n high)))) c → Rounded (marked m) r (Some (counted m n)) c
    rounded_clamped Down c f = floor_same clamped_down f
    rounded_clamped Up c f = ceiling_same clamped_up f

  pub rounded_count : (r : Rounding) (x : Number) (n c : ℤ) → Whole r (x.top *ℤ pos m.parts) x.bottom n → Rounded (marked m) r (Some (counted m n)) c → Rounded (marked m) r (Some x) c
  rounded_count Down x n c w f = floor_same (count_down x n w) f
  rounded_count Up x n c w f = ceiling_same (count_up x n w) f
