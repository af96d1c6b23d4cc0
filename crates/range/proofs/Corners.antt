-- Corners: the products and quotients of two ends, rounded. Assumes nothing.
use Rattle.std.proofs.Common.{◌≡◌, ℕ, zero, suc, ◌<◌, ◌⊎◌, ◌↔◌, ℤ, pos, negsuc, neg_ℤ, ◌≤ℤ◌, ◌<ℤ◌, Some, sym, refl, ap, ◌∙◌, subst, inl, inr, ⊎_elim, arith}
use borrow.Author.Differences.{ints}
use Rattle.std.proofs.lemmas.Int.{by_lt_z}
use Rattle.number.specs.Number.{Number, fraction, nought, reciprocal, over}
use Rattle.number.specs.Place.{Place, −∞, at, +∞, ◌⊑◌, opp}
use Rattle.number.specs.Ends.{far, far⁻, ◌⊙◌, recip_of}
use Rattle.number.proofs.Fractions.{⟨◌⟩, ≼_in, ≼_out, ≃-≼, ≃-≽, ≃_trans, times_comm, times_nought}
use Rattle.number.proofs.Places.{−∞_least, +∞_greatest, at_⊑, ⊑_refl, ⊑_trans}
use Rattle.scale.specs.declared.rounding.Rounding.{Rounding}
use Rattle.scale.specs.declared.rounding.Rounding.TheVariants.{Down, Up}
use Rattle.scale.specs.Scale.{Code, Ordered, Told}
use Rattle.scale.specs.Rounded.{Rounded, divided, quotient_of, Quotient}
use Rattle.range.specs.declared.corner.Sign.{Sign}
use Rattle.range.specs.declared.corner.Sign.TheVariants.{Negative, Zero, Positive}
use Rattle.range.specs.declared.corner.Side.{Side}
use Rattle.range.specs.declared.corner.Side.TheVariants.{Below, Above}
use Rattle.range.specs.Corner.{Corner, sign_of_top, sign_of_place, sign_of_side, sign_product, utmost, Facing, recip}
use Rattle.range.proofs.Codes.{code_alone, above_low, below_high}

-- ---- roundings of a place
module _ (p : ℤ → Place) (c : ℤ) where
  -- two places, neither above the other, are rounded alike
  corner_same : (r : Rounding) {q s : Place} → q ⊑ s → s ⊑ q → Corner p r q c → Corner p r s c
  corner_same Down h k f = record { code = f.code; not_above = ⊑_trans f.not_above h; greatest = λ d g l. f.greatest d g (⊑_trans l k) }
  corner_same Up h k f = record { code = f.code; not_below = ⊑_trans k f.not_below; least = λ d g l. f.least d g (⊑_trans h l) }

  corner_number : (r : Rounding) (x : Number) → Rounded p r (Some x) c → Corner p r (at x) c
  corner_number Down x f = f
  corner_number Up x f = f

-- ---- the sign of a place
data Signed (q : Place) : Sign → Type 0 where
  negative : ¬ (at nought ⊑ q) → q ⊑ at nought → Signed q Negative
  nil : q ⊑ at nought → at nought ⊑ q → Signed q Zero
  positive : ¬ (q ⊑ at nought) → at nought ⊑ q → Signed q Positive

signed : (q : Place) → Signed q (sign_of_place q)
signed −∞ = negative (λ h. h.le) −∞_least
signed (at x) = by x.top x.bottom x.positive
  where
    by : (t : ℤ) (b : ℕ) (h : 0 < b) → Signed (at (fraction t b h)) (sign_of_top t)
    by (pos zero) b h = nil (at_⊑ (≼_in ⟨ fraction (pos 0) b h ⟩ ⟨ nought ⟩ (omega arith))) (at_⊑ (≼_in ⟨ nought ⟩ ⟨ fraction (pos 0) b h ⟩ (omega arith)))
    by (pos (suc n)) b h = positive (λ k. omega (arith, ≼_out ⟨ fraction (pos (suc n)) b h ⟩ ⟨ nought ⟩ k.le)) (at_⊑ (≼_in ⟨ nought ⟩ ⟨ fraction (pos (suc n)) b h ⟩ (omega arith)))
    by (negsuc n) b h = negative (λ k. omega (arith, ≼_out ⟨ nought ⟩ ⟨ fraction (negsuc n) b h ⟩ k.le)) (at_⊑ (≼_in ⟨ fraction (negsuc n) b h ⟩ ⟨ nought ⟩ (omega arith)))
signed +∞ = positive (λ h. h.le) +∞_greatest

-- the sign is that of the side
abbrev On : Side → Sign → Type 0
On Below Negative = Unit {0}
On Below Zero = ⊥
On Below Positive = ⊥
On Above Negative = ⊥
On Above Zero = ⊥
On Above Positive = Unit {0}

facing_on : (s : Side) (q : Place) → Facing s q ↔ On s (sign_of_place q)
facing_on s q = by s (sign_of_place q) (signed q)
  where
    by : (s : Side) (t : Sign) → Signed q t → Facing s q ↔ On s t
    by Below Negative (negative h k) = (λ n. tt, λ o. h)
    by Below Zero (nil h k) = (λ n. n k, λ o. absurd o)
    by Below Positive (positive h k) = (λ n. n k, λ o. absurd o)
    by Above Negative (negative h k) = (λ n. n k, λ o. absurd o)
    by Above Zero (nil h k) = (λ n. n h, λ o. absurd o)
    by Above Positive (positive h k) = (λ n. tt, λ o. h)

-- ---- where the sign decides: a product with an infinity
far_sign : (t : ℤ) → let s = sign_of_top t in
    (far t ≡ utmost (sign_product s Positive)) × (far t ≡ utmost (sign_product Positive s)) × (far⁻ t ≡ utmost (sign_product s Negative)) × (far⁻ t ≡ utmost (sign_product Negative s))
far_sign (pos zero) = (refl, refl, refl, refl)
far_sign (pos (suc n)) = (refl, refl, refl, refl)
far_sign (negsuc n) = (refl, refl, refl, refl)

abbrev pub Infinite : Place → Type 0
Infinite q = (x : Number) → q ≡ at x → ⊥

by_signs : (u v : Place) → Infinite u ⊎ Infinite v → u ⊙ v ≡ utmost (sign_product (sign_of_place u) (sign_of_place v))
by_signs −∞ −∞ n = refl
by_signs −∞ (at y) n = (far_sign y.top).3
by_signs −∞ +∞ n = refl
by_signs (at x) −∞ n = (far_sign x.top).2
by_signs (at x) (at y) n = absurd (⊎_elim (λ h. h x refl) (λ h. h y refl) n)
by_signs (at x) +∞ n = (far_sign x.top).0
by_signs +∞ −∞ n = refl
by_signs +∞ (at y) n = (far_sign y.top).1
by_signs +∞ +∞ n = refl

by_nought : (u : Place) → (at nought ⊑ u ⊙ at nought) × (u ⊙ at nought ⊑ at nought)
by_nought −∞ = (⊑_refl, ⊑_refl)
by_nought (at x) = let e = ≃_trans (times_comm x nought) (times_nought x) in (at_⊑ (≃-≽ e), at_⊑ (≃-≼ e))
by_nought +∞ = (⊑_refl, ⊑_refl)

-- ---- one over a divisor's end, among the numbers of a side
-- an infinite end on that side
recip_infinite : (s : Side) (q : Place) → On s (sign_of_place q) → Infinite q → recip s q ≡ at nought
recip_infinite Below −∞ o n = refl
recip_infinite Below (at y) o n = absurd (n y refl)
recip_infinite Below +∞ o n = absurd o
recip_infinite Above −∞ o n = absurd o
recip_infinite Above (at y) o n = absurd (n y refl)
recip_infinite Above +∞ o n = refl

-- an end that is not on that side
recip_beyond : (s : Side) (q : Place) → ¬ (On s (sign_of_place q)) → recip s q ≡ utmost (sign_of_side s)
recip_beyond Below −∞ n = absurd (n tt)
recip_beyond Below (at y) n = by y.top n
  where
    by : (t : ℤ) → ¬ (On Below (sign_of_top t)) → opp (recip_of (neg_ℤ t) y.bottom) ≡ −∞
    by (pos zero) n = refl
    by (pos (suc k)) n = refl
    by (negsuc k) n = absurd (n tt)
recip_beyond Below +∞ n = refl
recip_beyond Above −∞ n = refl
recip_beyond Above (at y) n = by y.top n
  where
    by : (t : ℤ) → ¬ (On Above (sign_of_top t)) → recip_of t y.bottom ≡ +∞
    by (pos zero) n = refl
    by (pos (suc k)) n = absurd (n tt)
    by (negsuc k) n = refl
recip_beyond Above +∞ n = absurd (n tt)

-- a number on that side
record Divisor (s : Side) (y : Number) : Type 0 where
  recip_is : recip s (at y) ≡ at (reciprocal y)
  keeps_sign : sign_of_top (reciprocal y).top ≡ sign_of_side s
  divided_is : (x : Number) → divided x y y.top ≡ Some (over x y)

divisor : (s : Side) (y : Number) → On s (sign_of_place (at y)) → Divisor s y
divisor s y = by s y.top y.bottom y.positive
  where
    by : (s : Side) (t : ℤ) (b : ℕ) (h : 0 < b) → On s (sign_of_top t) → Divisor s (fraction t b h)
    by s t zero h o = absurd (omega arith)
    by Below (pos zero) (suc b) h o = absurd o
    by Below (pos (suc n)) (suc b) h o = absurd o
    by Below (negsuc n) (suc b) h o = record { recip_is = refl; keeps_sign = refl; divided_is = λ x. refl }
    by Above (pos zero) (suc b) h o = absurd o
    by Above (pos (suc n)) (suc b) h o = record { recip_is = refl; keeps_sign = refl; divided_is = λ x. refl }
    by Above (negsuc n) (suc b) h o = absurd o

-- ---- the corners
module _ (p : ℤ → Place) (r : Rounding) (a b c : ℤ) where
  pub product_signs : Infinite (p a) ⊎ Infinite (p b) → Corner p r (utmost (sign_product (sign_of_place (p a)) (sign_of_place (p b)))) c → Corner p r (p a ⊙ p b) c
  product_signs n h = subst (λ q. Corner p r q c) (sym (by_signs (p a) (p b) n)) h

  module _ (s : Side) where
    pub quotient_numbers : {x y : Number} → p a ≡ at x → p b ≡ at y → Facing s (p b) → Quotient p r a b c → Corner p r (p a ⊙ recip s (p b)) c
    quotient_numbers {x} {y} e f k h =
        let D = divisor s y ((facing_on s (at y)).0 (subst (λ q. Facing s q) f k)) in
        subst (λ q. Corner p r q c) (sym ((λ i. e i ⊙ recip s (f i)) ∙ (λ i. at x ⊙ D.recip_is i)))
        (corner_number p c r (over x y) (subst (λ o. Rounded p r o c) ((λ i. quotient_of (e i) (f i)) ∙ D.divided_is x) h))

    pub quotient_nought : Facing s (p b) → Infinite (p b) → Corner p r (at nought) c → Corner p r (p a ⊙ recip s (p b)) c
    quotient_nought k n h =
        subst (λ q. Corner p r (p a ⊙ q) c) (sym (recip_infinite s (p b) ((facing_on s (p b)).0 k) n)) (corner_same p c r (by_nought (p a)).0 (by_nought (p a)).1 h)

    by_side : sign_of_place (recip s (p b)) ≡ sign_of_side s → Infinite (p a) ⊎ Infinite (recip s (p b)) → Corner p r (utmost (sign_product (sign_of_place (p a)) (sign_of_side s))) c → Corner p r (p a ⊙ recip s (p b)) c
    by_side e n h = subst (λ q. Corner p r q c) (sym (by_signs (p a) (recip s (p b)) n ∙ (λ i. utmost (sign_product (sign_of_place (p a)) (e i))))) h

    -- an infinity over a number, and anything over divisors that come near 0
    pub quotient_signs : (¬ (Facing s (p b)) ⊎ (Facing s (p b) × ((y : Number) × (p b ≡ at y)) × Infinite (p a))) → Corner p r (utmost (sign_product (sign_of_place (p a)) (sign_of_side s))) c → Corner p r (p a ⊙ recip s (p b)) c
    quotient_signs = ⊎_elim
        (λ n. let e = recip_beyond s (p b) (λ o. n ((facing_on s (p b)).1 o)) in by_side (ap sign_of_place e ∙ utmost_sign s) (inr (λ x f. utmost_infinite s x (sym e ∙ f))))
        (λ k.
        let D = divisor s k.1.0 ((facing_on s (at k.1.0)).0 (subst (λ q. Facing s q) k.1.1 k.0)) in
        by_side ((λ i. sign_of_place (recip s (k.1.1 i))) ∙ ap sign_of_place D.recip_is ∙ D.keeps_sign) (inl k.2))
      where
        utmost_sign : (s : Side) → sign_of_place (utmost (sign_of_side s)) ≡ sign_of_side s
        utmost_sign Below = refl
        utmost_sign Above = refl

        utmost_infinite : (s : Side) → Infinite (utmost (sign_of_side s))
        utmost_infinite Below x e = let z : ◌≡◌ {A = ℕ} 0 1 = cc in omega arith
        utmost_infinite Above x e = let z : ◌≡◌ {A = ℕ} 0 1 = cc in omega arith

-- ---- codes and 0
module _ {p : ℤ → Place} (O : Ordered p) {low origin high : ℤ} (T : Told p low origin high) where
  zero_low : p origin ⊑ at nought
  zero_low = let z = T.origin_zero in subst (λ q. q ⊑ at nought) (sym z.place) (at_⊑ (≃-≼ z.nil))

  zero_high : at nought ⊑ p origin
  zero_high = let z = T.origin_zero in subst (λ q. at nought ⊑ q) (sym z.place) (at_⊑ (≃-≽ z.nil))

  module _ {c : ℤ} (f : Code c) where
    pub facing_below : c <ℤ origin → Facing Below (p c)
    facing_below l h =
        let z = T.origin_zero in
        let e = code_alone O z.code f z.place (⊑_trans zero_low h) (O.monotone c origin f z.code (omega (arith, ints))) in
        omega (arith, ints)

    pub facing_above : origin <ℤ c → Facing Above (p c)
    facing_above l h =
        let z = T.origin_zero in
        let e = code_alone O z.code f z.place (O.monotone origin c z.code f (omega (arith, ints))) (⊑_trans h zero_high) in
        omega (arith, ints)

    pub from_zero : origin ≤ℤ c → at nought ⊑ p c
    from_zero l = ⊑_trans zero_high (O.monotone origin c T.origin_zero.code f l)

    pub to_zero : c ≤ℤ origin → p c ⊑ at nought
    to_zero l = ⊑_trans (O.monotone c origin f T.origin_zero.code l) zero_low

  -- ---- infinities and 0
  pub end_zero : (r : Rounding) → Corner p r (at nought) origin
  end_zero Down = record { code = T.origin_zero.code; not_above = zero_low; greatest = λ d g h. by_lt_z origin d (λ l. absurd (facing_above g l h)) (λ l. l) }
  end_zero Up = record { code = T.origin_zero.code; not_below = zero_high; least = λ d g h. by_lt_z d origin (λ l. absurd (facing_below g l h)) (λ l. l) }

  -- ---- which codes have numbers
  module _ {c : ℤ} (f : Code c) where
    pub number_of : low <ℤ c → c <ℤ high → (x : Number) × (p c ≡ at x)
    number_of l h = by (p c) refl
      where
        by : (q : Place) → p c ≡ q → (x : Number) × (p c ≡ at x)
        by −∞ e = let k = T.low_greatest c f e in absurd (omega (arith, ints))
        by (at x) e = (x, e)
        by +∞ e = let k = T.high_least c f e in absurd (omega (arith, ints))

    pub number_within : {x : Number} → p c ≡ at x → (low <ℤ c) × (c <ℤ high)
    number_within {x} e = (above_low O T f (subst (λ q. at x ⊑ q) (sym e) ⊑_refl), below_high O T f (subst (λ q. q ⊑ at x) (sym e) ⊑_refl))
