-- Numbers: the order, sameness, and the laws of the operations. Assumes nothing.
-- A statement on sums, products and negations of numbers is proved by `omega arith`, over the naturals up, down (the parts of a top) and bottom of the unknowns:
-- write the two numbers as expressions, `≼_in (⟨ x ⟩ ⊞ ⟨ y ⟩) ⟨ z ⟩ (omega (arith, ..))`, and take hypotheses apart by ≼_out,
-- each times the factor that the goal wants (mul-le-mul_right k).
use Rattle.std.proofs.Common.{◌≡◌, ℕ, zero, suc, ◌+◌, ◌-◌, ◌*◌, ◌<◌, ◌≤◌, ◌⊎◌, ℤ, pos, negsuc, ◌+ℤ◌, ◌*ℤ◌, neg_ℤ, ◌≤ℤ◌, ◌<ℤ◌, sym, refl, ap, ◌∙◌, subst, subst₂, inl, inr, ⊎_elim, mul-le-mul_right, mul-pos, le_of_mul-le-mul_right, arith}
use native.Mathlib.Decide.{dec_le}
use lib.IntN.{neg_ℤ-neg_ℤ}
use borrow.Author.Differences.{up, down, same_in}
use Rattle.number.specs.Number.{Number, fraction, ◌≼◌, ◌≺◌, ◌≃◌, whole, nought, plus, neg, minus, times, reciprocal_of, reciprocal, over}
use Rattle.number.proofs.Ring.{Ex, #◌, ◌⊕◌, ◌⊗◌, ◌⊛◌, ⊖◌, val, hi, lo, ring, at_most, below, ring_out, at_most_out, below_out}

-- ---- statements on numbers, as statements on naturals
infixl 60 ◌⊞◌
infixl 70 ◌⊠◌
infixl 80 ⊟◌
pub data Nx : Type 0 where
  ⟨◌⟩ : Number → Nx
  ◌⊞◌ : Nx → Nx → Nx
  ◌⊠◌ : Nx → Nx → Nx
  ⊟◌ : Nx → Nx

abbrev pub value : Nx → Number
value ⟨ x ⟩ = x
value (e ⊞ f) = plus (value e) (value f)
value (e ⊠ f) = times (value e) (value f)
value (⊟ e) = neg (value e)

-- the lower part, and the upper part as an expression of integers
abbrev pub low : Nx → ℕ
low ⟨ x ⟩ = x.bottom
low (e ⊞ f) = low e * low f
low (e ⊠ f) = low e * low f
low (⊟ e) = low e

abbrev pub high : Nx → Ex
high ⟨ x ⟩ = # x.top
high (e ⊞ f) = high e ⊛ low f ⊕ high f ⊛ low e
high (e ⊠ f) = high e ⊗ high f
high (⊟ e) = ⊖ (high e)

low_is : (e : Nx) → low e ≡ (value e).bottom
low_is ⟨ x ⟩ = refl
low_is (e ⊞ f) = λ i. low_is e i * low_is f i
low_is (e ⊠ f) = λ i. low_is e i * low_is f i
low_is (⊟ e) = low_is e

high_is : (e : Nx) → val (high e) ≡ (value e).top
high_is ⟨ x ⟩ = refl
high_is (e ⊞ f) = λ i. high_is e i *ℤ pos (low_is f i) +ℤ high_is f i *ℤ pos (low_is e i)
high_is (e ⊠ f) = λ i. high_is e i *ℤ high_is f i
high_is (⊟ e) = λ i. neg_ℤ (high_is e i)

crossed : (e f : Nx) → val (high e ⊛ low f) ≡ (value e).top *ℤ pos (value f).bottom
crossed e f = λ i. high_is e i *ℤ pos (low_is f i)

module _ (e f : Nx) where
  abbrev pub Left : ℕ
  Left = hi (high e) * low f + lo (high f) * low e

  abbrev pub Right : ℕ
  Right = hi (high f) * low e + lo (high e) * low f

  pub ≼_in : Left ≤ Right → value e ≼ value f
  ≼_in h = record { not_above = subst₂ ◌≤ℤ◌ (crossed e f) (crossed f e) (at_most (high e ⊛ low f) (high f ⊛ low e) (omega arith)) }

  pub ≼_out : value e ≼ value f → Left ≤ Right
  ≼_out h = let g = at_most_out (high e ⊛ low f) (high f ⊛ low e) (subst₂ ◌≤ℤ◌ (sym (crossed e f)) (sym (crossed f e)) h.not_above) in omega arith

  pub ≺_in : Left < Right → value e ≺ value f
  ≺_in h = record { under = subst₂ ◌<ℤ◌ (crossed e f) (crossed f e) (below (high e ⊛ low f) (high f ⊛ low e) (omega arith)) }

  pub ≺_out : value e ≺ value f → Left < Right
  ≺_out h = let g = below_out (high e ⊛ low f) (high f ⊛ low e) (subst₂ ◌<ℤ◌ (sym (crossed e f)) (sym (crossed f e)) h.under) in omega arith

  pub ≃_in : Left ≡ Right → value e ≃ value f
  ≃_in h = record { cross = sym (crossed e f) ∙ ring (high e ⊛ low f) (high f ⊛ low e) (omega arith) ∙ crossed f e }

  pub ≃_out : value e ≃ value f → Left ≡ Right
  ≃_out h = let g = ring_out (high e ⊛ low f) (high f ⊛ low e) (crossed e f ∙ h.cross ∙ sym (crossed f e)) in omega arith

-- ---- the order
pub ≼_refl : {x : Number} → x ≼ x
≼_refl {x} = ≼_in ⟨ x ⟩ ⟨ x ⟩ (omega arith)

pub ≼_trans : {x y z : Number} → x ≼ y → y ≼ z → x ≼ z
≼_trans {x} {y} {z} h k =
    let h' = mul-le-mul_right z.bottom (≼_out ⟨ x ⟩ ⟨ y ⟩ h) in
    let k' = mul-le-mul_right x.bottom (≼_out ⟨ y ⟩ ⟨ z ⟩ k) in
    let g : Left ⟨ x ⟩ ⟨ z ⟩ * y.bottom ≤ Right ⟨ x ⟩ ⟨ z ⟩ * y.bottom = omega arith in
    ≼_in ⟨ x ⟩ ⟨ z ⟩ (le_of_mul-le-mul_right g y.positive)

pub ≼_antisym : {x y : Number} → x ≼ y → y ≼ x → x ≃ y
≼_antisym {x} {y} h k = ≃_in ⟨ x ⟩ ⟨ y ⟩ (omega (arith, ≼_out ⟨ x ⟩ ⟨ y ⟩ h, ≼_out ⟨ y ⟩ ⟨ x ⟩ k))

pub ≼_or_≺ : (x y : Number) → (x ≼ y) ⊎ (y ≺ x)
≼_or_≺ x y = by (dec_le (Left ⟨ x ⟩ ⟨ y ⟩) (Right ⟨ x ⟩ ⟨ y ⟩))
  where
    by : Dec (Left ⟨ x ⟩ ⟨ y ⟩ ≤ Right ⟨ x ⟩ ⟨ y ⟩) → (x ≼ y) ⊎ (y ≺ x)
    by (yes h) = inl (≼_in ⟨ x ⟩ ⟨ y ⟩ h)
    by (no h) = inr (≺_in ⟨ y ⟩ ⟨ x ⟩ (omega arith))

pub ≺-≼ : {x y : Number} → x ≺ y → x ≼ y
≺-≼ {x} {y} h = ≼_in ⟨ x ⟩ ⟨ y ⟩ (omega (arith, ≺_out ⟨ x ⟩ ⟨ y ⟩ h))

pub ≺_not_≼ : {x y : Number} → x ≺ y → ¬ (y ≼ x)
≺_not_≼ {x} {y} h k = omega (arith, ≺_out ⟨ x ⟩ ⟨ y ⟩ h, ≼_out ⟨ y ⟩ ⟨ x ⟩ k)

pub ≺_irrefl : {x : Number} → ¬ (x ≺ x)
≺_irrefl h = ≺_not_≼ h ≼_refl

pub ≼-≺_trans : {x y z : Number} → x ≼ y → y ≺ z → x ≺ z
≼-≺_trans {x} {y} {z} h k = ⊎_elim (λ l. absurd (≺_not_≼ k (≼_trans l h))) (λ l. l) (≼_or_≺ z x)

pub ≺-≼_trans : {x y z : Number} → x ≺ y → y ≼ z → x ≺ z
≺-≼_trans {x} {y} {z} h k = ⊎_elim (λ l. absurd (≺_not_≼ h (≼_trans k l))) (λ l. l) (≼_or_≺ z x)

pub ≺_trans : {x y z : Number} → x ≺ y → y ≺ z → x ≺ z
≺_trans h k = ≺-≼_trans h (≺-≼ k)

-- ---- sameness
pub ≃-≼ : {x y : Number} → x ≃ y → x ≼ y
≃-≼ {x} {y} h = ≼_in ⟨ x ⟩ ⟨ y ⟩ (omega (arith, ≃_out ⟨ x ⟩ ⟨ y ⟩ h))

pub ≃-≽ : {x y : Number} → x ≃ y → y ≼ x
≃-≽ {x} {y} h = ≼_in ⟨ y ⟩ ⟨ x ⟩ (omega (arith, ≃_out ⟨ x ⟩ ⟨ y ⟩ h))

pub ≃_refl : {x : Number} → x ≃ x
≃_refl = record { cross = refl }

pub ≃_sym : {x y : Number} → x ≃ y → y ≃ x
≃_sym h = record { cross = sym h.cross }

pub ≃_trans : {x y z : Number} → x ≃ y → y ≃ z → x ≃ z
≃_trans h k = ≼_antisym (≼_trans (≃-≼ h) (≃-≼ k)) (≼_trans (≃-≽ k) (≃-≽ h))

pub ≺_not_≃ : {x y : Number} → x ≺ y → ¬ (x ≃ y)
≺_not_≃ h e = ≺_not_≼ h (≃-≽ e)

pub by_order : (x y : Number) → (x ≺ y) ⊎ (x ≃ y) ⊎ (y ≺ x)
by_order x y = ⊎_elim (λ h. ⊎_elim (λ k. inr (inl (≼_antisym h k))) inl (≼_or_≺ y x)) (λ h. inr (inr h)) (≼_or_≺ x y)

pub ≃_or_not : (x y : Number) → (x ≃ y) ⊎ ¬ (x ≃ y)
≃_or_not x y = ⊎_elim (λ h. inr (≺_not_≃ h)) (⊎_elim inl (λ h. inr (λ e. ≺_not_≃ h (≃_sym e)))) (by_order x y)

pub ≄-≺ : {x y : Number} → ¬ (x ≃ y) → (x ≺ y) ⊎ (y ≺ x)
≄-≺ {x} {y} n = ⊎_elim inl (⊎_elim (λ e. absurd (n e)) inr) (by_order x y)

pub ≼_resp : {x x' y y' : Number} → x ≃ x' → y ≃ y' → x ≼ y → x' ≼ y'
≼_resp e f h = ≼_trans (≃-≽ e) (≼_trans h (≃-≼ f))

pub ≺_resp : {x x' y y' : Number} → x ≃ x' → y ≃ y' → x ≺ y → x' ≺ y'
≺_resp e f h = ≼-≺_trans (≃-≽ e) (≺-≼_trans h (≃-≼ f))

-- ---- sums
abbrev pub one : Number
one = whole (pos 1)

pub plus_comm : (x y : Number) → plus x y ≃ plus y x
plus_comm x y = ≃_in (⟨ x ⟩ ⊞ ⟨ y ⟩) (⟨ y ⟩ ⊞ ⟨ x ⟩) (omega arith)

pub plus_assoc : (x y z : Number) → plus (plus x y) z ≃ plus x (plus y z)
plus_assoc x y z = ≃_in (⟨ x ⟩ ⊞ ⟨ y ⟩ ⊞ ⟨ z ⟩) (⟨ x ⟩ ⊞ (⟨ y ⟩ ⊞ ⟨ z ⟩)) (omega arith)

pub plus_nought : (x : Number) → plus nought x ≃ x
plus_nought x = ≃_in (⟨ nought ⟩ ⊞ ⟨ x ⟩) ⟨ x ⟩ (omega arith)

pub minus_same : (x : Number) → minus x x ≃ nought
minus_same x = ≃_in (⟨ x ⟩ ⊞ ⊟ ⟨ x ⟩) ⟨ nought ⟩ (omega arith)

pub plus_mono : {x x' y y' : Number} → x ≼ x' → y ≼ y' → plus x y ≼ plus x' y'
plus_mono {x} {x'} {y} {y'} h k = ≼_trans (left y h) (≼_resp (plus_comm y x') (plus_comm y' x') (left x' k))
  where
    left : {x y : Number} (z : Number) → x ≼ y → plus x z ≼ plus y z
    left {x} {y} z h = ≼_in (⟨ x ⟩ ⊞ ⟨ z ⟩) (⟨ y ⟩ ⊞ ⟨ z ⟩) (omega (arith, mul-le-mul_right (z.bottom * z.bottom) (≼_out ⟨ x ⟩ ⟨ y ⟩ h)))

pub plus_≃ : {x x' y y' : Number} → x ≃ x' → y ≃ y' → plus x y ≃ plus x' y'
plus_≃ h k = ≼_antisym (plus_mono (≃-≼ h) (≃-≼ k)) (plus_mono (≃-≽ h) (≃-≽ k))

pub plus_to_minus : {q x : Number} (y : Number) → q ≼ plus x y → minus q y ≼ x
plus_to_minus {q} {x} y h = ≼_in (⟨ q ⟩ ⊞ ⊟ ⟨ y ⟩) ⟨ x ⟩ (omega (arith, ≼_out ⟨ q ⟩ (⟨ x ⟩ ⊞ ⟨ y ⟩) h))

pub minus_to_plus : {q x : Number} (y : Number) → minus q y ≼ x → q ≼ plus x y
minus_to_plus {q} {x} y h = ≼_in ⟨ q ⟩ (⟨ x ⟩ ⊞ ⟨ y ⟩) (omega (arith, ≼_out (⟨ q ⟩ ⊞ ⊟ ⟨ y ⟩) ⟨ x ⟩ h))

pub plus_positive : (x : Number) {y : Number} → nought ≺ y → x ≺ plus x y
plus_positive x {y} h = ≺_in ⟨ x ⟩ (⟨ x ⟩ ⊞ ⟨ y ⟩) (omega (arith, mul-le-mul_right (x.bottom * x.bottom) (≺_out ⟨ nought ⟩ ⟨ y ⟩ h), mul-pos x.positive x.positive))

pub one_positive : nought ≺ one
one_positive = ≺_in ⟨ nought ⟩ ⟨ one ⟩ (omega arith)

-- there is a lower number and a higher one
pub one_less : (x : Number) → minus x one ≺ x
one_less x = ≺_in (⟨ x ⟩ ⊞ ⊟ ⟨ one ⟩) ⟨ x ⟩ (omega (arith, mul-pos x.positive x.positive))

pub one_more : (x : Number) → x ≺ plus x one
one_more x = plus_positive x one_positive

-- ---- negation
pub neg_neg : (x : Number) → neg (neg x) ≡ x
neg_neg x = λ i. fraction (neg_ℤ-neg_ℤ x.top i) x.bottom x.positive

pub plus_neg : (x y : Number) → plus (neg x) (neg y) ≡ neg (plus x y)
plus_neg x y = λ i. fraction (ring (high (⊟ ⟨ x ⟩ ⊞ ⊟ ⟨ y ⟩)) (high (⊟ (⟨ x ⟩ ⊞ ⟨ y ⟩))) (omega arith) i) (x.bottom * y.bottom) (mul-pos x.positive y.positive)

pub times_neg : (x y : Number) → times x (neg y) ≡ neg (times x y)
times_neg x y = λ i. fraction (ring (high (⟨ x ⟩ ⊠ ⊟ ⟨ y ⟩)) (high (⊟ (⟨ x ⟩ ⊠ ⟨ y ⟩))) (omega arith) i) (x.bottom * y.bottom) (mul-pos x.positive y.positive)

pub neg_≼ : {x y : Number} → x ≼ y → neg y ≼ neg x
neg_≼ {x} {y} h = ≼_in (⊟ ⟨ y ⟩) (⊟ ⟨ x ⟩) (omega (arith, ≼_out ⟨ x ⟩ ⟨ y ⟩ h))

pub neg_≺ : {x y : Number} → x ≺ y → neg y ≺ neg x
neg_≺ {x} {y} h = ≺_in (⊟ ⟨ y ⟩) (⊟ ⟨ x ⟩) (omega (arith, ≺_out ⟨ x ⟩ ⟨ y ⟩ h))

pub neg_≃ : {x y : Number} → x ≃ y → neg x ≃ neg y
neg_≃ h = ≼_antisym (neg_≼ (≃-≽ h)) (neg_≼ (≃-≼ h))

pub minus_≃ : {x x' y y' : Number} → x ≃ x' → y ≃ y' → minus x y ≃ minus x' y'
minus_≃ h k = plus_≃ h (neg_≃ k)

-- ---- products
pub times_comm : (x y : Number) → times x y ≃ times y x
times_comm x y = ≃_in (⟨ x ⟩ ⊠ ⟨ y ⟩) (⟨ y ⟩ ⊠ ⟨ x ⟩) (omega arith)

pub times_assoc : (x y z : Number) → times (times x y) z ≃ times x (times y z)
times_assoc x y z = ≃_in (⟨ x ⟩ ⊠ ⟨ y ⟩ ⊠ ⟨ z ⟩) (⟨ x ⟩ ⊠ (⟨ y ⟩ ⊠ ⟨ z ⟩)) (omega arith)

pub times_one : (x : Number) → times one x ≃ x
times_one x = ≃_in (⟨ one ⟩ ⊠ ⟨ x ⟩) ⟨ x ⟩ (omega arith)

pub times_nought : (x : Number) → times nought x ≃ nought
times_nought x = ≃_in (⟨ nought ⟩ ⊠ ⟨ x ⟩) ⟨ nought ⟩ (omega arith)

-- cross multiplied out this is more than the 64 monomials that omega takes, so the common factor goes first
pub times_plus : (x y z : Number) → times (plus x y) z ≃ plus (times x z) (times y z)
times_plus x y z = scaled (times (plus x y) z) (plus (times x z) (times y z)) z.bottom
    (ring (high ((⟨ x ⟩ ⊞ ⟨ y ⟩) ⊠ ⟨ z ⟩) ⊛ z.bottom) (high (⟨ x ⟩ ⊠ ⟨ z ⟩ ⊞ ⟨ y ⟩ ⊠ ⟨ z ⟩)) (omega arith)) (omega arith)
  where
    scaled : (x y : Number) (k : ℕ) → x.top *ℤ pos k ≡ y.top → x.bottom * k ≡ y.bottom → x ≃ y
    scaled x y k e f =
        let g = ring_out (# x.top ⊛ k) (# y.top) e in
        ≃_in ⟨ x ⟩ ⟨ y ⟩ (omega (arith, ap (λ (m : ℕ). m * x.bottom) g, ap (λ (m : ℕ). up x.top * m) f, ap (λ (m : ℕ). down x.top * m) f))

pub times_≃ : {x x' y y' : Number} → x ≃ x' → y ≃ y' → times x y ≃ times x' y'
times_≃ {x} {x'} {y} {y'} h k = ≃_trans (left y h) (≃_trans (times_comm x' y) (≃_trans (left x' k) (times_comm y' x')))
  where
    left : {x y : Number} (z : Number) → x ≃ y → times x z ≃ times y z
    left {x} {y} z h =
        let e = ≃_out ⟨ x ⟩ ⟨ y ⟩ h in
        ≃_in (⟨ x ⟩ ⊠ ⟨ z ⟩) (⟨ y ⟩ ⊠ ⟨ z ⟩) (omega (arith, ap (λ (m : ℕ). m * (up z.top * z.bottom)) e, ap (λ (m : ℕ). m * (down z.top * z.bottom)) e))

-- (b - a) (d - c) is not negative
rearranged : {a b c d : ℕ} → a ≤ b → c ≤ d → a * d + b * c ≤ a * c + b * d
rearranged {a} {b} {c} {d} h k = by (b - a) (omega arith)
  where
    by : (e : ℕ) → b ≡ a + e → a * d + b * c ≤ a * c + b * d
    by e f = omega (arith, mul-le-mul_right e k, ap (λ (m : ℕ). m * c) f, ap (λ (m : ℕ). m * d) f)

module _ {x y z : Number} where
  pub times_mono : nought ≼ z → x ≼ y → times x z ≼ times y z
  times_mono h k =
      let g : down z.top ≤ up z.top = omega (arith, ≼_out ⟨ nought ⟩ ⟨ z ⟩ h) in
      ≼_in (⟨ x ⟩ ⊠ ⟨ z ⟩) (⟨ y ⟩ ⊠ ⟨ z ⟩) (omega (arith, mul-le-mul_right z.bottom (rearranged (≼_out ⟨ x ⟩ ⟨ y ⟩ k) g)))

  pub times_anti : z ≼ nought → x ≼ y → times y z ≼ times x z
  times_anti h k =
      let g : up z.top ≤ down z.top = omega (arith, ≼_out ⟨ z ⟩ ⟨ nought ⟩ h) in
      ≼_in (⟨ y ⟩ ⊠ ⟨ z ⟩) (⟨ x ⟩ ⊠ ⟨ z ⟩) (omega (arith, mul-le-mul_right z.bottom (rearranged (≼_out ⟨ x ⟩ ⟨ y ⟩ k) g)))

-- ---- by the sign
module _ (P : Number → Type 0) where
  pub by_positive : ((n b : ℕ) (p : 0 < b) → P (fraction (pos (suc n)) b p)) → {x : Number} → nought ≺ x → P x
  by_positive f {x} = by x.top
    where
      by : (t : ℤ) → nought ≺ fraction t x.bottom x.positive → P (fraction t x.bottom x.positive)
      by (pos zero) h = absurd (omega (arith, ≺_out ⟨ nought ⟩ ⟨ fraction (pos 0) x.bottom x.positive ⟩ h))
      by (pos (suc n)) h = f n x.bottom x.positive
      by (negsuc n) h = absurd (omega (arith, ≺_out ⟨ nought ⟩ ⟨ fraction (negsuc n) x.bottom x.positive ⟩ h))

  pub by_negative : ((n b : ℕ) (p : 0 < b) → P (fraction (negsuc n) b p)) → {x : Number} → x ≺ nought → P x
  by_negative f {x} = by x.top
    where
      by : (t : ℤ) → fraction t x.bottom x.positive ≺ nought → P (fraction t x.bottom x.positive)
      by (pos n) h = absurd (omega (arith, ≺_out ⟨ fraction (pos n) x.bottom x.positive ⟩ ⟨ nought ⟩ h))
      by (negsuc n) h = f n x.bottom x.positive

  pub by_nonzero : ((n b : ℕ) (p : 0 < b) → P (fraction (negsuc n) b p)) → ((n b : ℕ) (p : 0 < b) → P (fraction (pos (suc n)) b p)) → {x : Number} → ¬ (x ≃ nought) → P x
  by_nonzero f g n = ⊎_elim (by_negative f) (by_positive g) (≄-≺ n)

pub nought_top : {x : Number} → x ≃ nought → x.top ≡ pos 0
nought_top {x} e = same_in x.top (pos 0) (omega (arith, ≃_out ⟨ x ⟩ ⟨ nought ⟩ e))

-- ---- reciprocals
pub reciprocal_neg : (x : Number) → reciprocal (neg x) ≡ neg (reciprocal x)
reciprocal_neg x = by x.top
  where
    by : (t : ℤ) → reciprocal_of (neg_ℤ t) x.bottom ≡ neg (reciprocal_of t x.bottom)
    by (pos zero) = refl
    by (pos (suc n)) = refl
    by (negsuc n) = sym (neg_neg (reciprocal_of (pos (suc n)) x.bottom))

pub reciprocal_reciprocal : (x : Number) → reciprocal (reciprocal x) ≃ x
reciprocal_reciprocal x = by x.top x.bottom x.positive
  where
    by : (t : ℤ) (b : ℕ) (p : 0 < b) → reciprocal (reciprocal (fraction t b p)) ≃ fraction t b p
    by (pos zero) b p = ≃_in ⟨ nought ⟩ ⟨ fraction (pos 0) b p ⟩ (omega arith)
    by (pos (suc n)) zero p = absurd (omega arith)
    by (pos (suc n)) (suc b) p = record { cross = refl }
    by (negsuc n) zero p = absurd (omega arith)
    by (negsuc n) (suc b) p = record { cross = refl }

pub reciprocal_positive : {x : Number} → nought ≺ x → nought ≺ reciprocal x
reciprocal_positive = by_positive (λ x. nought ≺ reciprocal x) (λ n b p. ≺_in ⟨ nought ⟩ ⟨ reciprocal (fraction (pos (suc n)) b p) ⟩ (omega arith))

pub reciprocal_anti : {x y : Number} → nought ≺ x → x ≼ y → reciprocal y ≼ reciprocal x
reciprocal_anti {x} {y} h k = by_positive (λ x. x ≼ y → reciprocal y ≼ reciprocal x) upper h k
  where
    upper : (n b : ℕ) (p : 0 < b) → fraction (pos (suc n)) b p ≼ y → reciprocal y ≼ reciprocal (fraction (pos (suc n)) b p)
    upper n b p =
        let x = fraction (pos (suc n)) b p in
        by_positive (λ y. x ≼ y → reciprocal y ≼ reciprocal x)
        (λ m c q l. let y = fraction (pos (suc m)) c q in ≼_in ⟨ reciprocal y ⟩ ⟨ reciprocal x ⟩ (omega (arith, ≼_out ⟨ x ⟩ ⟨ y ⟩ l))) (≺-≼_trans h k)

-- ---- quotients
module _ {x y : Number} where
  pub times_to_over : {z : Number} → nought ≺ z → x ≼ times y z → over x z ≼ y
  times_to_over = by_positive (λ z. x ≼ times y z → over x z ≼ y)
      (λ n b p h. let z = fraction (pos (suc n)) b p in ≼_in (⟨ x ⟩ ⊠ ⟨ reciprocal z ⟩) ⟨ y ⟩ (omega (arith, ≼_out ⟨ x ⟩ (⟨ y ⟩ ⊠ ⟨ z ⟩) h)))

  pub over_to_times : {z : Number} → nought ≺ z → over x z ≼ y → x ≼ times y z
  over_to_times = by_positive (λ z. over x z ≼ y → x ≼ times y z)
      (λ n b p h. let z = fraction (pos (suc n)) b p in ≼_in ⟨ x ⟩ (⟨ y ⟩ ⊠ ⟨ z ⟩) (omega (arith, ≼_out (⟨ x ⟩ ⊠ ⟨ reciprocal z ⟩) ⟨ y ⟩ h)))

  pub times_to_over⁻ : {z : Number} → z ≺ nought → x ≼ times y z → y ≼ over x z
  times_to_over⁻ = by_negative (λ z. x ≼ times y z → y ≼ over x z)
      (λ n b p h. let z = fraction (pos (suc n)) b p in ≼_in ⟨ y ⟩ (⟨ x ⟩ ⊠ ⊟ ⟨ reciprocal z ⟩) (omega (arith, ≼_out ⟨ x ⟩ (⟨ y ⟩ ⊠ ⊟ ⟨ z ⟩) h)))

  pub over_to_times⁻ : {z : Number} → z ≺ nought → y ≼ over x z → x ≼ times y z
  over_to_times⁻ = by_negative (λ z. y ≼ over x z → x ≼ times y z)
      (λ n b p h. let z = fraction (pos (suc n)) b p in ≼_in ⟨ x ⟩ (⟨ y ⟩ ⊠ ⊟ ⟨ z ⟩) (omega (arith, ≼_out ⟨ y ⟩ (⟨ x ⟩ ⊠ ⊟ ⟨ reciprocal z ⟩) h)))

-- x / y is the number that times y is x
pub over_times : (x y z : Number) → ¬ (y ≃ nought) → over x y ≃ z → times z y ≃ x
over_times x y z = by_nonzero (λ y. over x y ≃ z → times z y ≃ x)
    (λ n b p e. let y = fraction (pos (suc n)) b p in ≃_in (⟨ z ⟩ ⊠ ⊟ ⟨ y ⟩) ⟨ x ⟩ (omega (arith, ≃_out (⟨ x ⟩ ⊠ ⊟ ⟨ reciprocal y ⟩) ⟨ z ⟩ e)))
    (λ n b p e. let y = fraction (pos (suc n)) b p in ≃_in (⟨ z ⟩ ⊠ ⟨ y ⟩) ⟨ x ⟩ (omega (arith, ≃_out (⟨ x ⟩ ⊠ ⟨ reciprocal y ⟩) ⟨ z ⟩ e)))

pub times_over : (x y z : Number) → ¬ (y ≃ nought) → times z y ≃ x → over x y ≃ z
times_over x y z = by_nonzero (λ y. times z y ≃ x → over x y ≃ z)
    (λ n b p e. let y = fraction (pos (suc n)) b p in ≃_in (⟨ x ⟩ ⊠ ⊟ ⟨ reciprocal y ⟩) ⟨ z ⟩ (omega (arith, ≃_out (⟨ z ⟩ ⊠ ⊟ ⟨ y ⟩) ⟨ x ⟩ e)))
    (λ n b p e. let y = fraction (pos (suc n)) b p in ≃_in (⟨ x ⟩ ⊠ ⟨ reciprocal y ⟩) ⟨ z ⟩ (omega (arith, ≃_out (⟨ z ⟩ ⊠ ⟨ y ⟩) ⟨ x ⟩ e)))

pub reciprocal_nought : {x : Number} → x ≃ nought → reciprocal x ≃ nought
reciprocal_nought {x} e = subst (λ t. reciprocal_of t x.bottom ≃ nought) (sym (nought_top e)) ≃_refl

pub reciprocal_≃ : {x y : Number} → x ≃ y → reciprocal x ≃ reciprocal y
reciprocal_≃ {x} {y} h = ⊎_elim
    (λ e. ≃_trans (reciprocal_nought (≃_trans h e)) (≃_sym (reciprocal_nought e)))
    (λ n. ≃_trans (≃_sym (unique n)) (times_one (reciprocal y)))
    (≃_or_not y nought)
  where
    unique : ¬ (y ≃ nought) → over one y ≃ reciprocal x
    unique n = times_over one y (reciprocal x) n (≃_trans (times_≃ ≃_refl (≃_sym h)) (over_times one x (reciprocal x) (λ e. n (≃_trans (≃_sym h) e)) (times_one (reciprocal x))))

pub over_≃ : {x x' y y' : Number} → x ≃ x' → y ≃ y' → over x y ≃ over x' y'
over_≃ h k = times_≃ h (reciprocal_≃ k)
