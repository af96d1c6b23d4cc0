-- Rounded whole quotients. Assumes nothing.
--     whole_down  whole_up      a whole number is not above n / d exactly if it is not above its floor; not below, by the ceiling
--     scaled                    the quotient does not change with a common factor
use Rattle.std.specs.Prelude.{◌≡◌, ℕ, suc, ◌+◌, ◌*◌, ◌^◌, ◌<◌, ◌≤◌, ◌⊎◌, ◌↔◌, ℤ, pos, negsuc, ◌+ℤ◌, ◌-ℤ◌, ◌*ℤ◌, neg_ℤ, ◌≤ℤ◌, ◌<ℤ◌, FitsSigned, unsigned_abs, refl}
use Rattle.std.proofs.Common.{ap, subst, inl, inr, ⊎_elim, arith, mul-le-mul, mul-le-mul_right, le_of_mul-le-mul_right, mul-lt-mul_of_pos_right}
use borrow.Author.Differences.{ints, up, down, lt_out, at_most_in}
use Rattle.std.specs.Int.{int_div_euclid, w64}
use Rattle.std.proofs.lemmas.Int.{by_lt_z}
use Rattle.number.proofs.Ring.{#◌, ◌⁺, ◌⊕◌, ◌⊛◌, ring, ≤ℤ_times}
use Rattle.scale.specs.declared.rounding.Rounding.{Rounding}
use Rattle.scale.specs.declared.rounding.Rounding.TheVariants.{Down, Up}
use Rattle.scale.specs.Quotient.{Whole, Signed}

-- ---- orders and a positive factor
pub ≤ℤ_trans : {a b c : ℤ} → a ≤ℤ b → b ≤ℤ c → a ≤ℤ c
≤ℤ_trans {a} {b} {c} h k = omega (arith, ints)

pub times_back : (a b : ℤ) (k : ℕ) → 0 < k → (a *ℤ pos k) ≤ℤ (b *ℤ pos k) → a ≤ℤ b
times_back a b k p h = at_most_in a b (le_of_mul-le-mul_right {m = up a + down b} {n = up b + down a} {k = k} (omega (arith, ints)) p)

times_below : (a b : ℤ) (k : ℕ) → 0 < k → a <ℤ b → (a *ℤ pos k) <ℤ (b *ℤ pos k)
times_below a b k p h = omega (arith, ints, mul-lt-mul_of_pos_right {m = up a + down b} {n = up b + down a} {k = k} (lt_out a b h) p)

-- ---- what a rounded quotient is
module _ (n : ℤ) (d : ℕ) (q : ℤ) (p : 0 < d) where
  pub whole_down : Whole Down n d q → (c : ℤ) → ((c *ℤ pos d) ≤ℤ n) ↔ (c ≤ℤ q)
  whole_down w c = (
    λ h. by_lt_z q c (λ l. absurd (omega (arith, ints, w.1, mul-le-mul_right {m = suc (up q + down c)} {n = up c + down q} d (lt_out q c l)))) (λ l. l),
    λ h. ≤ℤ_trans (≤ℤ_times d h) w.0,
  )

  pub whole_up : Whole Up n d q → (c : ℤ) → (n ≤ℤ (c *ℤ pos d)) ↔ (q ≤ℤ c)
  whole_up w c = (
    λ h. by_lt_z c q (λ l. absurd (omega (arith, ints, w.1, mul-le-mul_right {m = suc (up c + down q)} {n = up q + down c} d (lt_out c q l)))) (λ l. l),
    λ h. ≤ℤ_trans w.0 (≤ℤ_times d h),
  )

-- the floor, as `div_euclid` gives it
pub euclid_down : (n : ℤ) (d : ℕ) → 0 < d → Whole Down n d (int_div_euclid n (pos d))
euclid_down (pos a) d p = (omega (arith, ints), omega (arith, ints))
euclid_down (negsuc a) d p = (omega (arith, ints), omega (arith, ints))

-- the ceiling, as the floor of n + (d - 1)
pub up_by_down : (n : ℤ) (d : ℕ) (q : ℤ) → Whole Down (n +ℤ (pos d -ℤ pos 1)) d q → Whole Up n d q
up_by_down n d q w = (omega (arith, ints, w.0, w.1), omega (arith, ints, w.0, w.1))

pub exact : (r : Rounding) (n : ℤ) (d : ℕ) (q : ℤ) → 0 < d → n ≡ q *ℤ pos d → Whole r n d q
exact Down n d q p e = (omega (arith, ints), omega (arith, ints))
exact Up n d q p e = (omega (arith, ints), omega (arith, ints))

pub scaled : (r : Rounding) (n : ℤ) (d k : ℕ) (q : ℤ) → 0 < k → Whole r n d q → Whole r (n *ℤ pos k) (d * k) q
scaled Down n d k q p w =
    let l = ≤ℤ_times k w.0 in
    let m = times_below n (q *ℤ pos d +ℤ pos d) k p w.1 in
    let e = ring (# q ⊛ d ⊛ k) (# q ⊛ (d * k)) (omega arith) in
    let f = ring ((# q ⊛ d ⊕ d ⁺) ⊛ k) (# q ⊛ (d * k) ⊕ (d * k) ⁺) (omega arith) in
    (subst (λ z. z ≤ℤ (n *ℤ pos k)) e l, subst (λ z. (n *ℤ pos k) <ℤ z) f m)
scaled Up n d k q p w =
    let l = ≤ℤ_times k w.0 in
    let m = times_below (q *ℤ pos d) (n +ℤ pos d) k p w.1 in
    let e = ring (# q ⊛ d ⊛ k) (# q ⊛ (d * k)) (omega arith) in
    let f = ring ((# n ⊕ d ⁺) ⊛ k) (# n ⊛ k ⊕ (d * k) ⁺) (omega arith) in
    (subst (λ z. (n *ℤ pos k) ≤ℤ z) e l, subst (λ z. z <ℤ (n *ℤ pos k +ℤ pos (d * k))) e (subst (λ z. (q *ℤ pos d *ℤ pos k) <ℤ z) f m))

pub signed_neg : (r : Rounding) (n d q : ℤ) → d <ℤ pos 0 → Whole r (neg_ℤ n) (unsigned_abs d) q → Signed r n d q
signed_neg r n (pos d) q l w = absurd (omega (arith, ints))
signed_neg r n (negsuc d) q l w = w

pub signed_pos : (r : Rounding) (n d q : ℤ) → pos 0 ≤ℤ d → Whole r n (unsigned_abs d) q → Signed r n d q
signed_pos r n (pos d) q l w = w
signed_pos r n (negsuc d) q l w = absurd (omega (arith, ints))

-- ---- the product of two signed numbers of 64 bits
parts_small : (a : ℤ) → FitsSigned w64 a → (up a ≤ 2 ^ 63) × (down a ≤ 2 ^ 63)
parts_small (pos n) f = (omega (arith, ints), omega arith)
parts_small (negsuc n) f = (omega arith, omega (arith, ints))

one_part : (a : ℤ) → (up a ≡ 0) ⊎ (down a ≡ 0)
one_part (pos n) = inr refl
one_part (negsuc n) = inl refl

pub product_small : (a b : ℤ) → FitsSigned w64 a → FitsSigned w64 b → (neg_ℤ (pos (2 ^ 126)) ≤ℤ (a *ℤ b)) × ((a *ℤ b) ≤ℤ pos (2 ^ 126))
product_small a b f g =
    let p = parts_small a f in
    let q = parts_small b g in
    let uu = mul-le-mul p.0 q.0 in
    let ud = mul-le-mul p.0 q.1 in
    let du = mul-le-mul p.1 q.0 in
    let dd = mul-le-mul p.1 q.1 in
    ⊎_elim
    (λ e. let e₁ = ap (λ (n : ℕ). n * up b) e in let e₂ = ap (λ (n : ℕ). n * down b) e in (omega (arith, ints), omega (arith, ints)))
    (λ e. let e₁ = ap (λ (n : ℕ). n * up b) e in let e₂ = ap (λ (n : ℕ). n * down b) e in (omega (arith, ints), omega (arith, ints)))
    (one_part a)
