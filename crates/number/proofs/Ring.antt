-- Equations and orders of ℤ by `omega arith`. Assumes nothing.
-- `omega (arith, ints)` reads an integer z as up z - down z, and a product of two of them, but no sum or product inside a product.
-- Here a term of ℤ is written once more as an expression e, whose parts hi e and lo e are polynomials of naturals, with hi e - lo e = val e.
-- omega multiplies those out: `ring e f (omega arith) : val e ≡ val f`. A fact times a factor is handed over multiplied.
--     # z    an unknown          n ⁺    the natural n          ◌⊕◌  ◌⊗◌  ⊖◌    the operations
--     e ⊛ n  e times the natural n, with fewer monomials than e ⊗ n ⁺
--     ring  at_most  below                  into val e ≡ val f, val e ≤ℤ val f, val e <ℤ val f
--     ring_out  at_most_out  below_out      back
use Rattle.std.proofs.Common.{◌≡◌, ℕ, ◌+◌, ◌*◌, ◌<◌, ◌≤◌, ℤ, pos, ◌+ℤ◌, ◌*ℤ◌, neg_ℤ, ◌≤ℤ◌, ◌<ℤ◌, refl, ap, mul-le-mul_right, arith}
use borrow.Author.Differences.{up, down, same_in, sum_is_lem, neg_is, product_is, le_out, lt_out, at_most_in, below_in}

infixl 60 ◌⊕◌
infixl 70 ◌⊗◌ ◌⊛◌
infixl 80 ⊖◌
infixl 90 #◌ ◌⁺
pub data Ex : Type 0 where
  #◌ : ℤ → Ex
  ◌⁺ : ℕ → Ex
  ◌⊕◌ : Ex → Ex → Ex
  ◌⊗◌ : Ex → Ex → Ex
  ◌⊛◌ : Ex → ℕ → Ex
  ⊖◌ : Ex → Ex

abbrev pub val : Ex → ℤ
val (# z) = z
val (n ⁺) = pos n
val (e ⊕ f) = val e +ℤ val f
val (e ⊗ f) = val e *ℤ val f
val (e ⊛ n) = val e *ℤ pos n
val (⊖ e) = neg_ℤ (val e)

abbrev mutual
  pub hi : Ex → ℕ
  hi (# z) = up z
  hi (n ⁺) = n
  hi (e ⊕ f) = hi e + hi f
  hi (e ⊗ f) = hi e * hi f + lo e * lo f
  hi (e ⊛ n) = hi e * n
  hi (⊖ e) = lo e

  pub lo : Ex → ℕ
  lo (# z) = down z
  lo (n ⁺) = 0
  lo (e ⊕ f) = lo e + lo f
  lo (e ⊗ f) = hi e * lo f + lo e * hi f
  lo (e ⊛ n) = lo e * n
  lo (⊖ e) = hi e

-- (u - d) (u' - d') does not change with the parts
product : (u d h l u' d' h' l' : ℕ) → u + l ≡ h + d → u' + l' ≡ h' + d' → (u * u' + d * d') + (h * l' + l * h') ≡ (h * h' + l * l') + (u * d' + d * u')
product u d h l u' d' h' l' e f =
    let e₁ = ap (λ x. x * u') e in
    let e₂ = ap (λ x. x * d') e in
    let f₁ = ap (λ x. h * x) f in
    let f₂ = ap (λ x. l * x) f in
    omega arith

sound : (e : Ex) → up (val e) + lo e ≡ hi e + down (val e)
sound (# z) = refl
sound (n ⁺) = omega arith
sound (e ⊕ f) = omega (arith, sum_is_lem (val e) (val f), sound e, sound f)
sound (e ⊗ f) = omega (arith, product_is (val e) (val f), product (up (val e)) (down (val e)) (hi e) (lo e) (up (val f)) (down (val f)) (hi f) (lo f) (sound e) (sound f))
sound (e ⊛ n) = omega (arith, product_is (val e) (pos n), ap (λ x. x * n) (sound e))
sound (⊖ e) = omega (arith, neg_is (val e), sound e)

module _ (e f : Ex) where
  pub ring : hi e + lo f ≡ hi f + lo e → val e ≡ val f
  ring h = same_in (val e) (val f) (omega (arith, sound e, sound f))

  pub at_most : hi e + lo f ≤ hi f + lo e → val e ≤ℤ val f
  at_most h = at_most_in (val e) (val f) (omega (arith, sound e, sound f))

  pub below : hi e + lo f < hi f + lo e → val e <ℤ val f
  below h = below_in (val e) (val f) (omega (arith, sound e, sound f))

  pub ring_out : val e ≡ val f → hi e + lo f ≡ hi f + lo e
  ring_out h = omega (arith, ap up h, ap down h, sound e, sound f)

  pub at_most_out : val e ≤ℤ val f → hi e + lo f ≤ hi f + lo e
  at_most_out h = omega (arith, le_out (val e) (val f) h, sound e, sound f)

  pub below_out : val e <ℤ val f → hi e + lo f < hi f + lo e
  below_out h = omega (arith, lt_out (val e) (val f) h, sound e, sound f)

-- the order, times a natural
pub ≤ℤ_times : {a b : ℤ} (k : ℕ) → a ≤ℤ b → (a *ℤ pos k) ≤ℤ (b *ℤ pos k)
≤ℤ_times {a} {b} k h = let g = mul-le-mul_right k (at_most_out (# a) (# b) h) in at_most (# a ⊛ k) (# b ⊛ k) (omega arith)
