-- The ends of sums, products and quotients of ranges, from the ends of the ranges. Assumes nothing.
--     ◌⊹◌              the sum of two lower ends, or of two upper ends
--     ◌⊙◌              the product of two ends: that of a number and an infinity goes by the number's sign, and is 0 for 0
--     Corners          a place is not above any of the four products of ends         Corners⁺       none of them is above it
--     recip⁺ recip⁻    one over an end, among the positive numbers, and among the negative ones
use Rattle.std.specs.Prelude.{ℕ, zero, suc, ℤ, pos, negsuc}
use Rattle.number.specs.Number.{plus, times, nought, reciprocal_of}
use Rattle.number.specs.Place.{Place, −∞, at, +∞, ◌⊑◌, opp}

-- opposite infinities never meet here
infixl 60 ◌⊹◌
abbrev pub ◌⊹◌ : Place → Place → Place
−∞ ⊹ q = −∞
at x ⊹ −∞ = −∞
at x ⊹ at y = at (plus x y)
at x ⊹ +∞ = +∞
+∞ ⊹ q = +∞

-- plus and minus infinity, times a number with the upper part t
abbrev pub far : ℤ → Place
far (pos zero) = at nought
far (pos (suc n)) = +∞
far (negsuc n) = −∞

abbrev pub far⁻ : ℤ → Place
far⁻ (pos zero) = at nought
far⁻ (pos (suc n)) = −∞
far⁻ (negsuc n) = +∞

infixl 70 ◌⊙◌
abbrev pub ◌⊙◌ : Place → Place → Place
−∞ ⊙ −∞ = +∞
−∞ ⊙ at y = far⁻ y.top
−∞ ⊙ +∞ = −∞
at x ⊙ −∞ = far⁻ x.top
at x ⊙ at y = at (times x y)
at x ⊙ +∞ = far x.top
+∞ ⊙ −∞ = −∞
+∞ ⊙ at y = far y.top
+∞ ⊙ +∞ = +∞

abbrev pub Corners : Place → Place → Place → Place → Place → Type 0
Corners q a b c d = (q ⊑ a ⊙ c) × (q ⊑ a ⊙ d) × (q ⊑ b ⊙ c) × (q ⊑ b ⊙ d)

abbrev pub Corners⁺ : Place → Place → Place → Place → Place → Type 0
Corners⁺ q a b c d = (a ⊙ c ⊑ q) × (a ⊙ d ⊑ q) × (b ⊙ c ⊑ q) × (b ⊙ d ⊑ q)

abbrev pub recip_of : ℤ → ℕ → Place
recip_of (pos zero) b = +∞
recip_of (pos (suc n)) b = at (reciprocal_of (pos (suc n)) b)
recip_of (negsuc n) b = +∞

abbrev pub recip⁺ : Place → Place
recip⁺ −∞ = +∞
recip⁺ (at y) = recip_of y.top y.bottom
recip⁺ +∞ = at nought

abbrev pub recip⁻ : Place → Place
recip⁻ p = opp (recip⁺ (opp p))
