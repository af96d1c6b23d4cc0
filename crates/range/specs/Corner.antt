-- Ends by either rounding, and corners: the products and quotients of two ends. Assumes nothing.
--     Corner p r q c      c is the place q, rounded on the scale p
--     End p r S c         c is the lower end of the hull of S, or the upper one: the end that is rounded so
--     sign_of_place       on which side of 0 a place stands
--     utmost              the infinity on a side of 0, and 0 itself
use Rattle.std.specs.Prelude.{◌≡◌, zero, suc, ℤ, pos, negsuc}
use Rattle.std.specs.Int.{int_min, int_max}
use Rattle.number.specs.Number.{Number, nought, over}
use Rattle.number.specs.Place.{Place, −∞, at, +∞, ◌⊑◌, Set, Outcomes, PositivePart, NegativePart}
use Rattle.number.specs.Ends.{recip⁺, recip⁻}
use Rattle.scale.specs.declared.rounding.Rounding.{Rounding}
use Rattle.scale.specs.declared.rounding.Rounding.TheVariants.{Down, Up}
use Rattle.scale.specs.Scale.{Floor, Ceiling}
use Rattle.range.specs.declared.corner.Sign.{Sign}
use Rattle.range.specs.declared.corner.Sign.TheVariants.{Negative, Zero, Positive}
use Rattle.range.specs.declared.corner.Side.{Side}
use Rattle.range.specs.declared.corner.Side.TheVariants.{Below, Above}
use Rattle.range.specs.declared.range.Range.{Range}
use Rattle.range.specs.Hull.{Lowest, Highest}

abbrev pub Corner : (ℤ → Place) → Rounding → Place → ℤ → Type 0
Corner p Down q c = Floor p q c
Corner p Up q c = Ceiling p q c

abbrev pub End : (ℤ → Place) → Rounding → (Number → Type 0) → ℤ → Type 0
End p Down S c = Lowest p S c
End p Up S c = Highest p S c

-- the outer one of two codes
abbrev pub outer : Rounding → ℤ → ℤ → ℤ
outer Down = int_min
outer Up = int_max

-- the outermost of what C gives of each end of x with each end of y
pub record Outermost (C : ℤ → ℤ → ℤ → Type 0) (r : Rounding) (x y : Range) (c : ℤ) : Type 0 where
  pub k : ℤ
  pub l : ℤ
  pub m : ℤ
  pub n : ℤ
  pub lower_lower : C x.lower y.lower k
  pub lower_upper : C x.lower y.upper l
  pub upper_lower : C x.upper y.lower m
  pub upper_upper : C x.upper y.upper n
  pub outermost : c ≡ outer r (outer r k l) (outer r m n)

-- ---- signs
abbrev pub sign_of_top : ℤ → Sign
sign_of_top (pos zero) = Zero
sign_of_top (pos (suc n)) = Positive
sign_of_top (negsuc n) = Negative

abbrev pub sign_of_place : Place → Sign
sign_of_place −∞ = Negative
sign_of_place (at x) = sign_of_top x.top
sign_of_place +∞ = Positive

abbrev pub sign_product : Sign → Sign → Sign
sign_product Negative Negative = Positive
sign_product Negative Zero = Zero
sign_product Negative Positive = Negative
sign_product Zero s = Zero
sign_product Positive s = s

abbrev pub utmost : Sign → Place
utmost Negative = −∞
utmost Zero = at nought
utmost Positive = +∞

-- ---- the two sides of 0
abbrev pub sign_of_side : Side → Sign
sign_of_side Below = Negative
sign_of_side Above = Positive

-- the end of a range towards that side
abbrev pub end_towards : Side → Range → ℤ
end_towards Below r = r.lower
end_towards Above r = r.upper

-- the place is on that side
abbrev pub Facing : Side → Place → Type 0
Facing Below q = ¬ (at nought ⊑ q)
Facing Above q = ¬ (q ⊑ at nought)

abbrev pub part : Side → Set → Set
part Below = NegativePart
part Above = PositivePart

-- quotients by the divisors of a side
abbrev pub QuotientsOn : Side → (Number → Type 0) → (Number → Type 0) → Number → Type 0
QuotientsOn s X Y = Outcomes over X (part s Y)

-- one over an end, among the numbers of a side
abbrev pub recip : Side → Place → Place
recip Below = recip⁻
recip Above = recip⁺
