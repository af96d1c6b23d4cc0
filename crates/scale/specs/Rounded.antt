-- Exact results, and what it is to round one to a code. Assumes nothing.
--     sum_of  difference_of  product_of  quotient_of      the exact number of two places, if there is one
--     Rounded p r e c                                     c is the exact result e, rounded on the scale p
use Rattle.std.specs.Prelude.{zero, suc, ℤ, pos, negsuc, Some, None, Option}
use Rattle.number.specs.declared.Fraction.{Fraction}
use Rattle.number.specs.Number.{Number, plus, minus, times, over}
use Rattle.number.specs.Place.{Place, −∞, at, +∞}
use Rattle.number.specs.Fraction.{value}
use Rattle.scale.specs.declared.rounding.Rounding.{Rounding}
use Rattle.scale.specs.declared.rounding.Rounding.TheVariants.{Down, Up}
use Rattle.scale.specs.Scale.{Floor, Ceiling}

-- two infinite operands, or one, have no exact number
abbrev pub of_two : (Number → Number → Option Number) → Place → Place → Option Number
of_two f −∞ q = None
of_two f (at x) −∞ = None
of_two f (at x) (at y) = f x y
of_two f (at x) +∞ = None
of_two f +∞ q = None

abbrev pub sum_of : Place → Place → Option Number
sum_of = of_two (λ x y. Some (plus x y))

abbrev pub difference_of : Place → Place → Option Number
difference_of = of_two (λ x y. Some (minus x y))

abbrev pub product_of : Place → Place → Option Number
product_of = of_two (λ x y. Some (times x y))

-- nothing is divided by 0
abbrev pub divided : Number → Number → ℤ → Option Number
divided x y (pos zero) = None
divided x y (pos (suc n)) = Some (over x y)
divided x y (negsuc n) = Some (over x y)

abbrev pub quotient_of : Place → Place → Option Number
quotient_of = of_two (λ x y. divided x y y.top)

-- below is the greatest code whose place is not above the number, above the least whose place is not below it;
-- where there is no number, they are the greatest code for minus infinity and the least for plus infinity
abbrev pub Rounded : (ℤ → Place) → Rounding → Option Number → ℤ → Type 0
Rounded p Down None c = Floor p −∞ c
Rounded p Down (Some x) c = Floor p (at x) c
Rounded p Up None c = Ceiling p +∞ c
Rounded p Up (Some x) c = Ceiling p (at x) c

-- ---- the answers of an arithmetic scale with the places p
abbrev pub Sum : (ℤ → Place) → Rounding → ℤ → ℤ → ℤ → Type 0
Sum p r a b c = Rounded p r (sum_of (p a) (p b)) c

abbrev pub Difference : (ℤ → Place) → Rounding → ℤ → ℤ → ℤ → Type 0
Difference p r a b c = Rounded p r (difference_of (p a) (p b)) c

abbrev pub Product : (ℤ → Place) → Rounding → ℤ → ℤ → ℤ → Type 0
Product p r a b c = Rounded p r (product_of (p a) (p b)) c

abbrev pub Quotient : (ℤ → Place) → Rounding → ℤ → ℤ → ℤ → Type 0
Quotient p r a b c = Rounded p r (quotient_of (p a) (p b)) c

abbrev pub Written : (ℤ → Place) → Rounding → Fraction → ℤ → Type 0
Written p r f c = Rounded p r (value f) c
