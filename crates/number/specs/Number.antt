-- Numbers: fractions of two whole numbers, the lower part positive. Assumes nothing.
--     Number                             top / bottom
--     ◌≼◌  ◌≺◌  ◌≃◌                      not above, below, the same value: by cross multiplication
--     plus  neg  minus  times  over      the operations; `over x y` is x / y, and 0 where y is 0
use Rattle.std.specs.Prelude.{◌≡◌, ℕ, zero, suc, ◌*◌, ◌<◌, Bool, ℤ, pos, negsuc, ◌+ℤ◌, ◌*ℤ◌, neg_ℤ, ◌≤ℤ◌, ◌<ℤ◌, int_lt}
use Rattle.std.proofs.Common.{mul-pos, arith}

pub record Number : Type 0 where
  pub top : ℤ
  pub bottom : ℕ
  pub positive : 0 < bottom

abbrev pub fraction : (t : ℤ) (b : ℕ) → 0 < b → Number
fraction t b h = record { top = t; bottom = b; positive = h }

-- records, so that the two numbers can be read off a proof
infix 40 ◌≼◌ ◌≺◌ ◌≃◌
pub record ◌≼◌ (x y : Number) : Type 0 where
  pub not_above : (x.top *ℤ pos y.bottom) ≤ℤ (y.top *ℤ pos x.bottom)

pub record ◌≺◌ (x y : Number) : Type 0 where
  pub under : (x.top *ℤ pos y.bottom) <ℤ (y.top *ℤ pos x.bottom)

pub record ◌≃◌ (x y : Number) : Type 0 where
  pub cross : x.top *ℤ pos y.bottom ≡ y.top *ℤ pos x.bottom

-- x ≺ y, as a test
abbrev pub below : Number → Number → Bool
below x y = int_lt (x.top *ℤ pos y.bottom) (y.top *ℤ pos x.bottom)

-- the whole number z
abbrev pub whole : ℤ → Number
whole z = fraction z 1 (omega arith)

abbrev pub nought : Number
nought = whole (pos 0)

abbrev pub plus : Number → Number → Number
plus x y = fraction (x.top *ℤ pos y.bottom +ℤ y.top *ℤ pos x.bottom) (x.bottom * y.bottom) (mul-pos x.positive y.positive)

abbrev pub neg : Number → Number
neg x = fraction (neg_ℤ x.top) x.bottom x.positive

abbrev pub minus : Number → Number → Number
minus x y = plus x (neg y)

abbrev pub times : Number → Number → Number
times x y = fraction (x.top *ℤ y.top) (x.bottom * y.bottom) (mul-pos x.positive y.positive)

-- one over t / b, and 0 for t = 0
abbrev pub reciprocal_of : ℤ → ℕ → Number
reciprocal_of (pos zero) b = nought
reciprocal_of (pos (suc n)) b = fraction (pos b) (suc n) (omega arith)
reciprocal_of (negsuc n) b = fraction (neg_ℤ (pos b)) (suc n) (omega arith)

abbrev pub reciprocal : Number → Number
reciprocal y = reciprocal_of y.top y.bottom

abbrev pub over : Number → Number → Number
over x y = times x (reciprocal y)
