-- Scales of marks: the codes from the first to the last have a whole count of equal parts of 1; lower codes have minus infinity, higher ones plus infinity. Assumes nothing.
use Rattle.std.specs.Prelude.{◌≡◌, ℕ, ◌<◌, cond, ℤ, Some, None, Option, ◌≢◌, int_lt}
use Rattle.number.specs.Number.{Number, fraction}
use Rattle.number.specs.Place.{Place, −∞, at, +∞}

-- `parts` parts make 1, and the code c counts `count c` of them
pub record Marks : Type 0 where
  pub parts : ℕ
  pub positive : 0 < parts
  pub first : ℤ
  pub last : ℤ
  pub count : ℤ → ℤ

-- so many parts, as a number
abbrev pub counted : Marks → ℤ → Number
counted m n = fraction n m.parts m.positive

unfoldable pub marked : Marks → ℤ → Place
marked m c = cond (int_lt c m.first) −∞ (cond (int_lt m.last c) +∞ (at (counted m (m.count c))))

-- how many parts the code c counts, and none where its place is infinite
abbrev pub Counted : Marks → ℤ → Option ℤ → Type 0
Counted m c None = (x : Number) → marked m c ≢ at x
Counted m c (Some n) = marked m c ≡ at (counted m n)

-- the same of two codes, and none where either place is infinite
abbrev pub CountedBoth : Marks → ℤ → ℤ → Option (ℤ × ℤ) → Type 0
CountedBoth m a b None = (x y : Number) → marked m a ≡ at x → marked m b ≢ at y
CountedBoth m a b (Some n) = (marked m a ≡ at (counted m n.0)) × (marked m b ≡ at (counted m n.1))
