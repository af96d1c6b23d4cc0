-- What an operation on ranges answers: the hull of its exact outcomes. Assumes nothing.
use Rattle.std.specs.Prelude.{ℤ}
use Rattle.number.specs.Number.{Number}
use Rattle.number.specs.Place.{Place, Inhabited}
use Rattle.scale.specs.declared.rounding.Rounding.{Rounding}
use Rattle.range.specs.declared.range.Range.{Range}
use Rattle.range.specs.Held.{Holds}
use Rattle.range.specs.Hull.{Hull}
use Rattle.range.specs.Corner.{End}

abbrev pub Unary : (ℤ → Place) → ((Number → Type 0) → Number → Type 0) → Range → Range → Type 0
Unary p F y r = Hull p (F (Holds p y)) r

abbrev pub Binary : (ℤ → Place) → ((Number → Type 0) → (Number → Type 0) → Number → Type 0) → Range → Range → Range → Type 0
Binary p F x y r = Hull p (F (Holds p x) (Holds p y)) r

-- the end of that hull which is rounded so, if there is an outcome
abbrev pub BinaryEnd : (ℤ → Place) → Rounding → ((Number → Type 0) → (Number → Type 0) → Number → Type 0) → Range → Range → ℤ → Type 0
BinaryEnd p r F x y c = Inhabited (F (Holds p x) (Holds p y)) → End p r (F (Holds p x) (Holds p y)) c
