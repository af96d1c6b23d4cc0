-- The numbers that a range holds on a scale. Assumes nothing.
use Rattle.std.specs.Prelude.{ℤ, pos, negsuc}
use Rattle.number.specs.Number.{Number}
use Rattle.number.specs.Place.{Place, Between}
use Rattle.range.specs.declared.range.Range.{Range}

-- any two codes may stand as ends; they stand for blank if no number lies between their places
abbrev pub Holds : (ℤ → Place) → Range → Number → Type 0
Holds p r = Between (p r.lower) (p r.upper)

-- the one blank that every operation gives: the greatest code below, the least above
abbrev pub nothing : Range
nothing = record { lower = pos 9223372036854775807; upper = negsuc 9223372036854775807 }
