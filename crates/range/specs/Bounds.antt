-- The numbers within two bounds, each a fraction or absent. Assumes nothing.
use Rattle.std.specs.Prelude.{◌≡◌, Some, None, Option}
use Rattle.number.specs.declared.Fraction.{Fraction}
use Rattle.number.specs.Number.{Number, ◌≼◌}
use Rattle.number.specs.Fraction.{value}

-- an absent bound bounds nothing; a fraction without a value admits no number
abbrev pub NotBelow : Option Fraction → Number → Type 0
NotBelow None z = Unit {0}
NotBelow (Some f) z = (x : Number) × (value f ≡ Some x) × (x ≼ z)

abbrev pub NotAbove : Option Fraction → Number → Type 0
NotAbove None z = Unit {0}
NotAbove (Some f) z = (x : Number) × (value f ≡ Some x) × (z ≼ x)

abbrev pub Within : Option Fraction → Option Fraction → Number → Type 0
Within l u z = NotBelow l z × NotAbove u z

-- the number of a bound
abbrev pub bound_value : Option Fraction → Option Number
bound_value None = None
bound_value (Some f) = value f
