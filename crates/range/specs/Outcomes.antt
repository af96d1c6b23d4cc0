-- The exact outcomes of the operations on ranges, over every choice of members: sets of numbers. Assumes nothing.
-- Sums, differences, products and quotients are in the crate number.
use Rattle.std.specs.Prelude.{◌≡◌, Bool, true, false, ◌⊎◌, Some}
use Rattle.number.specs.declared.Fraction.{Fraction}
use Rattle.number.specs.Number.{Number, ◌≼◌, ◌≃◌, neg, over}
use Rattle.number.specs.Place.{Outcomes, Products, PositivePart, NegativePart}
use Rattle.number.specs.Fraction.{value}

-- the value of a fraction, however it is written
abbrev pub Constant : Fraction → Number → Type 0
Constant f z = (x : Number) × (value f ≡ Some x) × (x ≃ z)

abbrev pub Negations : (Number → Type 0) → Number → Type 0
Negations Y z = (y : Number) × Y y × (neg y ≃ z)

-- a range times itself, the two factors chosen apart
abbrev pub Squares : (Number → Type 0) → Number → Type 0
Squares Y = Products Y Y

-- quotients by the divisors below 0, and by those above it
abbrev pub Quotients⁻ : (Number → Type 0) → (Number → Type 0) → Number → Type 0
Quotients⁻ X Y = Outcomes over X (NegativePart Y)

abbrev pub Quotients⁺ : (Number → Type 0) → (Number → Type 0) → Number → Type 0
Quotients⁺ X Y = Outcomes over X (PositivePart Y)

-- the lesser and the greater of two numbers
abbrev pub Lesser : (Number → Type 0) → (Number → Type 0) → Number → Type 0
Lesser X Y z = (x : Number) × (y : Number) × X x × Y y × (((x ≼ y) × (x ≃ z)) ⊎ ((y ≼ x) × (y ≃ z)))

abbrev pub Greater : (Number → Type 0) → (Number → Type 0) → Number → Type 0
Greater X Y z = (x : Number) × (y : Number) × X x × Y y × (((y ≼ x) × (x ≃ z)) ⊎ ((x ≼ y) × (y ≃ z)))

-- the numbers in either set, and those in both
abbrev pub Either : (Number → Type 0) → (Number → Type 0) → Number → Type 0
Either X Y z = X z ⊎ Y z

abbrev pub Both : (Number → Type 0) → (Number → Type 0) → Number → Type 0
Both X Y z = X z × Y z

-- the numbers of X where true is allowed, with those of Y where false is
abbrev pub Picked : (Bool → Type 0) → (Number → Type 0) → (Number → Type 0) → Number → Type 0
Picked V X Y z = (V true × X z) ⊎ (V false × Y z)
