-- The hull of a set of numbers: the tightest range that a scale can write round it. Assumes nothing.
use Rattle.std.specs.Prelude.{◌≡◌, ℤ, ◌≤ℤ◌}
use Rattle.number.specs.Number.{Number}
use Rattle.number.specs.Place.{Place, IsLowerBound, IsUpperBound}
use Rattle.scale.specs.Scale.{Code}
use Rattle.range.specs.declared.range.Range.{Range}
use Rattle.range.specs.Held.{nothing}

-- the greatest code whose place is not above any number of S
pub record Lowest (p : ℤ → Place) (S : Number → Type 0) (c : ℤ) : Type 0 where
  pub code : Code c
  pub bound : IsLowerBound (p c) S
  pub greatest : (d : ℤ) → Code d → IsLowerBound (p d) S → d ≤ℤ c

-- the least code whose place is not below any number of S
pub record Highest (p : ℤ → Place) (S : Number → Type 0) (c : ℤ) : Type 0 where
  pub code : Code c
  pub bound : IsUpperBound (p c) S
  pub least : (d : ℤ) → Code d → IsUpperBound (p d) S → c ≤ℤ d

-- which case it is can be told: the set is empty, or here is a member
pub data Hull (p : ℤ → Place) (S : Number → Type 0) (r : Range) : Type 0 where
  blank : ((x : Number) → S x → ⊥) → r ≡ nothing → Hull p S r
  ends : (x : Number) → S x → Lowest p S r.lower → Highest p S r.upper → Hull p S r
