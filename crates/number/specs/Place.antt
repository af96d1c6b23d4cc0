-- Places: minus infinity, a number or plus infinity; and sets of numbers. Assumes nothing.
--     ◌⊑◌                   not above
--     opp                   the place mirrored at 0
--     IsLowerBound q S      q is not above any number of S        IsUpperBound q S       q is not below any
--     Inf S i               i is the greatest lower bound of S      Sup S i              i is the least upper bound
--     Between a b           the numbers from a to b; an infinity is never one of them
--     Outcomes f X Y        what f comes to, for every choice of members
use Rattle.std.specs.Prelude.{◌↔◌}
use Rattle.number.specs.Number.{Number, ◌≼◌, ◌≺◌, ◌≃◌, plus, minus, neg, times, nought, over}

pub data Place : Type 0 where
  −∞ : Place
  at : Number → Place
  +∞ : Place

abbrev pub NotAbove : Place → Place → Type 0
NotAbove −∞ q = Unit {0}
NotAbove (at x) −∞ = ⊥
NotAbove (at x) (at y) = x ≼ y
NotAbove (at x) +∞ = Unit {0}
NotAbove +∞ −∞ = ⊥
NotAbove +∞ (at y) = ⊥
NotAbove +∞ +∞ = Unit {0}

-- a record, so that the two places can be read off a proof
infix 40 ◌⊑◌
pub record ◌⊑◌ (p q : Place) : Type 0 where
  pub le : NotAbove p q

abbrev pub opp : Place → Place
opp −∞ = +∞
opp (at x) = at (neg x)
opp +∞ = −∞

-- ---- sets
abbrev pub Set : Type 1
Set = Number → Type 0

abbrev pub IsLowerBound : Place → Set → Type 0
IsLowerBound q S = (x : Number) → S x → q ⊑ at x

abbrev pub IsUpperBound : Place → Set → Type 0
IsUpperBound q S = (x : Number) → S x → at x ⊑ q

pub record Inf (S : Number → Type 0) (i : Place) : Type 0 where
  pub inf : (q : Place) → (IsLowerBound q S ↔ q ⊑ i)

pub record Sup (S : Number → Type 0) (i : Place) : Type 0 where
  pub sup : (q : Place) → (IsUpperBound q S ↔ i ⊑ q)

abbrev pub Inhabited : Set → Type 0
Inhabited S = (x : Number) × S x

abbrev pub Between : Place → Place → Set
Between a b x = (a ⊑ at x) × (at x ⊑ b)

-- the numbers whose negation is in S
abbrev pub Negated : Set → Set
Negated S x = S (neg x)

-- the members on either side of 0, and those that are not 0
abbrev pub PositivePart : Set → Set
PositivePart Y y = Y y × (nought ≺ y)

abbrev pub NegativePart : Set → Set
NegativePart Y y = Y y × (y ≺ nought)

abbrev pub NonzeroPart : Set → Set
NonzeroPart Y y = Y y × ¬ (y ≃ nought)

-- ---- outcomes
abbrev pub Outcomes : (Number → Number → Number) → Set → Set → Set
Outcomes f X Y z = (x : Number) × (y : Number) × X x × Y y × (f x y ≃ z)

abbrev pub Sums : Set → Set → Set
Sums = Outcomes plus

abbrev pub Differences : Set → Set → Set
Differences = Outcomes minus

abbrev pub Products : Set → Set → Set
Products = Outcomes times

abbrev pub Quotients : Set → Set → Set
Quotients X Y = Outcomes over X (NonzeroPart Y)
