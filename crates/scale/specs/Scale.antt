-- A scale, as all code above it knows it: the place of each code. Assumes nothing.
--     Ordered p                   what every scale keeps
--     Told p low origin high      the three codes that it tells
--     Floor p q c                 c is the greatest code whose place is not above q
--     Ceiling p q c               c is the least code whose place is not below q
--     Coarser p q                 every place of q is a place of p
use Rattle.std.specs.Prelude.{◌≡◌, ℤ, ◌≤ℤ◌, FitsSigned}
use Rattle.std.specs.Int.{w64}
use Rattle.number.specs.Number.{Number, ◌≃◌, nought}
use Rattle.number.specs.Place.{Place, −∞, at, +∞, ◌⊑◌}

abbrev pub Places : Type 0
Places = ℤ → Place

-- a code is a signed number of 64 bits
abbrev pub Code : ℤ → Type 0
Code c = FitsSigned w64 c

pub record Floor (p : ℤ → Place) (q : Place) (c : ℤ) : Type 0 where
  pub code : Code c
  pub not_above : p c ⊑ q
  pub greatest : (d : ℤ) → Code d → p d ⊑ q → d ≤ℤ c

pub record Ceiling (p : ℤ → Place) (q : Place) (c : ℤ) : Type 0 where
  pub code : Code c
  pub not_below : q ⊑ p c
  pub least : (d : ℤ) → Code d → q ⊑ p d → c ≤ℤ d

-- the place of the code c is the number 0
pub record Zero (p : ℤ → Place) (c : ℤ) : Type 0 where
  pub code : Code c
  pub number : Number
  pub place : p c ≡ at number
  pub nil : number ≃ nought

pub record Ordered (p : ℤ → Place) : Type 0 where
  -- a lower code never has the higher place
  pub monotone : (c d : ℤ) → Code c → Code d → c ≤ℤ d → p c ⊑ p d
  -- two codes with numbers never have the same number
  pub apart : (c d : ℤ) (x y : Number) → Code c → Code d → p c ≡ at x → p d ≡ at y → x ≃ y → c ≡ d
  pub some_minus : (c : ℤ) × Code c × (p c ≡ −∞)
  pub some_zero : (c : ℤ) × Zero p c
  pub some_plus : (c : ℤ) × Code c × (p c ≡ +∞)

pub record Told (p : ℤ → Place) (low origin high : ℤ) : Type 0 where
  pub low_code : Code low
  pub low_place : p low ≡ −∞
  pub low_greatest : (c : ℤ) → Code c → p c ≡ −∞ → c ≤ℤ low
  pub origin_zero : Zero p origin
  pub high_code : Code high
  pub high_place : p high ≡ +∞
  pub high_least : (c : ℤ) → Code c → p c ≡ +∞ → high ≤ℤ c

-- p is as fine as q: every place of q is a place of p, whichever way its number is written. Then q is coarser than p, also where both have the same places
abbrev pub Coarser : (ℤ → Place) → (ℤ → Place) → Type 0
Coarser p q = (d : ℤ) → Code d → (c : ℤ) × Code c × (p c ⊑ q d) × (q d ⊑ p c)
