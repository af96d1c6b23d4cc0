-- A test of claims, which computes. Assumes nothing.
--     not_above           a place is not above another: by cross multiplication
--     Extent              places that decide the bounds of a set: a place bounds the set below if it is above none of the lows, and above if it is below none of the highs
--     extent              of the outcomes of an operation on two ranges, from their ends; none where there is no outcome
--     hull_test           whether a range is the hull of what has the extent: each end bounds the set, and the next code does not
use Rattle.std.proofs.Common.{Bool, true, false, cond, not, ◌&&◌, List, [], ◌∷◌, ◌++◌, ℤ, pos, negsuc, ◌+ℤ◌, ◌-ℤ◌, Some, None, Option}
use lib.Signed.{lt_z, le_z}
use Rattle.number.specs.declared.Fraction.{Fraction}
use Rattle.number.specs.Number.{Number, below, nought}
use Rattle.number.specs.Place.{Place, −∞, at, +∞}
use Rattle.number.specs.Ends.{◌⊹◌, ◌⊙◌, recip⁺, recip⁻}
use Rattle.number.specs.Fraction.{value}
use Rattle.range.specs.declared.entry.Entry.{Entry}
use Rattle.range.specs.declared.entry.Entry.TheVariants.{Blank, Bounds}
use Rattle.range.specs.declared.range.Range.{Range}
use Rattle.range.specs.declared.verdict.Verdict.{Verdict}
use Rattle.range.specs.Held.{nothing}
use Rattle.range.specs.Truths.{allowed}
use Rattle.examples.specs.declared.Operation.{Operation}
use Rattle.examples.specs.declared.Operation.TheVariants.{Added, Multiplied, Squared, Divided, DividedNegative, DividedPositive}
use Rattle.examples.specs.declared.Comparison.{Comparison}
use Rattle.examples.specs.declared.Comparison.TheVariants.{Less, AtMost}
use Rattle.examples.specs.declared.Claim.{Claim}
use Rattle.examples.specs.declared.Claim.TheVariants.{Enters, Works, Compares}
use Rattle.examples.specs.Table.{places, Row}

-- ---- places
abbrev pub not_above : Place → Place → Bool
not_above −∞ q = true
not_above (at x) −∞ = false
not_above (at x) (at y) = not (below y x)
not_above (at x) +∞ = true
not_above +∞ −∞ = false
not_above +∞ (at y) = false
not_above +∞ +∞ = true

abbrev pub every : (Place → Bool) → List Place → Bool
every f [] = true
every f (p ∷ ps) = f p && every f ps

-- some number lies between the places
abbrev pub holds : Place → Place → Bool
holds a b = not_above a b && (not (not_above +∞ a) && not (not_above b −∞))

abbrev pub holds⁺ : Place → Place → Bool
holds⁺ a b = holds a b && not (not_above b (at nought))

abbrev pub holds⁻ : Place → Place → Bool
holds⁻ a b = holds a b && not (not_above (at nought) a)

-- ---- extents
pub record Extent : Type 0 where
  pub lows : List Place
  pub highs : List Place

abbrev pub one : Place → Place → Extent
one a b = record { lows = a ∷ []; highs = b ∷ [] }

-- the four products of ends
abbrev pub corners : Place → Place → Place → Place → Extent
corners a b c d =
    let ps = a ⊙ c ∷ a ⊙ d ∷ b ⊙ c ∷ b ⊙ d ∷ [] in
    record { lows = ps; highs = ps }

-- of the numbers in either of two sets
abbrev pub joined : Option Extent → Option Extent → Option Extent
joined None f = f
joined (Some e) None = Some e
joined (Some e) (Some f) = Some (record { lows = e.lows ++ f.lows; highs = e.highs ++ f.highs })

abbrev pub given : Bool → Extent → Option Extent
given b e = cond b (Some e) None

abbrev pub products : Place → Place → Place → Place → Option Extent
products a b c d = given (holds a b && holds c d) (corners a b c d)

abbrev pub quotients⁻ : Place → Place → Place → Place → Option Extent
quotients⁻ a b c d = given (holds a b && holds⁻ c d) (corners a b (recip⁻ d) (recip⁻ c))

abbrev pub quotients⁺ : Place → Place → Place → Place → Option Extent
quotients⁺ a b c d = given (holds a b && holds⁺ c d) (corners a b (recip⁺ d) (recip⁺ c))

abbrev pub extent : Operation → Place → Place → Place → Place → Option Extent
extent Added a b c d = given (holds a b && holds c d) (one (a ⊹ c) (b ⊹ d))
extent Multiplied a b c d = products a b c d
extent Squared a b c d = products c d c d
extent Divided a b c d = joined (quotients⁻ a b c d) (quotients⁺ a b c d)
extent DividedNegative a b c d = quotients⁻ a b c d
extent DividedPositive a b c d = quotients⁺ a b c d

-- the place of a bound: none where the fraction has no value, and the given one where the bound is absent
abbrev pub place_of : Option Number → Option Place
place_of None = None
place_of (Some x) = Some (at x)

abbrev pub bound_place : Place → Option Fraction → Option Place
bound_place q None = Some q
bound_place q (Some f) = place_of (value f)

abbrev pub within : Option Place → Option Place → Option Extent
within None b = None
within (Some a) None = None
within (Some a) (Some b) = given (holds a b) (one a b)

abbrev pub entry_extent : Entry → Option Extent
entry_extent Blank = None
entry_extent (Bounds l u) = within (bound_place −∞ l) (bound_place +∞ u)

-- ---- hulls
abbrev pub same : ℤ → ℤ → Bool
same c d = le_z c d && le_z d c

abbrev pub code : ℤ → Bool
code c = le_z (negsuc 9223372036854775807) c && le_z c (pos 9223372036854775807)

abbrev pub bounds_low : List Place → Place → Bool
bounds_low ps q = every (not_above q) ps

abbrev pub bounds_high : List Place → Place → Bool
bounds_high ps q = every (λ p. not_above p q) ps

abbrev pub lowest : (ℤ → Place) → List Place → ℤ → Bool
lowest p ps c = code c && (bounds_low ps (p c) && not (bounds_low ps (p (c +ℤ pos 1))))

abbrev pub highest : (ℤ → Place) → List Place → ℤ → Bool
highest p ps c = code c && (bounds_high ps (p c) && not (bounds_high ps (p (c -ℤ pos 1))))

abbrev pub hull_test : (ℤ → Place) → Option Extent → Range → Bool
hull_test p None r = same r.lower nothing.lower && same r.upper nothing.upper
hull_test p (Some e) r = lowest p e.lows r.lower && highest p e.highs r.upper

-- ---- verdicts
abbrev pub alike : Bool → Bool → Bool
alike true b = b
alike false b = not b

-- whether a comparison can be true, and whether it can be false, by the codes
abbrev pub can_be : Comparison → Range → Range → Bool
can_be Less x y = lt_z x.lower y.upper
can_be AtMost x y = le_z x.lower y.upper

abbrev pub can_fail : Comparison → Range → Range → Bool
can_fail Less x y = le_z y.lower x.upper
can_fail AtMost x y = lt_z y.lower x.upper

abbrev pub codes : Range → Bool
codes r = code r.lower && code r.upper

abbrev pub verdict_test : Bool → Comparison → Range → Range → Verdict → Bool
verdict_test true c x y v = (codes x && codes y) && (alike (allowed v true) (can_be c x y) && alike (allowed v false) (can_fail c x y))
verdict_test false c x y v = not (allowed v true) && not (allowed v false)

-- ---- claims and rows
abbrev pub held : (ℤ → Place) → Range → Bool
held p r = holds (p r.lower) (p r.upper)

abbrev pub claim_test : (ℤ → Place) → Claim → Bool
claim_test p (Enters e r) = hull_test p (entry_extent e) r
claim_test p (Works o x y r) = hull_test p (extent o (p x.lower) (p x.upper) (p y.lower) (p y.upper)) r
claim_test p (Compares c x y v) = verdict_test (held p x && held p y) c x y v

abbrev pub passes : Row → Bool
passes r = claim_test (places r.scale) r.claim

abbrev pub all : List Row → Bool
all [] = true
all (r ∷ rs) = passes r && all rs
