-- Verdicts as sets of truths, their names, and the truths of comparisons and of connectives. Assumes nothing.
use Rattle.std.specs.Prelude.{◌≡◌, ℕ, List, Bool, true, false, not, T, codes}
use Rattle.number.specs.Number.{Number, ◌≼◌, ◌≺◌, ◌≃◌}
use Rattle.range.specs.declared.verdict.Verdict.{Verdict}
use Rattle.range.specs.declared.verdict.Verdict.TheVariants.{Certain, Impossible, Open, Void}

-- the truths of each verdict
abbrev pub allowed : Verdict → Bool → Bool
allowed Certain b = b
allowed Impossible b = not b
allowed Open b = true
allowed Void b = false

abbrev pub Allows : Verdict → Bool → Type 0
Allows v b = T (allowed v b)

-- as it is printed
abbrev pub verdict_name : Verdict → List ℕ
verdict_name Certain = codes "certain"
verdict_name Impossible = codes "impossible"
verdict_name Open = codes "open"
verdict_name Void = codes "void"

-- the verdict allows exactly the truths that occur
pub record Exactly (T : Bool → Type 0) (v : Verdict) : Type 0 where
  pub sound : (b : Bool) → T b → Allows v b
  pub tight : (b : Bool) → Allows v b → T b

-- the truths of a comparison, over every choice of members
abbrev pub Comparisons : (Number → Number → Bool → Type 0) → (Number → Type 0) → (Number → Type 0) → Bool → Type 0
Comparisons C X Y b = (x : Number) × (y : Number) × X x × Y y × C x y b

abbrev pub Less : Number → Number → Bool → Type 0
Less x y true = x ≺ y
Less x y false = y ≼ x

abbrev pub IsAtMost : Number → Number → Bool → Type 0
IsAtMost x y true = x ≼ y
IsAtMost x y false = y ≺ x

abbrev pub Equal : Number → Number → Bool → Type 0
Equal x y true = x ≃ y
Equal x y false = ¬ (x ≃ y)

-- the truths of a connective
abbrev pub OfTruth : (Bool → Bool) → (Bool → Type 0) → Bool → Type 0
OfTruth f V b = (v : Bool) × V v × (f v ≡ b)

abbrev pub OfTruths : (Bool → Bool → Bool) → (Bool → Type 0) → (Bool → Type 0) → Bool → Type 0
OfTruths f U V b = (u : Bool) × (v : Bool) × U u × V v × (f u v ≡ b)
