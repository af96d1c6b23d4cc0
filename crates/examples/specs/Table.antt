-- Worked examples, as a table of rows: a scale and a claim. Assumes nothing.
use Rattle.std.specs.Prelude.{ℕ, List, [], ◌∷◌, ℤ, pos, neg_ℤ, Some}
use Rattle.std.proofs.Common.{arith}
use Rattle.number.specs.Place.{Place}
use Rattle.scale.specs.declared.ruled.RuledScale.{RuledScale}
use Rattle.scale.specs.Ruled.{on_ruled}
use Rattle.scale.specs.Sliding.{sliding}
use Rattle.range.specs.declared.entry.Entry.{Entry}
use Rattle.range.specs.declared.entry.Entry.TheVariants.{Bounds}
use Rattle.range.specs.declared.range.Range.{Range}
use Rattle.range.specs.declared.verdict.Verdict.TheVariants.{Certain, Open}
use Rattle.range.specs.Held.{nothing}
use Rattle.examples.specs.declared.Operation.TheVariants.{Added, Multiplied, Squared, Divided, DividedNegative, DividedPositive}
use Rattle.examples.specs.declared.Comparison.TheVariants.{Less, AtMost}
use Rattle.examples.specs.declared.Claim.{Claim}
use Rattle.examples.specs.declared.Claim.TheVariants.{Enters, Works, Compares}
use Rattle.examples.specs.Claims.{Claims}

pub data Scale : Type 0 where
  rule : RuledScale → Scale
  slide : Scale

abbrev pub places : Scale → ℤ → Place
places (rule s) = on_ruled s
places slide = sliding

pub record Row : Type 0 where
  pub scale : Scale
  pub claim : Claim

-- WHAT A ROW SAYS
abbrev pub Says : Row → Type 0
Says r = Claims (places r.scale) r.claim

-- what holds of every row of a list
pub data Every (P : Row → Type 0) : List Row → Type 0 where
  none : Every P []
  more : {r : Row} {rs : List Row} → P r → Every P rs → Every P (r ∷ rs)

-- ---- the scales, with 10 marks to each 1, with one, and sliding
abbrev pub ruled : RuledScale → Claim → Row
ruled s c = record { scale = rule s; claim = c }

abbrev pub tenths : Claim → Row
tenths = ruled (record { division = 10; ok = (omega arith, omega arith) })

abbrev pub ones : Claim → Row
ones = ruled (record { division = 1; ok = (omega arith, omega arith) })

abbrev pub slides : Claim → Row
slides c = record { scale = slide; claim = c }

-- ---- the operands
abbrev pub range : ℤ → ℤ → Range
range l u = record { lower = l; upper = u }

abbrev pub point : ℤ → Range
point c = range c c

abbrev pub minus : ℕ → ℤ
minus n = neg_ℤ (pos n)

-- p / q, entered as both bounds
abbrev pub entered : ℤ → ℕ → Entry
entered p q = Bounds (Some (record { p = p; q = q })) (Some (record { p = p; q = q }))

-- the told infinite codes in tenths
abbrev pub low : ℤ
low = minus 21474836471

abbrev pub high : ℤ
high = pos 21474836471

-- THE TABLE; in tenths the code 10 is 1
abbrev pub table : List Row
table =
    tenths (Enters (entered (pos 1) 3) (range (pos 3) (pos 4)))
    ∷ tenths (Enters (entered (minus 1) 3) (range (minus 4) (minus 3)))
    ∷ tenths (Works Multiplied (point (pos 3)) (point (pos 5)) (range (pos 1) (pos 2)))
    ∷ tenths (Works Multiplied (range (minus 20) (pos 30)) (range (minus 50) (pos 40)) (range (minus 150) (pos 120)))
    ∷ tenths (Works Multiplied (point (pos 0)) (range low high) (point (pos 0)))
    ∷ tenths (Works DividedNegative (range (pos 10) (pos 20)) (range (minus 50) (pos 30)) (range low (minus 2)))
    ∷ tenths (Works DividedPositive (range (pos 10) (pos 20)) (range (minus 50) (pos 30)) (range (pos 3) high))
    ∷ tenths (Works Divided (point (pos 10)) (point (pos 0)) nothing)
    ∷ tenths (Works Divided (point (pos 10)) (range (pos 10) high) (range (pos 0) (pos 10)))
    ∷ tenths (Works Squared (range (minus 20) (pos 30)) (range (minus 20) (pos 30)) (range (minus 60) (pos 90)))
    ∷ ones (Works Added (point (pos 2147483647)) (point (pos 1)) (range (pos 2147483647) (pos 2147483648)))
    ∷ slides (Enters (entered (pos 8193) 4096) (range (pos 8192) (pos 8193)))
    ∷ tenths (Compares Less (range (pos 10) (pos 20)) (range (pos 20) (pos 30)) Open)
    ∷ tenths (Compares AtMost (range (pos 10) (pos 20)) (range (pos 20) (pos 30)) Certain)
    ∷ []
