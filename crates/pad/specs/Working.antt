-- What a list of instructions does to two piles and a board. One text serves the pad and its rivals: they differ in what may be put where the outcomes are a given set. Assumes nothing.
--     Reading      the places of a scale, and what may be put
--     tightest     the pad's reading: every range is the hull of its outcomes, every verdict allows exactly its truths
--     Step         one instruction       Steps     one after the other       Works      a whole sheet, from empty piles to empty piles
use Rattle.std.specs.Prelude.{◌≡◌, Bool, not, ◌&&◌, ◌||◌, List, [], ◌∷◌, ℤ, Some}
use Rattle.number.specs.Number.{Number}
use Rattle.number.specs.Place.{Place, Sums, Differences, Products, Quotients}
use Rattle.range.specs.declared.range.Range.{Range}
use Rattle.range.specs.declared.verdict.Verdict.{Verdict}
use Rattle.range.specs.Held.{Holds}
use Rattle.range.specs.Hull.{Hull}
use Rattle.range.specs.Outcomes.{Constant, Negations, Squares, Quotients⁻, Quotients⁺, Lesser, Greater, Either, Both, Picked}
use Rattle.range.specs.Truths.{Allows, Exactly, Comparisons, Less, IsAtMost, Equal, OfTruth, OfTruths}
use Rattle.sheet.specs.declared.instruction.Instruction.{Instruction}
use Rattle.sheet.specs.declared.instruction.Instruction.TheVariants as I
use Rattle.pad.specs.declared.board.Board.{Board}
use Rattle.pad.specs.Boards.{line_at, with_line, with_flag}

-- the two piles, the newest first, and the board
pub record State : Type 0 where
  pub ranges : List Range
  pub verdicts : List Verdict
  pub board : Board

abbrev pub state : List Range → List Verdict → Board → State
state rs vs b = record { ranges = rs; verdicts = vs; board = b }

pub record Reading : Type 1 where
  pub places : ℤ → Place
  pub Put : (Number → Type 0) → Range → Type 0
  pub PutVerdict : (Bool → Type 0) → Verdict → Type 0

abbrev pub tightest : (ℤ → Place) → Reading
tightest p = record { places = p; Put = Hull p; PutVerdict = Exactly }

module _ (ρ : Reading) where
  open ρ use {places, Put, PutVerdict}

  -- takes the top range y, and puts one round the set that is made of it
  abbrev pub One : ((Number → Type 0) → Number → Type 0) → State → State → Type 0
  One O s t = (y r : Range) × (rest : List Range) × (s.ranges ≡ y ∷ rest) × Put (O (Holds places y)) r × (t ≡ state (r ∷ rest) s.verdicts s.board)

  -- takes y and, from below it, x
  abbrev pub Two : ((Number → Type 0) → (Number → Type 0) → Number → Type 0) → State → State → Type 0
  Two O s t = (x y r : Range) × (rest : List Range) × (s.ranges ≡ y ∷ (x ∷ rest)) × Put (O (Holds places x) (Holds places y)) r × (t ≡ state (r ∷ rest) s.verdicts s.board)

  abbrev pub Compare : (Number → Number → Bool → Type 0) → State → State → Type 0
  Compare C s t = (x y : Range) × (v : Verdict) × (rest : List Range) × (s.ranges ≡ y ∷ (x ∷ rest)) × PutVerdict (Comparisons C (Holds places x) (Holds places y)) v × (t ≡ state rest (v ∷ s.verdicts) s.board)

  abbrev pub Combine : (Bool → Bool → Bool) → State → State → Type 0
  Combine f s t = (u v w : Verdict) × (rest : List Verdict) × (s.verdicts ≡ v ∷ (u ∷ rest)) × PutVerdict (OfTruths f (Allows u) (Allows v)) w × (t ≡ state s.ranges (w ∷ rest) s.board)

  abbrev pub Step : Instruction → State → State → Type 0
  Step (I.Line a) s t = (x r : Range) × (line_at s.board a ≡ Some x) × Put (Holds places x) r × (t ≡ state (r ∷ s.ranges) s.verdicts s.board)
  Step (I.Constant f) s t = (r : Range) × Put (Constant f) r × (t ≡ state (r ∷ s.ranges) s.verdicts s.board)
  Step (I.Keep a) s t = (y r : Range) × (rest : List Range) × (s.ranges ≡ y ∷ rest) × Put (Holds places y) r × (t ≡ state rest s.verdicts (with_line s.board a r))
  Step (I.Flag a) s t = (v w : Verdict) × (rest : List Verdict) × (s.verdicts ≡ v ∷ rest) × PutVerdict (Allows v) w × (t ≡ state s.ranges rest (with_flag s.board a w))
  Step I.Again s t = (y q r : Range) × (rest : List Range) × (s.ranges ≡ y ∷ rest) × Put (Holds places y) q × Put (Holds places y) r × (t ≡ state (r ∷ (q ∷ rest)) s.verdicts s.board)
  Step I.Plus s t = Two Sums s t
  Step I.Minus s t = Two Differences s t
  Step I.Times s t = Two Products s t
  Step I.Over s t = Two Quotients s t
  Step I.Parted s t = (x y q r : Range) × (rest : List Range) × (s.ranges ≡ y ∷ (x ∷ rest)) × Put (Quotients⁻ (Holds places x) (Holds places y)) q × Put (Quotients⁺ (Holds places x) (Holds places y)) r × (t ≡ state (r ∷ (q ∷ rest)) s.verdicts s.board)
  Step I.Negate s t = One Negations s t
  Step I.Square s t = One Squares s t
  Step I.Lesser s t = Two Lesser s t
  Step I.Greater s t = Two Greater s t
  Step I.Join s t = Two Either s t
  Step I.Meet s t = Two Both s t
  Step I.Less s t = Compare Less s t
  Step I.AtMost s t = Compare IsAtMost s t
  Step I.Equal s t = Compare Equal s t
  Step I.And s t = Combine ◌&&◌ s t
  Step I.Or s t = Combine ◌||◌ s t
  Step I.Not s t = (v w : Verdict) × (rest : List Verdict) × (s.verdicts ≡ v ∷ rest) × PutVerdict (OfTruth not (Allows v)) w × (t ≡ state s.ranges (w ∷ rest) s.board)
  Step I.Pick s t = (v : Verdict) × (x y r : Range) × (more : List Verdict) × (rest : List Range) × (s.verdicts ≡ v ∷ more) × (s.ranges ≡ y ∷ (x ∷ rest)) × Put (Picked (Allows v) (Holds places x) (Holds places y)) r × (t ≡ state (r ∷ rest) more s.board)

  abbrev pub Steps : List Instruction → State → State → Type 0
  Steps [] s t = t ≡ s
  Steps (i ∷ is) s t = (m : State) × Step i s m × Steps is m t

  abbrev pub Works : List Instruction → Board → Board → Type 0
  Works is b c = Steps is (state [] [] b) (state [] [] c)
