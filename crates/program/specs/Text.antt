-- What is printed of a code, a line, a flag, a board and a refusal. Assumes nothing.
use Rattle.std.specs.Prelude.{◌≡◌, ℕ, zero, suc, cond, List, [], ◌++◌, ℤ, Some, None, codes, decimal, int_lt, unwrap_or, Option}
use Rattle.std.specs.Fmt.{signed_decimal}
use Rattle.fault.specs.declared.Refusal.{Refusal}
use Rattle.fault.specs.Told.{refusal_name}
use Rattle.number.specs.Place.{Place, −∞, at, +∞}
use Rattle.range.specs.declared.range.Range.{Range}
use Rattle.range.specs.declared.verdict.Verdict.{Verdict}
use Rattle.range.specs.Truths.{verdict_name}
use Rattle.pad.specs.declared.board.Board.{Board}
use Rattle.pad.specs.Boards.{line_at, flag_at}
use Rattle.pad.specs.Calls.{Shown}

-- a code, or an infinity where its place is infinite
abbrev pub code_text : Place → ℤ → List ℕ
code_text −∞ c = codes "-inf"
code_text (at x) c = signed_decimal c
code_text +∞ c = codes "+inf"

-- the ends of a range, unless they are out of order
abbrev pub codes_of : Range → Option Range
codes_of r = cond (int_lt r.upper r.lower) None (Some r)

-- what is shown of a line: the two ends, or `blank`
abbrev pub range_text : (ℤ → Place) → Option Range → List ℕ
range_text p None = codes "blank"
range_text p (Some r) = code_text (p r.lower) r.lower ++ (codes " " ++ code_text (p r.upper) r.upper)

abbrev pub line_text : (ℤ → Place) → ℕ → Option Range → List ℕ
line_text p n o = codes "line " ++ (decimal n ++ (codes " " ++ (range_text p o ++ codes "\n")))

abbrev pub flag_text : ℕ → Verdict → List ℕ
flag_text n v = codes "flag " ++ (decimal n ++ (codes " " ++ (verdict_name v ++ codes "\n")))

-- what is printed of the line n, if it is set; of the flag n
abbrev pub LineText : (ℤ → Place) → ℕ → Option Range → List ℕ → Type 0
LineText p n None t = t ≡ []
LineText p n (Some r) t = (o : Option Range) × Shown p r o × (t ≡ line_text p n o)

abbrev pub FlagText : ℕ → Option Verdict → List ℕ → Type 0
FlagText n None t = t ≡ []
FlagText n (Some v) t = t ≡ flag_text n v

-- the text of what is set, by the text of each
abbrev pub text_of : {A : Type 0} → (A → Option (List ℕ)) → Option A → List ℕ
text_of text None = []
text_of text (Some x) = unwrap_or (text x) []

-- u is the text of what is told of n
abbrev pub Told : {A : Type 0} → (ℕ → Option A → Type 0) → (A → Option (List ℕ)) → ℕ → List ℕ → Type 0
Told {A} tells text n u = (o : Option A) × tells n o × (u ≡ text_of text o)

-- the texts of the first n of a row, one after the other
unfoldable pub Joined : (ℕ → List ℕ → Type 0) → ℕ → List ℕ → Type 0
Joined P zero t = t ≡ []
Joined P (suc n) t = (s u : List ℕ) × Joined P n s × P n u × (t ≡ s ++ u)

abbrev pub LinesText : (ℤ → Place) → Board → ℕ → List ℕ → Type 0
LinesText p b = Joined (λ n. LineText p n (line_at b n))

abbrev pub FlagsText : Board → ℕ → List ℕ → Type 0
FlagsText b = Joined (λ n. FlagText n (flag_at b n))

-- the set lines in ascending order, then the set flags
abbrev pub BoardText : (ℤ → Place) → Board → List ℕ → Type 0
BoardText p b t = (s u : List ℕ) × LinesText p b 32 s × FlagsText b 32 u × (t ≡ s ++ u)

abbrev pub refusal_text : Refusal → List ℕ
refusal_text f = refusal_name f ++ codes "\n"
