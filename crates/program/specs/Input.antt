-- The input: a count byte, then so many entries of 18 bytes: line, kind, lower p and q, upper p and q, 32 bits each, little-endian; then a sheet. Assumes nothing.
use Rattle.std.specs.Prelude.{ℕ, ◌+◌, ◌*◌, Bool, cond, ◌&&◌, List, length, take, drop, Some, None, ◌==◌, nat_le, slice_index}
use Rattle.number.specs.declared.Fraction.{Fraction}
use Rattle.range.specs.declared.entry.Entry.{Entry}
use Rattle.range.specs.declared.entry.Entry.TheVariants.{Blank, Bounds}
use Rattle.number.specs.Bytes.{fraction_at}

-- how many entries there are
abbrev pub count_of : List ℕ → ℕ
count_of bs = slice_index bs 0

-- kind 0 has both bounds, 1 lacks the lower, 2 the upper, 3 both, 4 is blank
abbrev pub entry_by : ℕ → Fraction → Fraction → Entry
entry_by k l u = cond (k == 0) (Bounds (Some l) (Some u)) (cond (k == 1) (Bounds None (Some u)) (cond (k == 2) (Bounds (Some l) None) (cond (k == 3) (Bounds None None) Blank)))

-- where the entry i begins, and after the last one the sheet
abbrev pub start : ℕ → ℕ
start i = 1 + 18 * i

-- what there is from there on
abbrev pub rest_of : List ℕ → ℕ → List ℕ
rest_of bs i = drop (start i) bs

-- the bytes begin with a whole entry, and its kind is at most 4
abbrev pub is_entry : List ℕ → Bool
is_entry bs = nat_le 18 (length bs) && nat_le (slice_index bs 1) 4

abbrev pub line_of : List ℕ → ℕ → ℕ
line_of bs i = slice_index bs (start i)

abbrev pub kind_of : List ℕ → ℕ → ℕ
kind_of bs i = slice_index bs (start i + 1)

abbrev pub entry_of : List ℕ → ℕ → Entry
entry_of bs i = entry_by (kind_of bs i) (fraction_at bs (start i + 2)) (fraction_at bs (start i + 10))

-- the bytes of the sheet: those past the first 32769 are not read
unfoldable pub sheet_of : List ℕ → List ℕ
sheet_of bs = take 32769 (drop (start (count_of bs)) bs)
