-- A board: lines 0 to 31 and flags 0 to 31, each set to something or unset. Assumes nothing.
use Rattle.std.specs.Prelude.{ℕ, Bool, List, map, replicate, is_some, Some, None, Option, slice_index_or, slice_set}
use Rattle.range.specs.declared.range.Range.{Range}
use Rattle.range.specs.declared.verdict.Verdict.{Verdict}
use Rattle.pad.specs.declared.board.Board.{Board}

-- nothing is set
abbrev pub fresh : Board
fresh = record { lines = record { cells = replicate 32 None }; flags = record { cells = replicate 32 None } }

abbrev pub line_at : Board → ℕ → Option Range
line_at b a = slice_index_or b.lines.cells a None

abbrev pub flag_at : Board → ℕ → Option Verdict
flag_at b a = slice_index_or b.flags.cells a None

-- which lines, and which flags, are set
abbrev pub lines_set : Board → List Bool
lines_set b = map is_some b.lines.cells

abbrev pub flags_set : Board → List Bool
flags_set b = map is_some b.flags.cells

-- one line, or one flag, is set, and nothing else changes
abbrev pub with_line : Board → ℕ → Range → Board
with_line b a r = record { lines = record { cells = slice_set b.lines.cells a (Some r) }; flags = b.flags }

abbrev pub with_flag : Board → ℕ → Verdict → Board
with_flag b a v = record { lines = b.lines; flags = record { cells = slice_set b.flags.cells a (Some v) } }
