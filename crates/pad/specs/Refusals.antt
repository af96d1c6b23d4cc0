-- Which rule work and show break first, from which lines and flags are set. Assumes nothing.
use Rattle.std.specs.Prelude.{ℕ, Bool, false, not, ◌&&◌, List, None, Option, nat_le, slice_index_or}
use Rattle.fault.specs.declared.Refusal.{Refusal}
use Rattle.sheet.specs.Rules.{unless, first, first_below}
use Rattle.sheet.specs.declared.instruction.Instruction.{Instruction}
use Rattle.sheet.specs.Depths.{greatest_range_depth, greatest_verdict_depth}
use Rattle.sheet.specs.Lines.{reads_first}
use Rattle.pad.specs.declared.faults.PadFault.{PadFault}
use Rattle.pad.specs.declared.faults.PadFault.TheVariants.{NoLine, NoFlag, Unset, RangeSlots, VerdictSlots}
use Rattle.pad.specs.Faults.{pad_refusal}

-- show of the line or flag n, by which lines, or which flags, are set: `missing` where n is over 31
abbrev pub show_refusal : PadFault → ℕ → List Bool → Option Refusal
show_refusal missing n cells = unless (nat_le n 31) (pad_refusal missing) (unless (slice_index_or cells n false) (pad_refusal (Unset n)) None)

abbrev pub show_line_refusal : ℕ → List Bool → Option Refusal
show_line_refusal n lines = show_refusal (NoLine n) n lines

abbrev pub show_flag_refusal : ℕ → List Bool → Option Refusal
show_flag_refusal n flags = show_refusal (NoFlag n) n flags

-- the line a is unset, and read before it is kept
abbrev pub unset_refusal : List Instruction → List Bool → ℕ → Option Refusal
unset_refusal xs lines a = unless (not (reads_first xs a && not (slice_index_or lines a false))) (pad_refusal (Unset a)) None

-- there are slots enough for ranges, then for verdicts
abbrev pub slots_refusal : List Instruction → ℕ → ℕ → Option Refusal
slots_refusal xs m n =
    unless (nat_le (greatest_range_depth xs) m) (pad_refusal (RangeSlots (greatest_range_depth xs)))
    (unless (nat_le (greatest_verdict_depth xs) n) (pad_refusal (VerdictSlots (greatest_verdict_depth xs))) None)

-- work of these instructions, with m slots for ranges and n for verdicts: the lowest unset line comes first
abbrev pub work_refusal : List Instruction → List Bool → ℕ → ℕ → Option Refusal
work_refusal xs lines m n = first (first_below (unset_refusal xs lines) 32) (slots_refusal xs m n)
