-- The first rule that an input breaks. Assumes nothing.
use Rattle.std.specs.Prelude.{ℕ, zero, suc, ◌+◌, Bool, true, false, ◌&&◌, List, length, replicate, None, Option, nat_le, slice_set}
use Rattle.fault.specs.declared.Refusal.{Refusal}
use Rattle.sheet.specs.Rules.{unless, first, first_below}
use Rattle.sheet.specs.Filing.{filing}
use Rattle.sheet.specs.Clearing.{clearing}
use Rattle.sheet.specs.Instructions.{instructions}
use Rattle.pad.specs.Admission.{enter_refusal}
use Rattle.pad.specs.Refusals.{work_refusal}
use Rattle.program.specs.declared.faults.ProgramFault.TheVariants.{Input}
use Rattle.program.specs.Faults.{program_refusal}
use Rattle.program.specs.Input.{count_of, start, line_of, kind_of, entry_of, sheet_of}

-- there is a count, and it is at most 32
abbrev pub count_refusal : List ℕ → Option Refusal
count_refusal bs = unless (nat_le 1 (length bs) && nat_le (count_of bs) 32) (program_refusal (Input 0)) None

-- the entry i is whole, and its kind is at most 4
abbrev pub form_refusal : List ℕ → ℕ → Option Refusal
form_refusal bs i = unless (nat_le (start i + 18) (length bs) && nat_le (kind_of bs i) 4) (program_refusal (Input i)) None

abbrev pub entry_refusal : List ℕ → ℕ → Option Refusal
entry_refusal bs i = first (form_refusal bs i) (enter_refusal (line_of bs i) (entry_of bs i))

-- the entries in turn
abbrev pub entries_refusal : List ℕ → Option Refusal
entries_refusal bs = first (count_refusal bs) (first_below (entry_refusal bs) (count_of bs))

-- which lines the first n entries set
unfoldable pub set_by : List ℕ → ℕ → List Bool
set_by bs zero = replicate 32 false
set_by bs (suc i) = slice_set (set_by bs i) (line_of bs i) true

-- a sheet is filed, cleared and worked where these lines are set, with 256 slots for ranges and 64 for verdicts
abbrev pub sheet_refusal : List ℕ → List Bool → Option Refusal
sheet_refusal sheet lines = first (filing sheet) (first (clearing sheet) (work_refusal (instructions sheet) lines 256 64))

abbrev pub input_refusal : List ℕ → Option Refusal
input_refusal bs = first (entries_refusal bs) (sheet_refusal (sheet_of bs) (set_by bs (count_of bs)))
