-- What reading the entry i of an input comes to, where the entry j comes next. Assumes nothing.
use Rattle.std.specs.Prelude.{◌≡◌, ℕ, ◌+◌, ◌<◌, List, Some, None, Ok, Err, Option, Result}
use Rattle.range.specs.declared.entry.Entry.{Entry}
use Rattle.program.specs.declared.faults.ProgramFault.{ProgramFault}
use Rattle.program.specs.Faults.{program_refusal}
use Rattle.program.specs.Input.{count_of, line_of, entry_of}
use Rattle.program.specs.Refusals.{form_refusal}

-- there is none, it is read, or it has not its form; only what is read is passed over
abbrev pub NextEntry : List ℕ → ℕ → ℕ → Result (Option (ℕ × Entry)) ProgramFault → Type 0
NextEntry bs i j (Ok None) = (i ≡ count_of bs) × (j ≡ i)
NextEntry bs i j (Ok (Some e)) = (i < count_of bs) × (form_refusal bs i ≡ None) × (e.0 ≡ line_of bs i) × (e.1 ≡ entry_of bs i) × (j ≡ i + 1)
NextEntry bs i j (Err f) = (i < count_of bs) × (form_refusal bs i ≡ Some (program_refusal f)) × (j ≡ i)
