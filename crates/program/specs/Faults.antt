-- The refusals that end the program: those of the layer program, and those that come up from below. Assumes nothing.
use Rattle.std.specs.Prelude.{Some, None, Ok, Err, Option, Result}
use Rattle.fault.specs.declared.Layer.TheVariants.{Program}
use Rattle.fault.specs.declared.Refusal.{Refusal}
use Rattle.fault.specs.Told.{refused}
use Rattle.scale.specs.Faults.{scale_refusal}
use Rattle.sheet.specs.Faults.{filing_refusal, clearing_refusal}
use Rattle.pad.specs.Faults.{pad_refusal}
use Rattle.program.specs.declared.faults.ProgramFault.{ProgramFault}
use Rattle.program.specs.declared.faults.ProgramFault.TheVariants.{Input, Scale, Filing, Clearing, Pad}

-- 13: the input is empty or its count over 32 (place 0), or it ends before an entry does or has a kind over 4 (place: the entry, from 0)
abbrev pub program_refusal : ProgramFault → Refusal
program_refusal (Input n) = refused Program 13 n
program_refusal (Scale f) = scale_refusal f
program_refusal (Filing f) = filing_refusal f
program_refusal (Clearing f) = clearing_refusal f
program_refusal (Pad f) = pad_refusal f

-- the refusal that a result carries, if any
abbrev pub refusal_in : {A : Type 0} → Result A ProgramFault → Option Refusal
refusal_in (Ok x) = None
refusal_in (Err f) = Some (program_refusal f)
