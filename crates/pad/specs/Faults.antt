-- The refusals of the layer pad. Assumes nothing.
use Rattle.fault.specs.declared.Layer.TheVariants.{Pad}
use Rattle.fault.specs.declared.Refusal.{Refusal}
use Rattle.fault.specs.Told.{refused}
use Rattle.pad.specs.declared.faults.PadFault.{PadFault}
use Rattle.pad.specs.declared.faults.PadFault.TheVariants.{NoLine, NoFlag, LowerBound, UpperBound, Crossed, Unset, RangeSlots, VerdictSlots}

-- 9: a line over 31 (place: the line), or a flag over 31 (place: the flag)
-- 10: a bound's lower part is 0 or over 2147483647 (place: 0 for the lower bound, 1 for the upper)
-- 11: the lower bound is above the upper one (place: the line)
-- 14: a line or flag is unset that is shown, or a line that a sheet reads before it keeps it (place: it)
-- 15: too few slots for ranges (place: the slots needed)
-- 16: too few slots for verdicts (place: the slots needed)
abbrev pub pad_refusal : PadFault → Refusal
pad_refusal (NoLine n) = refused Pad 9 n
pad_refusal (NoFlag n) = refused Pad 9 n
pad_refusal LowerBound = refused Pad 10 0
pad_refusal UpperBound = refused Pad 10 1
pad_refusal (Crossed n) = refused Pad 11 n
pad_refusal (Unset n) = refused Pad 14 n
pad_refusal (RangeSlots n) = refused Pad 15 n
pad_refusal (VerdictSlots n) = refused Pad 16 n
