-- The refusals of the layers filing and clearing. Assumes nothing.
use Rattle.fault.specs.declared.Layer.TheVariants.{Filing, Clearing}
use Rattle.fault.specs.declared.Refusal.{Refusal}
use Rattle.fault.specs.Told.{refused}
use Rattle.sheet.specs.declared.faults.FilingFault.{FilingFault}
use Rattle.sheet.specs.declared.faults.FilingFault.TheVariants.{Length, ConstantCount, InstructionCount, InstructionDistance, ConstantDistance}
use Rattle.sheet.specs.declared.faults.ClearingFault.{ClearingFault}
use Rattle.sheet.specs.declared.faults.ClearingFault.TheVariants.{Valueless, UnknownOperation, Argument, TooFewOperands, NotEmpty}

-- 1: the length is below 12 or over 32768 (place: the length)
-- 2: a count is out of bounds (place: 0 for the constants, 1 for the instructions)
-- 3: a distance is out of bounds (place: 0 for the instructions, 1 for the constants)
abbrev pub filing_refusal : FilingFault → Refusal
filing_refusal (Length n) = refused Filing 1 n
filing_refusal ConstantCount = refused Filing 2 0
filing_refusal InstructionCount = refused Filing 2 1
filing_refusal InstructionDistance = refused Filing 3 0
filing_refusal ConstantDistance = refused Filing 3 1

-- 4: a constant's lower part is 0 or over 2147483647 (place: the constant)
-- 5: an unknown operation (place: the instruction, here and below)
-- 6: an argument that the operation does not allow
-- 7: too few operands on a pile
-- 8: a pile is not empty at the end (place: the count of instructions)
abbrev pub clearing_refusal : ClearingFault → Refusal
clearing_refusal (Valueless c) = refused Clearing 4 c
clearing_refusal (UnknownOperation i) = refused Clearing 5 i
clearing_refusal (Argument i) = refused Clearing 6 i
clearing_refusal (TooFewOperands i) = refused Clearing 7 i
clearing_refusal (NotEmpty n) = refused Clearing 8 n
