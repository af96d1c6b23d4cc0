-- What a sheet holds. Assumes nothing.
use Rattle.std.specs.Prelude.{ℕ, List, drop}
use Rattle.sheet.specs.declared.instruction.Instruction.{Instruction}
use Rattle.sheet.specs.declared.sheet.FiledSheet.{FiledSheet}
use Rattle.sheet.specs.declared.sheet.ClearedSheet.{ClearedSheet}
use Rattle.sheet.specs.declared.instructions.Instructions.{Instructions}
use Rattle.sheet.specs.Instructions.{instructions}

-- the bytes that it borrows
abbrev pub filed_bytes : FiledSheet → List ℕ
filed_bytes s = s.bytes.now

abbrev pub cleared_bytes : ClearedSheet → List ℕ
cleared_bytes s = filed_bytes s.sheet

abbrev pub instructions_of : ClearedSheet → List Instruction
instructions_of s = instructions (cleared_bytes s)

-- those that are still to come
abbrev pub instructions_left : Instructions → List Instruction
instructions_left s = drop s.next (instructions_of s.sheet.now)
