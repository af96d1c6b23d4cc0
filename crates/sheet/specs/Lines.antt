-- Which lines a list of instructions reads before it keeps them. Assumes nothing.
use Rattle.std.specs.Prelude.{ℕ, zero, suc, Bool, false, not, ◌&&◌, ◌||◌, List, length, Some, None, Option, ◌==◌}
use Rattle.std.specs.List.{slice_get}
use Rattle.sheet.specs.declared.instruction.Instruction.{Instruction}
use Rattle.sheet.specs.declared.operation.Operation.{Operation}
use Rattle.sheet.specs.declared.operation.Operation.TheVariants.{Line, Keep}
use Rattle.sheet.specs.Operations.{byte}
use Rattle.sheet.specs.Instructions.{written}

-- a test holds somewhere below n
unfoldable pub any_below : (ℕ → Bool) → ℕ → Bool
any_below t zero = false
any_below t (suc i) = any_below t i || t i

-- one operation is another, and names the line a
abbrev pub is_on : Operation → ℕ → Operation → ℕ → Bool
is_on o b p a = byte o == byte p && b == a

abbrev pub reads : Option Instruction → ℕ → Bool
reads None a = false
reads (Some x) a = is_on (written x).0 (written x).1 Line a

abbrev pub keeps : Option Instruction → ℕ → Bool
keeps None a = false
keeps (Some x) a = is_on (written x).0 (written x).1 Keep a

-- by the tests of reading and of keeping: some read below n has no keep before it
abbrev pub first_read : (ℕ → Bool) → (ℕ → Bool) → ℕ → Bool
first_read r k = any_below (λ i. r i && not (any_below k i))

-- the line a is kept by an instruction before the instruction i
abbrev pub kept_before : List Instruction → ℕ → ℕ → Bool
kept_before xs a = any_below (λ i. keeps (slice_get xs i) a)

-- the line a is read before it is kept
abbrev pub reads_first : List Instruction → ℕ → Bool
reads_first xs a = first_read (λ i. reads (slice_get xs i) a) (λ i. keeps (slice_get xs i) a) (length xs)
