-- A file: free bytes, constants of 8 bytes, instructions of 2, and a trailer of 12 at the end. Numbers have their lowest byte first. Assumes nothing.
use Rattle.std.specs.Prelude.{ℕ, ◌+◌, ◌-◌, ◌*◌, List, length, drop, Option, slice_index}
use Rattle.std.specs.Simd.{first_chunks}
use Rattle.number.specs.declared.Fraction.{Fraction}
pub use Rattle.number.specs.Bytes.{word_at, fraction_at}
use Rattle.sheet.specs.declared.operation.Operation.{Operation}
use Rattle.sheet.specs.Operations.{operation_of}

abbrev pub half_at : List ℕ → ℕ → ℕ
half_at bs i = slice_index bs i + slice_index bs (i + 1) * 256

-- the trailer: the distances of the first constant and of the first instruction from the end, and the counts of both
unfoldable pub constant_distance_of : List ℕ → ℕ
constant_distance_of bs = word_at bs (length bs - 12)

unfoldable pub instruction_distance_of : List ℕ → ℕ
instruction_distance_of bs = word_at bs (length bs - 8)

unfoldable pub constant_count : List ℕ → ℕ
constant_count bs = half_at bs (length bs - 4)

unfoldable pub instruction_count : List ℕ → ℕ
instruction_count bs = half_at bs (length bs - 2)

-- where the first constant and the first instruction stand
unfoldable pub constants_start : List ℕ → ℕ
constants_start bs = length bs - constant_distance_of bs

unfoldable pub instructions_start : List ℕ → ℕ
instructions_start bs = length bs - instruction_distance_of bs

-- both in their bytes
abbrev pub constants_in : List ℕ → List (List ℕ)
constants_in bs = first_chunks 8 (constant_count bs) (drop (constants_start bs) bs)

abbrev pub instructions_in : List ℕ → List (List ℕ)
instructions_in bs = first_chunks 2 (instruction_count bs) (drop (instructions_start bs) bs)

-- the constant c
abbrev pub constant : List ℕ → ℕ → Fraction
constant bs c = fraction_at bs (constants_start bs + 8 * c)

-- the operation, if there is one, and the argument of the instruction i
abbrev pub operation_at : List ℕ → ℕ → Option Operation
operation_at bs i = operation_of (slice_index bs (instructions_start bs + 2 * i))

abbrev pub argument_at : List ℕ → ℕ → ℕ
argument_at bs i = slice_index bs (instructions_start bs + 2 * i + 1)
