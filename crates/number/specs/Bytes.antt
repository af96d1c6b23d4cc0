-- Numbers in bytes, the lowest byte first. Assumes nothing.
use Rattle.std.specs.Prelude.{ℕ, ◌+◌, ◌*◌, List, slice_index}
use Rattle.std.specs.Int.{w32}
use Rattle.std.proofs.Common.{to_z}
use Rattle.number.specs.declared.Fraction.{Fraction}

-- the four bytes at the index, as one number
abbrev pub word_at : List ℕ → ℕ → ℕ
word_at bs i = slice_index bs i + slice_index bs (i + 1) * 256 + slice_index bs (i + 2) * 65536 + slice_index bs (i + 3) * 16777216

-- the eight bytes at the index: the upper part, in two's complement, then the lower part
abbrev pub fraction_at : List ℕ → ℕ → Fraction
fraction_at bs i = record { p = to_z w32 (word_at bs i); q = word_at bs (i + 4) }
