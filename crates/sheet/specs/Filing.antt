-- Which files are filed: the rules in their order. Assumes nothing.
use Rattle.std.specs.Prelude.{ℕ, ◌+◌, ◌*◌, ◌&&◌, List, length, None, Option, nat_le}
use Rattle.fault.specs.declared.Refusal.{Refusal}
use Rattle.sheet.specs.declared.faults.FilingFault.TheVariants.{Length, ConstantCount, InstructionCount, InstructionDistance, ConstantDistance}
use Rattle.sheet.specs.Faults.{filing_refusal}
use Rattle.sheet.specs.Rules.{unless}
use Rattle.sheet.specs.Files.{constant_distance_of, instruction_distance_of, constant_count, instruction_count}

-- the rules on the trailer of a file of this length: the distances of the constants and of the instructions, and their counts
abbrev pub trailer_refusal : ℕ → ℕ → ℕ → ℕ → ℕ → Option Refusal
trailer_refusal length cd id k n =
    unless (nat_le k 64) (filing_refusal ConstantCount)
    (unless (nat_le 1 n && nat_le n 4096) (filing_refusal InstructionCount)
    (unless (nat_le (12 + 2 * n) id) (filing_refusal InstructionDistance)
    (unless (nat_le (id + 8 * k) cd && nat_le cd length) (filing_refusal ConstantDistance) None)))

-- the first rule that a file breaks
abbrev pub filing : List ℕ → Option Refusal
filing bs =
    unless (nat_le 12 (length bs) && nat_le (length bs) 32768) (filing_refusal (Length (length bs)))
    (trailer_refusal (length bs) (constant_distance_of bs) (instruction_distance_of bs) (constant_count bs) (instruction_count bs))
