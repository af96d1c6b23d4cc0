-- What filing shows of a file. Assumes nothing.
use Rattle.std.proofs.Common.{◌≡◌, ℕ, ◌+◌, ◌*◌, ◌≤◌, false, List, length, is_some, None, arith}
use Rattle.std.proofs.lemmas.Bool.Decides.{nat_tests}
use Rattle.sheet.specs.Files.{constant_distance_of, instruction_distance_of, constant_count, instruction_count}
use Rattle.sheet.specs.Filing.{filing, trailer_refusal}

-- a trailer that breaks no rule
pub record Lies (l cd id k n : ℕ) : Type 0 where
  pub few_constants : k ≤ 64
  pub some_instruction : 1 ≤ n
  pub few_instructions : n ≤ 4096
  pub instructions_end : 12 + 2 * n ≤ id
  pub constants_end : id + 8 * k ≤ cd
  pub constants_start : cd ≤ l

pub lies : (l cd id k n : ℕ) → trailer_refusal l cd id k n ≡ None → Lies l cd id k n
lies l cd id k n e = grind (arith, nat_tests)

module _ (bs : List ℕ) (filed : is_some (filing bs) ≡ false) where
  trailer_kept : trailer_refusal (length bs) (constant_distance_of bs) (instruction_distance_of bs) (constant_count bs) (instruction_count bs) ≡ None
  trailer_kept = grind (arith, nat_tests)

  pub accepted : Lies (length bs) (constant_distance_of bs) (instruction_distance_of bs) (constant_count bs) (instruction_count bs)
  accepted = lies _ _ _ _ _ trailer_kept
