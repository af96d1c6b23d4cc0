-- The value of a written fraction p / q. Assumes nothing.
use Rattle.std.specs.Prelude.{ℕ, zero, suc, ◌<◌, Bool, false, cond, ℤ, Some, None, Option, nat_lt}
use Rattle.std.proofs.Common.{arith}
use Rattle.number.specs.declared.Fraction.{Fraction}
use Rattle.number.specs.Number.{Number, fraction, below}

pub suc_positive : {n : ℕ} → 0 < suc n
suc_positive = omega arith

-- p / q where q is from 1 to 2147483647; any other q counts as a zero divisor
abbrev pub value_of : ℤ → ℕ → Option Number
value_of p zero = None
value_of p (suc n) = cond (nat_lt n 2147483647) (Some (fraction p (suc n) suc_positive)) None

abbrev pub value : Fraction → Option Number
value f = value_of f.p f.q

-- both are there, and the first is the higher
abbrev pub higher : Option Number → Option Number → Bool
higher None o = false
higher (Some x) None = false
higher (Some x) (Some y) = below y x
