-- Whole quotients, rounded. Assumes nothing.
use Rattle.std.specs.Prelude.{ℕ, suc, ℤ, pos, negsuc, ◌+ℤ◌, ◌*ℤ◌, neg_ℤ, ◌≤ℤ◌, ◌<ℤ◌}
use Rattle.scale.specs.declared.rounding.Rounding.{Rounding}
use Rattle.scale.specs.declared.rounding.Rounding.TheVariants.{Down, Up}

-- q is n / d, rounded to a whole number
abbrev pub Whole : Rounding → ℤ → ℕ → ℤ → Type 0
Whole Down n d q = ((q *ℤ pos d) ≤ℤ n) × (n <ℤ (q *ℤ pos d +ℤ pos d))
Whole Up n d q = (n ≤ℤ (q *ℤ pos d)) × ((q *ℤ pos d) <ℤ (n +ℤ pos d))

-- the same for a divisor of either sign
abbrev pub Signed : Rounding → ℤ → ℤ → ℤ → Type 0
Signed r n (pos d) q = Whole r n d q
Signed r n (negsuc d) q = Whole r (neg_ℤ n) (suc d) q
