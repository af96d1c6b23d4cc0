-- The sliding scale: fine marks near 0, which double in width from one block of 4096 codes to the next. Assumes nothing.
use Rattle.std.specs.Prelude.{ℕ, suc, ◌+◌, ◌-◌, ◌*◌, ◌/◌, ◌%◌, ◌^◌, cond, ℤ, pos, negsuc, neg_ℤ, nat_lt}
use Rattle.std.proofs.Common.{arith}
use Rattle.number.specs.Place.{Place}
use Rattle.scale.specs.Marked.{Marks, marked}

-- the count of 4096ths at the code c: c itself below 4096; from there, with g = c div 4096 and r = c mod 4096, (4096 + r) 2^(g - 1)
unfoldable pub steps : ℕ → ℕ
steps c = cond (nat_lt c 4096) c ((4096 + c % 4096) * 2 ^ (c / 4096 - 1))

-- negative codes mirror this
abbrev pub mirrored : ℤ → ℤ
mirrored (pos c) = pos (steps c)
mirrored (negsuc c) = neg_ℤ (pos (steps (suc c)))

abbrev pub sliding_marks : Marks
sliding_marks = record { parts = 4096; positive = omega arith; first = negsuc 81918; last = pos 81919; count = mirrored }

abbrev pub sliding : ℤ → Place
sliding = marked sliding_marks
