-- The ruled scale with the division D: the code c has the place c / D if that is from -2147483647 to 2147483647, else an infinite one. Assumes nothing.
use Rattle.std.specs.Prelude.{ℕ, ◌*◌, ◌<◌, ℤ, pos, neg_ℤ}
use Rattle.number.specs.Place.{Place}
use Rattle.scale.specs.declared.ruled.RuledScale.{RuledScale}
use Rattle.scale.specs.Marked.{Marks, marked}

abbrev pub furthest : ℕ → ℕ
furthest d = 2147483647 * d

abbrev pub ruled : (d : ℕ) → 0 < d → Marks
ruled d h = record { parts = d; positive = h; first = neg_ℤ (pos (furthest d)); last = pos (furthest d); count = λ c. c }

abbrev pub ruled_marks : RuledScale → Marks
ruled_marks s = ruled s.division s.ok.0

abbrev pub on_ruled : RuledScale → ℤ → Place
on_ruled s = marked (ruled_marks s)
