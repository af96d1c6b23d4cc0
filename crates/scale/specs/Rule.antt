-- The ruled scale's marks rise. Assumes nothing.
use Rattle.std.specs.Prelude.{pos, refl}
use Rattle.std.proofs.Common.{arith}
use Rattle.std.proofs.lemmas.Int.{ints}
use Rattle.scale.specs.declared.ruled.RuledScale.{RuledScale}
use Rattle.scale.specs.Ruled.{ruled_marks}
use Rattle.scale.specs.Placing.{Rising}

pub ruled_rising : (s : RuledScale) → Rising (ruled_marks s) (pos 0)
ruled_rising s =
    let small = s.ok.1 in
    record {
      rises = λ c d _ _ h. h;
      first_code = omega (arith, ints);
      last_code = omega (arith, ints);
      origin_first = omega (arith, ints);
      origin_last = omega (arith, ints);
      origin_count = refl;
    }
