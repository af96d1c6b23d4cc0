use Rattle.std.proofs.Common.{pos, arith}
use Rattle.std.proofs.lemmas.Int.{ints, clamps}
use Rattle.scale.specs.Ruled.{ruled_marks}
use Rattle.scale.specs.Placing.{floor_at, ceiling_at}
use Rattle.scale.specs.Rule.{ruled_rising}
use Rattle.scale.proofs.ruled.works.RuledScaleMarkedScale.fitted.Goals as goal

pub returns-in-Down : goal.returns-in-Down
returns-in-Down c =
    let s = c.args.self.now in
    rw c.in-Down.is (floor_at (ruled_marks s) (pos 0) (ruled_rising s) c.args.count c.args.count (λ d _ _. (λ h. h, λ h. h)) _ (omega (arith, ints, clamps)))

pub returns-in-Up : goal.returns-in-Up
returns-in-Up c =
    let s = c.args.self.now in
    rw c.in-Up.is (ceiling_at (ruled_marks s) (pos 0) (ruled_rising s) c.args.count c.args.count (λ d _ _. (λ h. h, λ h. h)) _ (omega (arith, ints, clamps)))
