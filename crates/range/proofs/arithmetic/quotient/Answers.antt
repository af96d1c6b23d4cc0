use Rattle.range.specs.Held.{Holds}
use Rattle.range.proofs.Working.{sides_hull}
use Rattle.range.proofs.arithmetic.quotient.Goals as goal

pub returns : goal.returns
returns g c =
    let p = g.S.OrderedScale.place c.args.scale.now in
    sides_hull (g.met.S.OrderedScale.ordered c.args.scale.now) (Holds p c.args.x) (Holds p c.args.y) c.parted.ensures.negative c.parted.ensures.positive c.join.ensures
