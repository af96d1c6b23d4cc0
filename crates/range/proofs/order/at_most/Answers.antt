use Rattle.range.specs.Held.{Holds}
use Rattle.range.proofs.Connecting.{at_most_by_less}
use Rattle.range.proofs.order.at_most.Goals as goal

pub returns : goal.returns
returns g c =
    let p = g.S.OrderedScale.place c.args.scale.now in
    at_most_by_less (Holds p c.args.x) (Holds p c.args.y) c.less.result c.not.result c.less.ensures c.not.ensures
