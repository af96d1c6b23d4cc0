use Rattle.std.proofs.Common.{rules}
use Rattle.std.proofs.lemmas.Int.{to_z-of_z}
use Rattle.range.proofs.Working.{negation_hull}
use Rattle.range.proofs.arithmetic.negation.Goals as goal

pub returns : goal.returns
returns g c =
    let s = c.args.scale.now in
    negation_hull (g.S.OrderedScale.place s) (g.met.S.OrderedScale.told s) c.new.result c.args.y (search (rules, to_z-of_z)) (search (rules, to_z-of_z)) c.difference.ensures
