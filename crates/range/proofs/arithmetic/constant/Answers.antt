use Rattle.std.proofs.Common.{rules}
use Rattle.std.proofs.lemmas.Int.{to_z-of_z}
use Rattle.range.proofs.Working.{constant_hull}
use Rattle.range.proofs.arithmetic.constant.Goals as goal

pub returns : goal.returns
returns g c = search (rules, to_z-of_z, constant_hull (g.S.OrderedScale.place c.args.scale.now) c.args.f (cc) c.fraction.result c.fraction-2.result c.fraction.ensures c.fraction-2.ensures)
