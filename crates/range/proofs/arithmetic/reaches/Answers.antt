use Rattle.std.proofs.Common.{refl, rules}
use Rattle.std.proofs.lemmas.Int.{to_z-of_z}
use Rattle.range.proofs.Working.{reached, not_reached}
use Rattle.range.proofs.arithmetic.reaches.Goals as goal

pub returns-then-not-is_blank-clause-some : goal.returns-then-not-is_blank-clause-some
returns-then-not-is_blank-clause-some g c e = reached (g.S.OrderedScale.place c.args.scale.now) c.args.side c.args.y (c.if-not-is_blank.ensures.some refl) (search (rules, to_z-of_z))

pub returns-then-not-is_blank-clause-empty : goal.returns-then-not-is_blank-clause-empty
returns-then-not-is_blank-clause-empty g c e = not_reached (g.S.OrderedScale.place c.args.scale.now) c.args.side c.args.y (search (rules, to_z-of_z))
