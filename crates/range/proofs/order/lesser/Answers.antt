use Rattle.std.proofs.Common.{refl, arith, rules}
use Rattle.std.proofs.lemmas.Int.{ints, clamps}
use Rattle.range.proofs.Codes.{Codes, by_ends}
use Rattle.range.proofs.Comparing.{lesser_hull}
use Rattle.range.proofs.order.lesser.Goals as goal

pub returns : goal.returns
returns g c =
    let O = g.met.S.OrderedScale.ordered c.args.scale.now in
    let C : Codes c.args.x = search rules in
    let D : Codes c.args.y = search rules in
    lesser_hull O c.args.x c.args.y C D (c.if-any_blank.ensures.first refl) (c.if-any_blank.ensures.second refl) (by_ends (omega (arith, ints, clamps)) (omega (arith, ints, clamps)) c.copy.ensures.hull)
