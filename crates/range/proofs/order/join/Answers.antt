use Rattle.std.proofs.Common.{refl, arith, rules}
use Rattle.std.proofs.lemmas.Int.{ints, clamps}
use Rattle.range.proofs.Codes.{Codes, by_ends}
use Rattle.range.proofs.Comparing.{join_hull, join_first, join_second}
use Rattle.range.proofs.order.join.Goals as goal

pub returns : goal.returns
returns g c =
    let O = g.met.S.OrderedScale.ordered c.args.scale.now in
    let C : Codes c.args.x = search rules in
    let D : Codes c.args.y = search rules in
    join_hull O c.args.x c.args.y C D (c.if-is_blank.ensures.some refl) (c.if-is_blank-2.ensures.some refl) (by_ends (omega (arith, ints, clamps)) (omega (arith, ints, clamps)) c.copy-2.ensures.hull)

pub returns-then-is_blank : goal.returns-then-is_blank
returns-then-is_blank g c = join_second (c.if-is_blank.ensures.empty refl) c.copy.ensures.hull

pub returns-then-is_blank-2 : goal.returns-then-is_blank-2
returns-then-is_blank-2 g c = join_first (c.if-is_blank-2.ensures.empty refl) c.copy-then-is_blank-2.ensures.hull
