use Rattle.std.proofs.Common.{arith}
use Rattle.std.proofs.lemmas.Int.{ints}
use Rattle.range.proofs.Corners.{facing_below, facing_above, from_zero, to_zero}
use Rattle.range.proofs.corner.Side.has.Goals as goal

pub returns-in-Below : goal.returns-in-Below
returns-in-Below g c =
    let O = g.met.S.OrderedScale.ordered c.args.scale.now in
    let T = g.met.S.OrderedScale.told c.args.scale.now in
    let f = c.ranges.code in
    rw c.in-Below.is (record { yes = λ e. facing_below O T f (omega (arith, ints)); not = λ e n. n (from_zero O T f (omega (arith, ints))) })

pub returns-in-Above : goal.returns-in-Above
returns-in-Above g c =
    let O = g.met.S.OrderedScale.ordered c.args.scale.now in
    let T = g.met.S.OrderedScale.told c.args.scale.now in
    let f = c.ranges.code in
    rw c.in-Above.is (record { yes = λ e. facing_above O T f (omega (arith, ints)); not = λ e n. n (to_zero O T f (omega (arith, ints))) })
