use Rattle.std.proofs.Common.{arith}
use Rattle.std.proofs.lemmas.Int.{ints}
use Rattle.range.proofs.Corners.{number_of, number_within}
use Rattle.range.proofs.corner.is_number.Goals as goal

pub returns-then-lowest-code-clause-yes : goal.returns-then-lowest-code-clause-yes
returns-then-lowest-code-clause-yes g c e =
    let O = g.met.S.OrderedScale.ordered c.args.scale.now in
    let T = g.met.S.OrderedScale.told c.args.scale.now in
    number_of O T c.ranges.code (omega (arith, ints)) (omega (arith, ints))

pub returns-then-lowest-code-clause-not : goal.returns-then-lowest-code-clause-not
returns-then-lowest-code-clause-not g c e x h =
    let O = g.met.S.OrderedScale.ordered c.args.scale.now in
    let T = g.met.S.OrderedScale.told c.args.scale.now in
    let k = number_within O T c.ranges.code h in
    omega (arith, ints)

pub returns-else-lowest-code-clause-not : goal.returns-else-lowest-code-clause-not
returns-else-lowest-code-clause-not g c e x h =
    let O = g.met.S.OrderedScale.ordered c.args.scale.now in
    let T = g.met.S.OrderedScale.told c.args.scale.now in
    let k = number_within O T c.ranges.code h in
    omega (arith, ints)
