use Rattle.std.proofs.Common.{rules}
use Rattle.std.proofs.lemmas.Int.{to_z-of_z}
use Rattle.range.proofs.Corners.{end_zero}
use Rattle.range.proofs.corner.end.Goals as goal

pub returns-in_default-Zero : goal.returns-in_default-Zero
returns-in_default-Zero g c =
    let s = c.args.scale.now in
    let z = end_zero (g.met.S.OrderedScale.ordered s) (g.met.S.OrderedScale.told s) c.args.rounding in
    rw c.in_default-Zero.is-1 (search (rules, to_z-of_z, z))
