use Rattle.std.proofs.Common.{rules}
use Rattle.pad.proofs.Promised.{promises}
use Rattle.pad.proofs.pad.Pad.new.Goals as goal

pub returns : goal.returns
returns g c =
    let s = c.args.scale in
    record { scale = search rules; board = search rules; promises = promises (g.S.OrderedScale.place s) (g.met.S.OrderedScale.ordered s) }
