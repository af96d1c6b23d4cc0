use Rattle.std.proofs.Common.{refl}
use Rattle.examples.proofs.Worked.{worked}
use Rattle.examples.proofs.count.Goals as goal

pub returns : goal.returns
returns c = record { rows = refl; worked = worked }
