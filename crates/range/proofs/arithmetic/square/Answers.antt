use Rattle.std.proofs.Common.{refl}
use Rattle.range.proofs.arithmetic.square.Goals as goal

pub returns : goal.returns
returns g c = search refl
