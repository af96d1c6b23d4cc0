use Rattle.std.proofs.Common.{refl}
use Rattle.range.proofs.arithmetic.parted.Goals as goal

pub returns-clause-negative : goal.returns-clause-negative
returns-clause-negative g c = search refl
