-- Every row of the table holds: its tests are computed. Assumes nothing.
use Rattle.std.proofs.Common.{◌≡◌, true, refl}
use Rattle.scale.specs.Marked.{marked}
use Rattle.scale.specs.Sliding.{steps}
use Rattle.examples.specs.Table.{table, Says, Every}
use Rattle.examples.proofs.Tests.{all}
use Rattle.examples.proofs.Tells.{every_tells}

all_pass : all table ≡ true
unfolding marked steps
all_pass = refl

pub worked : Every Says table
worked = every_tells table all_pass
