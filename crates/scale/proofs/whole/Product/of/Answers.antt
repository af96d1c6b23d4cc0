use Rattle.std.proofs.Common.{arith}
use Rattle.std.proofs.lemmas.Int.{ints, to_z-of_z}
use Rattle.scale.specs.Wholes.{product_small}
use Rattle.scale.proofs.whole.Product.of.Goals as goal

pub invariant_of-result : goal.invariant_of-result
invariant_of-result c = let p = product_small c.args.a c.args.b c.ranges.a c.ranges.b in search (arith, ints, to_z-of_z, p, c.from.ensures, c.from-2.ensures)
