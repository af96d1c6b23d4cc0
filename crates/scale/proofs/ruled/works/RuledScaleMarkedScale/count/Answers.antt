use Rattle.std.proofs.Common.{◌≡◌, ◌≤ℤ◌, MatchBool, arith, rules}
use Rattle.std.specs.Bool.{then_some}
use Rattle.std.proofs.lemmas.Int.{ints, to_z-of_z}
use Rattle.scale.specs.Ruled.{ruled_marks}
use Rattle.scale.specs.Placing.{counted_within}
use Rattle.scale.proofs.ruled.works.RuledScaleMarkedScale.count.Goals as goal

pub returns : goal.returns
returns c =
    let m = ruled_marks c.args.self.now in
    let w : MatchBool c.contains.result ((m.first ≤ℤ c.args.code) × (c.args.code ≤ℤ m.last)) (m.first ≤ℤ c.args.code → c.args.code ≤ℤ m.last → ⊥) = search (arith, ints, to_z-of_z) in
    let e : c.then_some.result ≡ then_some c.contains.result c.args.code = search (rules, to_z-of_z) in
    rw e (counted_within m c.args.code c.contains.result w)
