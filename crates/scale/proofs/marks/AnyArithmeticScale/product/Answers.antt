use Rattle.std.proofs.Common.{◌≡◌, ◌*ℤ◌, None, MatchOption, IsSomeAnd, w64, SFits, arith}
use Rattle.std.proofs.lemmas.Int.{to_z-of_z}
use Rattle.scale.specs.Quotient.{Whole}
use Rattle.scale.specs.Marked.{CountedBoth}
use Rattle.scale.proofs.Counting.{product_works}
use Rattle.scale.proofs.marks.AnyArithmeticScale.product.Goals as goal

pub returns : goal.returns
returns g c =
    let s = c.args.self.now in
    let m = g.M.MarkedScale.marks s in
    let fa = c.ranges.a in
    let fb = c.ranges.b in
    let fr : SFits w64 c.rounded.result = record { sfits = c.rounded.type_inv } in
    let k : CountedBoth m c.args.a c.args.b c.counts.result = simp to_z-of_z at c.counts.ensures in
    let w : MatchOption c.counts.result (c.map-count.result ≡ None) (λ k. IsSomeAnd c.map-count.result (Whole c.args.rounding (k.0 *ℤ k.1) m.parts)) = search (arith, to_z-of_z) in
    simp to_z-of_z (product_works m c.args.rounding (g.M.OrderedScale.place s) (g.met.M.MarkedScale.placed s) c.args.a c.args.b c.counts.result c.map-count.result c.rounded.result k w c.rounded.ensures)
