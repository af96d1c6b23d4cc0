use Rattle.std.proofs.Common.{◌≡◌, pos, ◌*ℤ◌, None, MatchOption, w64, SFits, arith}
use Rattle.std.proofs.lemmas.Int.{to_z-of_z}
use Rattle.scale.specs.Quotient.{Signed}
use Rattle.scale.specs.Marked.{CountedBoth}
use Rattle.scale.proofs.Counting.{quotient_works}
use Rattle.scale.proofs.marks.AnyArithmeticScale.quotient.Goals as goal

pub returns : goal.returns
returns g c =
    let s = c.args.self.now in
    let m = g.M.MarkedScale.marks s in
    let fa = c.ranges.a in
    let fb = c.ranges.b in
    let fr : SFits w64 c.rounded.result = record { sfits = c.rounded.type_inv } in
    let k : CountedBoth m c.args.a c.args.b c.counts.result = simp to_z-of_z at c.counts.ensures in
    let w : MatchOption c.counts.result (c.and_then-count.result ≡ None) (λ k. MatchOption c.and_then-count.result (k.1 ≡ pos 0) (λ q. (k.1 ≡ pos 0 → ⊥) × Signed c.args.rounding (k.0 *ℤ pos m.parts) k.1 q)) = search (arith, to_z-of_z) in
    simp to_z-of_z (quotient_works m c.args.rounding (g.M.OrderedScale.place s) (g.met.M.MarkedScale.placed s) c.args.a c.args.b c.counts.result c.and_then-count.result c.rounded.result k w c.rounded.ensures)
