use Rattle.std.proofs.Common.{◌≡◌, pos, ◌*ℤ◌, is_some, IfSome, w64, SFits, arith}
use Rattle.std.proofs.lemmas.Int.{to_z-of_z}
use Rattle.number.specs.Fraction.{value}
use Rattle.scale.specs.Quotient.{Whole}
use Rattle.scale.proofs.Counting.{fraction_works}
use Rattle.scale.proofs.marks.AnyArithmeticScale.fraction.Goals as goal

pub returns : goal.returns
returns g c =
    let s = c.args.self.now in
    let m = g.M.MarkedScale.marks s in
    let f = c.args.f in
    let fr : SFits w64 c.rounded.result = record { sfits = c.rounded.type_inv } in
    let e : is_some c.then-count.result ≡ is_some (value f) = search arith in
    let w : IfSome c.then-count.result (Whole c.args.rounding (f.p *ℤ pos m.parts) f.q) = search (arith, to_z-of_z) in
    simp to_z-of_z (fraction_works m c.args.rounding (g.M.OrderedScale.place s) (g.met.M.MarkedScale.placed s) f c.then-count.result c.rounded.result e w c.rounded.ensures)
