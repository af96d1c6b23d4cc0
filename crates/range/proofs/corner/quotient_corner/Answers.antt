use Rattle.std.proofs.Common.{◌≡◌, ◌⊎◌, refl, inl, inr, rules}
use Rattle.std.proofs.lemmas.Int.{to_z-of_z}
use Rattle.number.specs.Number.{Number}
use Rattle.number.specs.Place.{at}
use Rattle.range.specs.Corner.{Facing}
use Rattle.range.proofs.Corners.{Infinite, quotient_numbers, quotient_nought, quotient_signs, end_zero}
use Rattle.range.proofs.corner.quotient_corner.Goals.{then-has+else-not-is_number+else-is_number, else-has}
use Rattle.range.proofs.corner.quotient_corner.Goals as goal

pub returns-then-not-is_number : goal.returns-then-not-is_number
returns-then-not-is_number g c =
    let s = c.args.scale.now in
    let z = end_zero (g.met.S.OrderedScale.ordered s) (g.met.S.OrderedScale.told s) c.args.rounding in
    search (rules, to_z-of_z, z, quotient_nought (g.S.OrderedScale.place s) c.args.rounding c.args.a c.args.b c.zero.result c.args.side)

pub returns-then-is_number : goal.returns-then-is_number
returns-then-is_number g c =
    let fa = c.ranges.a in
    let fb = c.ranges.b in
    let x = simp to_z-of_z at (c.if-is_number.ensures.yes refl) in
    let y = simp to_z-of_z at (c.if-not-is_number.ensures.yes refl) in
    search (rules, to_z-of_z, quotient_numbers (g.S.OrderedScale.place c.args.scale.now) c.args.rounding c.args.a c.args.b c.quotient.result c.args.side x.1 y.1)

pub returns : goal.returns
returns g c =
    let p = g.S.OrderedScale.place c.args.scale.now in
    let s = c.args.side in
    let fb = c.ranges.b in
    let n : ¬ (Facing s (p c.args.b)) ⊎ (Facing s (p c.args.b) × ((y : Number) × (p c.args.b ≡ at y)) × Infinite (p c.args.a)) = elim c.if-has.branch [
      | then-has+else-not-is_number+else-is_number w ↦ inr (search (rules, to_z-of_z), simp to_z-of_z at (w.if-not-is_number.ensures.yes refl), search (rules, to_z-of_z))
      | else-has w ↦ inl (search (rules, to_z-of_z))
    ] in
    search (rules, to_z-of_z, quotient_signs p c.args.rounding c.args.a c.args.b c.end.result s n)
