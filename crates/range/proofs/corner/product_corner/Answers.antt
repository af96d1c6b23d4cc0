use Rattle.std.proofs.Common.{◌⊎◌, inl, inr, rules}
use Rattle.std.proofs.lemmas.Int.{to_z-of_z}
use Rattle.range.proofs.Corners.{Infinite, product_signs}
use Rattle.range.proofs.corner.product_corner.Goals.{else-is_number-via-then-is_number+else-is_number-2, else-is_number-via-else-is_number}
use Rattle.range.proofs.corner.product_corner.Goals as goal

pub returns-else-is_number : goal.returns-else-is_number
returns-else-is_number g c =
    let p = g.S.OrderedScale.place c.args.scale.now in
    let n : Infinite (p c.args.a) ⊎ Infinite (p c.args.b) = elim c.else-is_number.branch [
      | else-is_number-via-then-is_number+else-is_number-2 w ↦ inr (search (rules, to_z-of_z))
      | else-is_number-via-else-is_number w ↦ inl (search (rules, to_z-of_z))
    ] in
    search (rules, to_z-of_z, product_signs p c.args.rounding c.args.a c.args.b c.end.result n)
