use Rattle.std.proofs.Common.{refl, rules}
use Rattle.std.proofs.lemmas.Int.{to_z-of_z}
use Rattle.range.proofs.Codes.{Codes}
use Rattle.range.proofs.Working.{difference_hull}
use Rattle.range.proofs.arithmetic.difference.Goals as goal

pub returns : goal.returns
returns g c =
    let p = g.S.OrderedScale.place c.args.scale.now in
    let C : Codes c.args.x = search rules in
    let D : Codes c.args.y = search rules in
    let xl = C.lower_code in
    let xu = C.upper_code in
    let yl = D.lower_code in
    let yu = D.upper_code in
    let s = c.if-any_blank.ensures.first refl in
    let t = c.if-any_blank.ensures.second refl in
    let h = difference_hull p c.args.x c.args.y s t c.difference.result c.difference-2.result (simp to_z-of_z at c.difference.ensures) (simp to_z-of_z at c.difference-2.ensures) in
    search (rules, to_z-of_z, h)
