use Rattle.std.proofs.Common.{refl, rules}
use Rattle.std.proofs.lemmas.Int.{to_z-of_z}
use Rattle.range.proofs.Codes.{Codes}
use Rattle.range.proofs.Comparing.{less_exactly}
use Rattle.range.proofs.order.less.Goals as goal

pub returns : goal.returns
returns g c =
    let O = g.met.S.OrderedScale.ordered c.args.scale.now in
    let C : Codes c.args.x = search rules in
    let D : Codes c.args.y = search rules in
    let xl = C.lower_code in
    let xu = C.upper_code in
    let yl = D.lower_code in
    let yu = D.upper_code in
    less_exactly O c.args.x c.args.y C D (c.if-any_blank.ensures.first refl) (c.if-any_blank.ensures.second refl) c.of.result (simp to_z-of_z at c.of.ensures.truth) (simp to_z-of_z at c.of.ensures.untruth)
