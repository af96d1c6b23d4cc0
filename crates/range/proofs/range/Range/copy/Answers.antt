use Rattle.std.proofs.Common.{ℤ, refl, arith, rules}
use Rattle.std.proofs.lemmas.Int.{ints, clamps}
use Rattle.range.proofs.Codes.{Codes, copied_hull, hull_alone, hull_again}
use Rattle.range.proofs.range.Range.copy.Goals as goal

pub returns : goal.returns
returns g c =
    let O = g.met.S.OrderedScale.ordered c.args.scale.now in
    let T = g.met.S.OrderedScale.told c.args.scale.now in
    let C : Codes c.args.self = search rules in
    let l = C.lower_code in
    let u = C.upper_code in
    let some = c.if-is_blank.ensures.some refl in
    let hull = λ (a b : ℤ). copied_hull O T c.args.self C some.0 some.1 a b in
    record {
      hull = hull _ _ (omega (arith, ints, clamps)) (omega (arith, ints, clamps));
      alone = λ q k. hull_alone k (hull _ _ (omega (arith, ints, clamps)) (omega (arith, ints, clamps)));
      again = λ q x k. hull_alone (hull _ _ (omega (arith, ints, clamps)) (omega (arith, ints, clamps))) (hull_again O T k);
    }
