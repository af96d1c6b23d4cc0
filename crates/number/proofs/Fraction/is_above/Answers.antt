use Rattle.std.proofs.Common.{◌≡◌, true, is_some, sym, ◌∙◌, w32, w64, SFits, rules}
use lib.Signed.{lt_z}
use Rattle.std.proofs.lemmas.Int.{to_z-of_z}
use Rattle.number.specs.Fraction.{value}
use Rattle.number.proofs.Written.{higher_is}
use Rattle.number.proofs.Fraction.is_above.Goals as goal

pub returns-then-has_value-2 : goal.returns-then-has_value-2
returns-then-has_value-2 c =
    let f = c.args.self in
    let g = c.args.other in
    let ff : SFits w32 f.p = search rules in
    let fg : SFits w32 g.p = search rules in
    let fl : SFits w64 c.multiplied.result = record { sfits = c.multiplied.type_inv } in
    let fr : SFits w64 c.multiplied-then-has_value-2.result = record { sfits = c.multiplied-then-has_value-2.type_inv } in
    let l = simp to_z-of_z at c.multiplied.ensures in
    let r = simp to_z-of_z at c.multiplied-then-has_value-2.ensures in
    let u : is_some (value f) ≡ true = search rules in
    let v : is_some (value g) ≡ true = search rules in
    simp to_z-of_z ((λ i. lt_z (l i) (r i)) ∙ sym (higher_is f g u v))
