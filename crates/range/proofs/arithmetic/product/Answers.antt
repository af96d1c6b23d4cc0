use Rattle.std.proofs.Common.{refl, rules}
use Rattle.std.proofs.lemmas.Int.{to_z-of_z}
use Rattle.range.proofs.Working.{outcome_hull}
use Rattle.range.proofs.arithmetic.product.Goals as goal

pub returns : goal.returns
returns g c = search (rules, to_z-of_z, outcome_hull (c.if-any_blank.ensures.first refl) (c.if-any_blank.ensures.second refl) c.product_end.ensures c.product_end-2.ensures)
