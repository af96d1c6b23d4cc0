use Rattle.std.proofs.Common.{refl, rules}
use Rattle.std.proofs.lemmas.Int.{to_z-of_z}
use Rattle.range.proofs.Working.{outcome_hull}
use Rattle.range.proofs.arithmetic.quotient_on.Goals as goal

pub returns : goal.returns
returns g c = search (rules, to_z-of_z, outcome_hull (c.if-is_blank.ensures.some refl) (c.if-not-reaches.ensures.some refl) c.quotient_end.ensures c.quotient_end-2.ensures)
