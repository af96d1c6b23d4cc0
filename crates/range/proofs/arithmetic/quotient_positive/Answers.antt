use Rattle.range.proofs.arithmetic.quotient_positive.Goals as goal

pub returns : goal.returns
returns g c = c.quotient_on.ensures
