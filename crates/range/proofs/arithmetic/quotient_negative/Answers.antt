use Rattle.range.proofs.arithmetic.quotient_negative.Goals as goal

pub returns : goal.returns
returns g c = c.quotient_on.ensures
