use Rattle.range.proofs.Bounding.{both_admit, crossed}
use Rattle.range.proofs.entry.spans.Goals.{then-has_value, else-has_value}
use Rattle.range.proofs.entry.spans.Goals as goal

pub returns-then-has_value-2-clause-some : goal.returns-then-has_value-2-clause-some
returns-then-has_value-2-clause-some c e = elim c.if-has_value.branch [ then-has_value w ↦ both_admit c.args.lower c.args.upper (cc) (cc) (cc) | else-has_value w ↦ cc ]

pub returns-then-has_value-2-clause-empty : goal.returns-then-has_value-2-clause-empty
returns-then-has_value-2-clause-empty c e = crossed c.args.lower c.args.upper (cc)
