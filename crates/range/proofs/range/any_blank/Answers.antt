use Rattle.std.proofs.Common.{refl}
use Rattle.range.proofs.range.any_blank.Goals as goal

pub returns-else-is_blank-clause-first : goal.returns-else-is_blank-clause-first
returns-else-is_blank-clause-first g c e = c.if-is_blank.ensures.some refl

pub returns-else-is_blank-clause-second : goal.returns-else-is_blank-clause-second
returns-else-is_blank-clause-second g c e = c.is_blank-else-is_blank.ensures.some e
