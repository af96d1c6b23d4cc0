use Rattle.std.proofs.Common.{sym, ◌∙◌}
use Rattle.range.proofs.Bounding.{low_admits, high_admits}
use Rattle.range.proofs.entry.admits.Goals as goal

pub returns-in-Some-Some-clause-some : goal.returns-in-Some-Some-clause-some
returns-in-Some-Some-clause-some c = rw (c.in-Some-Some.is-0, c.in-Some-Some.is-1) c.spans.ensures.some

pub returns-in-Some-Some-clause-empty : goal.returns-in-Some-Some-clause-empty
returns-in-Some-Some-clause-empty c = rw (c.in-Some-Some.is-0, c.in-Some-Some.is-1) c.spans.ensures.empty

pub returns-in-Some-None-clause-some : goal.returns-in-Some-None-clause-some
returns-in-Some-None-clause-some c e = rw (c.in-Some-None.is-0, c.in-Some-None.is-1) (low_admits c.in-Some-None.l (sym c.has_value.ensures ∙ e))

pub returns-in-None-Some-clause-some : goal.returns-in-None-Some-clause-some
returns-in-None-Some-clause-some c e = rw (c.in-None-Some.is-0, c.in-None-Some.is-1) (high_admits c.in-None-Some.u (sym c.has_value-in-None-Some.ensures ∙ e))
