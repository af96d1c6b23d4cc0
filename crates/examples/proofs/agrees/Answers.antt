use Rattle.examples.proofs.Agreeing.{hull_decides, verdict_decides}
use Rattle.examples.proofs.agrees.Goals as goal

pub returns-in-Enters : goal.returns-in-Enters
returns-in-Enters g c = rw c.in-Enters.is (hull_decides c.eq.result c.in-Enters.range c.hull.ensures c.eq.ensures)

pub returns-in-Works : goal.returns-in-Works
returns-in-Works g c = rw c.in-Works.is (hull_decides c.eq-in-Works.result c.in-Works.range c.comes_to.ensures c.eq-in-Works.ensures)

pub returns-in-Compares : goal.returns-in-Compares
returns-in-Compares g c = rw c.in-Compares.is (verdict_decides c.eq-in-Compares.result c.in-Compares.verdict c.judged.ensures c.eq-in-Compares.ensures)
