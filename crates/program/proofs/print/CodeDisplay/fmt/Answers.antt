use Rattle.std.proofs.Common.{arith, rules}
use Rattle.std.proofs.lemmas.Int.{ints}
use Rattle.scale.proofs.Told.{place_low, place_high, place_number}
use Rattle.program.proofs.print.CodeDisplay.fmt.Goals as goal

pub returns-then-code-lowest-clause-writes : goal.returns-then-code-lowest-clause-writes
returns-then-code-lowest-clause-writes g c =
    let s = c.args.self.now.scale.now in
    let e = place_low (g.met.S.OrderedScale.ordered s) (g.met.S.OrderedScale.told s) {c = c.args.self.now.code} (search rules) (omega (arith, ints)) in
    rw e (search rules)

pub returns-then-highest-code-clause-writes : goal.returns-then-highest-code-clause-writes
returns-then-highest-code-clause-writes g c =
    let s = c.args.self.now.scale.now in
    let e = place_high (g.met.S.OrderedScale.ordered s) (g.met.S.OrderedScale.told s) {c = c.args.self.now.code} (search rules) (omega (arith, ints)) in
    rw e (search rules)

pub returns-else-highest-code-clause-writes : goal.returns-else-highest-code-clause-writes
returns-else-highest-code-clause-writes g c =
    let s = c.args.self.now.scale.now in
    let e = place_number (g.met.S.OrderedScale.ordered s) (g.met.S.OrderedScale.told s) {c = c.args.self.now.code} (search rules) (omega (arith, ints)) (omega (arith, ints)) in
    rw e.1 (search rules)
