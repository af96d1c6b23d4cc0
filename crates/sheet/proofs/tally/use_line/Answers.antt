use Rattle.std.proofs.Common.{◌≡◌, ℕ, ◌<◌, List, length, get_or, set, arith, rules}
use Rattle.std.proofs.lemmas.Grind.{common_steps}
use Rattle.std.proofs.lemmas.Bool.Decides.{nat_tests}
use Rattle.sheet.specs.declared.operation.Operation.{Operation}
use Rattle.sheet.specs.declared.operation.Operation.TheVariants.{Line, Keep}
use Rattle.sheet.specs.declared.tally.FirstUse.{FirstUse}
use Rattle.sheet.specs.declared.tally.FirstUse.TheVariants.{Unnamed}
use Rattle.sheet.specs.Lines.{is_on}
use Rattle.sheet.specs.Tallies.{used}
use Rattle.sheet.proofs.tally.use_line.Goals as goal

-- a table where the line b is used, and no other
line_used : (uses : List FirstUse) (b : ℕ) (o : Operation) (v : FirstUse) → b < length uses → v ≡ used (get_or uses b Unnamed) (is_on o b Line b) (is_on o b Keep b) → (a : ℕ) → get_or (set uses b v) a Unnamed ≡ used (get_or uses a Unnamed) (is_on o b Line a) (is_on o b Keep a)
line_used uses b o v h e a = grind (arith, nat_tests, common_steps)

pub returns-in-Line : goal.returns-in-Line
returns-in-Line c = line_used c.args.first_uses.now c.args.argument c.args.operation _ (search rules) (grind arith)
