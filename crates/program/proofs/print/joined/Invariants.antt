use Rattle.std.proofs.Common.{string_bytes}
use Rattle.program.specs.Text.{Joined, Told}
use Rattle.program.proofs.print.joined.Given as goal

-- the texts so far are written
abbrev pub invariant-loop-n : goal.invariant-loop-n
invariant-loop-n g l = Joined (Told (goal.F-post g l.set) g.T.Display.output) l.n (string_bytes l.text)
