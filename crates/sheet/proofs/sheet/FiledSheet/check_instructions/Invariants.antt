use Rattle.sheet.proofs.Passes.{SoFar}
use Rattle.sheet.proofs.sheet.FiledSheet.check_instructions.Given as goal

abbrev pub invariant-loop-place : goal.invariant-loop-place
invariant-loop-place l = SoFar l.self.bytes.now l.place l.tally
