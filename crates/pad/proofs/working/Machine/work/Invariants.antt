use Rattle.sheet.specs.Held.{instructions_left}
use Rattle.pad.proofs.Going.{Going}
use Rattle.pad.proofs.working.Machine.work.Given as goal

-- the instructions so far are worked
abbrev pub invariant-loop-instruction : goal.invariant-loop-instruction
invariant-loop-instruction g l = Going g.S.OrderedScale.place l.sheet l.initial.self l.initial.board l.yielded (instructions_left l.instruction-iterator) l.self l.board
