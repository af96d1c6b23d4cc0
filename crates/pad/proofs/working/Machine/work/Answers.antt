use Rattle.std.proofs.Common.{rules}
use Rattle.sheet.specs.Held.{instructions_left}
use Rattle.pad.proofs.Going.{begin, ready, next, finished}
use Rattle.pad.proofs.working.Machine.work.Goals as goal

pub loop-instruction-init : goal.loop-instruction-init
loop-instruction-init g c = begin _ c.args.sheet.now c.args.self.now c.args.board.now _ (search rules) c.requires.ranges c.requires.verdicts c.requires.whole

pub step-requires : goal.step-requires
step-requires g c = let l = c.loop-instruction in ready _ _ _ _ l.yielded _ l.self l.board l.invariant c.in-Some.instruction (instructions_left c.next.new.self) (search rules) c.requires.provided

pub loop-instruction-preserved : goal.loop-instruction-preserved
loop-instruction-preserved g c = let l = c.loop-instruction in next _ _ _ _ l.yielded _ l.self l.board l.invariant c.in-Some.instruction (instructions_left c.next.new.self) (search rules) c.step.new.self c.step.new.board c.step.ensures.step c.step.ensures.parts

pub returns : goal.returns
returns g c = let l = c.loop-instruction in finished _ _ _ _ l.yielded _ l.self l.board l.invariant (search rules)
