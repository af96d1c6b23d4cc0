use Rattle.std.proofs.Common.{◌<◌, ◌⊎◌, sym, subst, arith}
use Rattle.std.proofs.lemmas.Result.{err_from_is_err_and}
use Rattle.sheet.proofs.Passes.{SoFar, begin}
use Rattle.sheet.proofs.Ends.{rule_kept, rule_broken, left_over, passes}
use Rattle.sheet.proofs.sheet.FiledSheet.check_instructions.Goals as goal

pub loop-place-init : goal.loop-place-init
loop-place-init c = subst (SoFar c.args.self.now.bytes.now 0) (sym c.new-tally.ensures) (begin c.args.self.now.bytes.now)

pub loop-place-preserved : goal.loop-place-preserved
loop-place-preserved c =
    let s = c.args.self.now in
    let l = c.loop-place in
    let e = c.in_ok-operation.ensures in
    rule_kept s.bytes.now s.constants.now s.instructions.now s.constants_laid s.instructions_laid l.place l.tally _ l.invariant (omega arith) c.in_ok-operation.operation c.add.new.self e.0 e.1 c.add.ensures

pub returns-in_err-operation : goal.returns-in_err-operation
returns-in_err-operation c =
    let s = c.args.self.now in
    let l = c.loop-place in
    let p = err_from_is_err_and c.from_residual.result c.from_residual.ensures.1 in
    rw (p.1, p.2) (rule_broken s.bytes.now s.constants.now s.instructions.now s.constants_laid s.instructions_laid l.place l.tally _ l.invariant (omega arith) _ c.in_err-operation.ensures)

pub returns-then-tally-gt0 : goal.returns-then-tally-gt0
returns-then-tally-gt0 c =
    let s = c.args.self.now in
    let l = c.loop-place in
    let e : (0 < l.tally.ranges.«now») ⊎ (0 < l.tally.verdicts.«now») = grind arith in
    left_over s.bytes.now s.constants.now s.instructions.now s.constants_laid s.instructions_laid l.place l.tally l.invariant (omega arith) e

pub returns : goal.returns
returns c =
    let s = c.args.self.now in
    let l = c.loop-place in
    passes s.bytes.now s.constants.now s.instructions.now s.constants_laid s.instructions_laid l.place l.tally l.invariant (omega arith) c.if-tally-gt0.false c.if-tally-gt0-2.false
