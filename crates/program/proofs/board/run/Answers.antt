use Rattle.std.proofs.Common.{subst₂}
use Rattle.std.proofs.lemmas.Result.{err_from_is_err_and}
use Rattle.scale.specs.Ruled.{on_ruled}
use Rattle.sheet.specs.Instructions.{instructions}
use Rattle.pad.specs.Boards.{lines_set}
use Rattle.pad.specs.Pads.{board_of}
use Rattle.pad.specs.Working.{Works, tightest}
use Rattle.program.specs.Input.{count_of}
use Rattle.program.proofs.Rules.{entered_set, sheet_left, input_rule}
use Rattle.program.proofs.board.run.Goals as goal

pub returns-in_err-work_sheet-clause-refusal : goal.returns-in_err-work_sheet-clause-refusal
returns-in_err-work_sheet-clause-refusal c =
    let bs = c.args.input.now in
    let e = c.in_ok-pad.ensures in
    let b = board_of c.in_ok-pad.pad in
    let p = err_from_is_err_and c.from_residual-in_err-work_sheet.result c.from_residual-in_err-work_sheet.ensures.1 in
    rw (p.1, p.2) (input_rule bs _ (lines_set b) _ e.refusal (entered_set (on_ruled c.args.scale) bs (count_of bs) b e.enters) (sheet_left bs _ _ e.rest c.cut_sheet.ensures) c.in_err-work_sheet.ensures.refusal)

pub returns-clause-refusal : goal.returns-clause-refusal
returns-clause-refusal c =
    let bs = c.args.input.now in
    let e = c.in_ok-pad.ensures in
    let b = board_of c.in_ok-pad.pad in
    input_rule bs _ (lines_set b) _ e.refusal (entered_set (on_ruled c.args.scale) bs (count_of bs) b e.enters) (sheet_left bs _ _ e.rest c.cut_sheet.ensures) c.in_ok-work_sheet.ensures.refusal

pub returns-clause-comes : goal.returns-clause-comes
returns-clause-comes c =
    let bs = c.args.input.now in
    let e = c.in_ok-pad.ensures in
    let b = board_of c.in_ok-pad.pad in
    let d = board_of c.work_sheet.new.pad in
    record {
      entered = b;
      entries = e.enters;
      sheet = subst₂ (λ z l. Works (tightest (on_ruled z)) (instructions l) b d) e.scale (sheet_left bs _ _ e.rest c.cut_sheet.ensures) c.in_ok-work_sheet.ensures.works;
    }
