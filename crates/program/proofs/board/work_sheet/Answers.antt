use Rattle.std.proofs.Common.{◌≡◌, None, refl, rules}
use Rattle.scale.specs.Ruled.{on_ruled}
use Rattle.pad.specs.Boards.{lines_set}
use Rattle.pad.specs.Calls.{work, done}
use Rattle.pad.specs.Refusals.{work_refusal}
use Rattle.pad.proofs.Laws.{is_accepted}
use Rattle.sheet.specs.Held.{instructions_of}
use Rattle.program.proofs.board.work_sheet.Goals as goal

pub returns-clause-refusal : goal.returns-clause-refusal
returns-clause-refusal c =
    let s = c.in_ok-cleared.cleared in
    let b = c.args.pad.now.board in
    let e : work_refusal (instructions_of s) (lines_set b) 256 64 ≡ None = (is_accepted (on_ruled c.args.pad.now.scale) (work s 256 64) b done _ c.in_ok-work.ensures.does refl).0 in
    search rules
