use Rattle.std.proofs.Common.{◌≡◌, ◌-◌, None}
use Rattle.sheet.specs.Rules.{first_below}
use Rattle.scale.specs.Ruled.{on_ruled}
use Rattle.pad.specs.Pads.{board_of, scale_of}
use Rattle.program.specs.Entered.{Entered}
use Rattle.program.specs.Refusals.{entry_refusal}
use Rattle.program.proofs.board.enter_all.Given as goal

-- the entries so far broke no rule, and are entered
abbrev pub invariant-loop-line : goal.invariant-loop-line
invariant-loop-line l =
    (l.entries.input.now ≡ l.input)
    × (first_below (entry_refusal l.input) l.entries.next ≡ None)
    × Entered (on_ruled l.fn.scale) l.input l.entries.next (board_of l.pad)
    × (scale_of l.pad ≡ l.fn.scale)

abbrev pub decreases-loop-line : goal.decreases-loop-line
decreases-loop-line l = l.entries.count - l.entries.next
