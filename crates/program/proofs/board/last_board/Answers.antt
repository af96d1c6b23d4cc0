use Rattle.std.proofs.Common.{string_bytes, subst}
use Rattle.scale.specs.Ruled.{on_ruled}
use Rattle.pad.specs.Pads.{board_of}
use Rattle.program.specs.Text.{BoardText}
use Rattle.program.proofs.board.last_board.Goals as goal

pub returns-clause-board : goal.returns-clause-board
returns-clause-board c =
    let w = c.in_ok-pad.ensures in
    let b = board_of c.in_ok-pad.pad in
    record {
      scale = c.in_ok-scale.scale;
      division = c.in_ok-scale.ensures.division;
      board = b;
      comes_to = w.comes;
      text = subst (λ z. BoardText (on_ruled z) b (string_bytes c.in_ok-text.text)) w.scale c.in_ok-text.ensures;
    }
