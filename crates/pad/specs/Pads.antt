-- What a pad has: a scale and a board. Assumes nothing.
use Rattle.pad.specs.declared.board.Board.{Board}
use Rattle.pad.specs.declared.pad.Pad.{Pad}

abbrev pub scale_of : {S : Type 0} → Pad S → S
scale_of p = p.scale

abbrev pub board_of : {S : Type 0} → Pad S → Board
board_of p = p.board
