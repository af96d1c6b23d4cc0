-- A machine that works a sheet: its scale and its two piles. Assumes nothing.
use Rattle.std.specs.Prelude.{◌≡◌}
use Rattle.pad.specs.declared.board.Board.{Board}
use Rattle.pad.specs.declared.working.Machine.{Machine}
use Rattle.pad.specs.Working.{State, state}

-- what its piles hold, with a board
abbrev pub state_of : {S : Type 0} → Machine S → Board → State
state_of m b = state m.ranges.held m.verdicts.held b

-- its scale and the room of its piles stay
pub record KeepsParts {S : Type 0} (m n : Machine S) : Type 0 where
  pub scale : n.scale.now ≡ m.scale.now
  pub ranges : n.ranges.room ≡ m.ranges.room
  pub verdicts : n.verdicts.room ≡ m.verdicts.room
