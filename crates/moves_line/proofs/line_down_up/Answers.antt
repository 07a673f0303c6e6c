-- `moves_line::line_down_up` meets its contract. Assumes nothing.
use Rattle.paper.specs.Moves.{line_down_up}
use Rattle.moves.proofs.Done.{does_only}
use Rattle.moves_line.proofs.line_down_up.Goals as goal

pub returns-then-room_below : goal.returns-then-room_below
unfolding line_down_up
returns-then-room_below c =
    rw (← c.room_below.ensures, c.if-room_below.true) (does_only _ c.place.ensures)

pub returns-else-room_below : goal.returns-else-room_below
unfolding line_down_up
returns-else-room_below c =
    rw (← c.room_below.ensures, c.if-room_below.false) c.scroll.ensures
