-- `moves_tab::next_line` meets its contract. Assumes nothing.
use Rattle.paper.specs.Moves.{next_line}
use Rattle.moves_tab.proofs.next_line.Goals as goal

pub returns-then-room_below : goal.returns-then-room_below
unfolding next_line
returns-then-room_below c =
    rw (← c.room_below.ensures, c.if-room_below.true) c.to.ensures

pub returns-else-room_below : goal.returns-else-room_below
unfolding next_line
returns-else-room_below c =
    rw (← c.room_below.ensures, c.if-room_below.false) c.to-else-room_below.ensures
