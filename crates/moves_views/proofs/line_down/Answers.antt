-- `moves_views::line_down` meets its contract. Assumes nothing.
use Rattle.paper.specs.Moves.{line_down}
use Rattle.moves_views.proofs.line_down.Goals as goal

pub returns-then-room_below : goal.returns-then-room_below
unfolding line_down
returns-then-room_below c =
    rw (← c.room_below.ensures, c.if-room_below.true) c.to.ensures

pub returns-then-g : goal.returns-then-g
unfolding line_down
returns-then-g c =
    rw (← c.room_below.ensures, c.if-room_below.false, c.if-g.true)
    c.to-then-g.ensures

pub returns-else-g : goal.returns-else-g
unfolding line_down
returns-else-g c =
    rw (← c.room_below.ensures, c.if-room_below.false, c.if-g.false)
    c.to-else-g.ensures
