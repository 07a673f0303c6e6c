-- `moves_tab::next_line_up` meets its contract. Without room it scrolls, and then the cursor goes. Assumes nothing.
use Prim.Native.Nat.{◌-◌}
use Rattle.paper.specs.Moves.{only, to, next_line_up}
use Rattle.moves.proofs.Done.{does_only, does_after}
use Rattle.moves_tab.proofs.next_line_up.Goals as goal

pub returns-then-room_below : goal.returns-then-room_below
unfolding next_line_up
returns-then-room_below c =
    rw (← c.room_below.ensures, c.if-room_below.true) (does_only _ c.place.ensures)

pub returns : goal.returns
unfolding next_line_up
returns c =
    let a = c.args in
    rw (← c.room_below.ensures, c.if-room_below.false)
    (does_after _ (λ q. only (to q 0 (a.p.view.height - a.l))) c.scroll-q.ensures
    (does_only _ c.place-2.ensures))
