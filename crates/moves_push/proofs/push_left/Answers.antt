-- `moves_push::push_left` meets its contract. Assumes nothing.
use native.Mathlib.Omega.{arith}
use Rattle.paper.specs.Moves.{push_left}
use Rattle.laws_memory.specs.Rectangles.{moved_left}
use Rattle.moves.proofs.Done.{does_stroke}
use Rattle.moves_push.proofs.push_left.Goals as goal

pub move_left-requires : goal.move_left-requires
move_left-requires c =
    rw c.range.ensures (omega arith)

pub marked-requires : goal.marked-requires
marked-requires c =
    rw c.range.ensures (omega arith)

pub returns : goal.returns
unfolding push_left moved_left
returns c =
    let ranged = c.range.ensures in
    let some = c.min.ensures in
    does_stroke _ _ (rw (c.marked.ensures, ranged, some) at c.place.ensures) (rw (ranged, some) at c.move_left.ensures)
