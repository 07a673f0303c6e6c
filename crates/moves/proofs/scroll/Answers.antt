-- `moves::scroll` meets its contract. Assumes nothing.
use native.Mathlib.Omega.{arith}
use Rattle.laws_memory.specs.Rectangles.{scrolled_up}
use Rattle.moves.proofs.Done.{does_stroke}
use Rattle.moves.proofs.scroll.Goals as goal

pub scroll_up-requires : goal.scroll_up-requires
scroll_up-requires c =
    rw c.range-r.ensures (omega arith)

pub marked-requires : goal.marked-requires
marked-requires c =
    rw c.range-r.ensures (omega arith)

pub returns : goal.returns
unfolding scrolled_up
returns c =
    let ranged = c.range-r.ensures in
    does_stroke _ _ (rw ranged at c.marked.ensures) (rw ranged at c.scroll_up.ensures)
