-- `moves::clear` meets its contract. Assumes nothing.
use native.Mathlib.Omega.{arith}
use Rattle.paper.specs.Moves.{clear_of}
use Rattle.laws_memory.specs.Rectangles.{cleared}
use Rattle.moves.proofs.Done.{does_stroke}
use Rattle.moves.proofs.clear.Goals as goal

pub clear-requires : goal.clear-requires
clear-requires c =
    rw c.range-r.ensures (omega arith)

pub marked-requires : goal.marked-requires
marked-requires c =
    rw c.range-r.ensures (omega arith)

pub returns : goal.returns
unfolding clear_of cleared
returns c =
    let ranged = c.range-r.ensures in
    does_stroke _ _ (rw (c.marked.ensures, ranged) at c.place.ensures) (rw ranged at c.clear.ensures)
