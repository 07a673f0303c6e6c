-- `moves_views::back` meets its contract. Assumes nothing.
use mathlib.Core.Bool.{not}
use lib.Dec.{leb, eqb, leb→le}
use borrow.Author.Tests.{le-leb, lt-leb}
use Rattle.paper.specs.Moves.{back_of}
use Rattle.laws_memory.proofs.Tests.{and_1}
use Rattle.moves_views.proofs.back.Goals as goal

pub returns-then-c-v : goal.returns-then-c-v
unfolding back_of
returns-then-c-v c =
    rw (le-leb _ _ c.if-c-v.true) c.to.ensures

pub overflow_sub-v-then-v-l-2 : goal.overflow_sub-v-then-v-l-2
overflow_sub-v-then-v-l-2 c =
    let a = c.args in
    leb→le _ _ (and_1 (not (eqb a.v.mode 3)) (leb a.l a.v.y) (rw c.if-v-l.true tt))

pub returns-then-v-l : goal.returns-then-v-l
unfolding back_of
returns-then-v-l c =
    rw (lt-leb _ _ c.if-c-v.false, c.if-v-l.true) c.to-then-v-l.ensures

pub returns-else-v-l : goal.returns-else-v-l
unfolding back_of
returns-else-v-l c =
    rw (lt-leb _ _ c.if-c-v.false, c.if-v-l.false)
