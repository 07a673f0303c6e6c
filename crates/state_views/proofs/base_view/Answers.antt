-- `state_views::base_view` meets its contract: all of memory, its visible part, or its hidden part. Assumes nothing.
use borrow.Author.Tests.{eq-eqb, ne_eqb, lt-ltb, le-ltb}
use Rattle.paper.specs.Settings.{base_view}
use Rattle.state_views.proofs.base_view.Goals as goal

pub returns-then-write-eq1 : goal.returns-then-write-eq1
unfolding base_view
returns-then-write-eq1 c =
    rw (eq-eqb _ _ c.if-write-eq1.true)

pub returns-then-x-visible : goal.returns-then-x-visible
unfolding base_view
returns-then-x-visible c =
    rw (ne_eqb _ _ c.if-write-eq1.false, lt-ltb _ _ c.if-x-visible.true)

pub returns-else-x-visible : goal.returns-else-x-visible
unfolding base_view
returns-else-x-visible c =
    rw (ne_eqb _ _ c.if-write-eq1.false, le-ltb _ _ c.if-x-visible.false)
