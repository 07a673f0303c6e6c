-- `state_views::view_of` meets its contract: the base where 0 is selected, else user window k. Assumes nothing.
use borrow.Author.Tests.{eq-eqb, ne_eqb}
use Rattle.paper.specs.Settings.{view_of}
use Rattle.state_views.proofs.view_of.Goals as goal

pub base_view-requires : goal.base_view-requires
base_view-requires c =
    c.requires.1

pub returns-then-s-eq0 : goal.returns-then-s-eq0
unfolding view_of
returns-then-s-eq0 c =
    rw (eq-eqb _ _ c.if-s-eq0.true) c.base_view.ensures

pub returns-else-s-eq0 : goal.returns-else-s-eq0
unfolding view_of
returns-else-s-eq0 c =
    rw (ne_eqb _ _ c.if-s-eq0.false)
    (rw c.current_window.ensures at c.window_view.ensures)
