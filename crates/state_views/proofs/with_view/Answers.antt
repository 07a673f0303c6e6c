-- `state_views::with_view` meets its contract: counted from memory where 0 is selected, else from the window. Assumes nothing.
use borrow.Author.Tests.{eq-eqb, ne_eqb}
use Rattle.paper.specs.Settings.{cursor_in}
use Rattle.state_views.proofs.with_view.Goals as goal

pub at_cursor-requires : goal.at_cursor-requires
at_cursor-requires c =
    c.requires.0

pub returns-then-s-eq0 : goal.returns-then-s-eq0
unfolding cursor_in
returns-then-s-eq0 c =
    rw (eq-eqb _ _ c.if-s-eq0.true) c.at_cursor.ensures

pub at_cursor-requires-else-s-eq0 : goal.at_cursor-requires-else-s-eq0
at_cursor-requires-else-s-eq0 c =
    c.requires.0

pub returns-else-s-eq0 : goal.returns-else-s-eq0
unfolding cursor_in
returns-else-s-eq0 c =
    rw (ne_eqb _ _ c.if-s-eq0.false) c.at_cursor-else-s-eq0.ensures
