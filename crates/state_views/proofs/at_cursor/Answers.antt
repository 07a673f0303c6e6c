-- `state_views::at_cursor` meets its contract: the base where 0 is selected, else user window k. Assumes nothing.
use borrow.Author.Tests.{eq-eqb, ne_eqb}
use Rattle.paper.specs.Settings.{at_cursor}
use Rattle.state_views.proofs.at_cursor.Goals as goal

pub returns-then-s-eq0 : goal.returns-then-s-eq0
unfolding at_cursor
returns-then-s-eq0 c =
    rw (eq-eqb _ _ c.if-s-eq0.true)

pub returns-else-s-eq0 : goal.returns-else-s-eq0
unfolding at_cursor
returns-else-s-eq0 c =
    rw (ne_eqb _ _ c.if-s-eq0.false)
    (rw c.current_window-w.ensures at c.replace.ensures)
