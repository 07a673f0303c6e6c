-- `state_views::inside_window` meets its contract: the base where 0 is selected, else user window k. Assumes nothing.
use borrow.Author.Tests.{eq-eqb, ne_eqb}
use Rattle.paper.specs.Settings.{inside_window}
use Rattle.state_views.proofs.inside_window.Goals as goal

pub returns-then-s-eq0 : goal.returns-then-s-eq0
unfolding inside_window
returns-then-s-eq0 c =
    rw (eq-eqb _ _ c.if-s-eq0.true)

pub returns-else-s-eq0 : goal.returns-else-s-eq0
unfolding inside_window
returns-else-s-eq0 c =
    rw (
      c.current_window-w.ensures,
      ne_eqb _ _ c.if-s-eq0.false,
    )
