-- `state::cancel` meets its contract: the current window gives way to the base, any other does not. Assumes nothing.
use borrow.Author.Tests.{eq-eqb, ne_eqb}
use Rattle.paper.specs.Settings.{cancelled}
use Rattle.state.proofs.cancel.Goals as goal

pub replace-t-requires : goal.replace-t-requires
replace-t-requires c =
    c.requires

pub returns-then-s-k : goal.returns-then-s-k
unfolding cancelled
returns-then-s-k c =
    rw (
      eq-eqb _ _ c.if-s-k.true,
      c.replace-t.ensures,
      c.no_window.ensures,
    )

pub returns-else-s-k : goal.returns-else-s-k
unfolding cancelled
returns-else-s-k c =
    rw (
      ne_eqb _ _ c.if-s-k.false,
      c.replace-t.ensures,
      c.no_window.ensures,
    )
