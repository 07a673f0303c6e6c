-- `state_views::in_mode` meets its contract: the cursor that is put back is the one read, in the new mode. Assumes nothing.
use Rattle.paper.specs.Settings.{in_mode}
use Rattle.state_views.proofs.in_mode.Goals as goal

pub cursor_of-c-requires : goal.cursor_of-c-requires
cursor_of-c-requires c =
    c.requires

pub at_cursor-requires : goal.at_cursor-requires
at_cursor-requires c =
    c.requires

pub returns : goal.returns
unfolding in_mode
returns c =
    rw c.cursor_of-c.ensures at c.at_cursor.ensures
