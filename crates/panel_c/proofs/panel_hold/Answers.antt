-- `panel_hold` meets its contract: the call for any module, for this one. Assumes nothing.
use Rattle.panel_c.proofs.panel_hold.Goals as goal

pub returns : goal.returns
returns c =
    rw c.small.ensures at c.hold.ensures
