-- `panel_start` meets its contract: the call for any module, for this one. Assumes nothing.
use mathlib.Core.Path.{refl}
use Rattle.paper.specs.Panel.{panel}
use Rattle.laws_state.proofs.Views.{panel_usable}
use Rattle.panel_c.proofs.panel_start.Goals as goal

pub start-requires : goal.start-requires
unfolding panel
start-requires c =
    rw c.small.ensures (panel_usable, refl)

pub returns : goal.returns
returns c =
    rw c.small.ensures at c.start.ensures
