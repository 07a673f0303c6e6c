-- `panel_refresh` meets its contract: the call for any module, for this one. Assumes nothing.
use mathlib.Core.Path.{refl}
use Rattle.paper.specs.Panel.{panel}
use Rattle.laws_state.proofs.Views.{panel_usable}
use Rattle.panel_c.proofs.panel_refresh.Goals as goal

pub refresh-requires : goal.refresh-requires
unfolding panel
refresh-requires c =
    rw c.small.ensures (panel_usable, refl)

pub returns : goal.returns
returns c =
    rw c.small.ensures at c.refresh.ensures
