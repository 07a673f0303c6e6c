-- `state_held::held_by` meets its contract. Assumes nothing.
use mathlib.Core.Path.{refl}
use Rattle.paper.specs.Calls.{held_by}
use Rattle.state_held.proofs.held_by.Goals as goal

pub returns : goal.returns
unfolding held_by
returns c =
    refl
