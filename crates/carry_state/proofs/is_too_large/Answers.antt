-- `carry_state::is_too_large` meets its contract. Assumes nothing.
use mathlib.Core.Path.{refl}
use Rattle.paper.specs.Cells.{too_large}
use Rattle.carry_state.proofs.is_too_large.Goals as goal

pub returns : goal.returns
unfolding too_large
returns c =
    refl
