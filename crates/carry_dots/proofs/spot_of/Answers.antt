-- `carry_dots::spot_of` meets its contract. Assumes nothing.
use Rattle.paper.specs.declared.View.{View}
use Rattle.moves.specs.Does.{spot}
use mathlib.Core.Path.{ap}
use Rattle.carry_dots.proofs.spot_of.Goals as goal

pub returns : goal.returns
returns c =
    ap (λ (v : View). spot v c.args.s.spans) c.view_of.ensures
