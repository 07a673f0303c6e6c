-- `turns_stretch::settled` meets its contract. Assumes nothing.
use mathlib.Core.Path.{ap}
use Rattle.paper.specs.declared.State.{State}
use Rattle.turns_stretch.specs.Desk.{turned_to}
use Rattle.turns_stretch.proofs.settled.Goals as goal

pub returns : goal.returns
returns c =
    let a = c.args in
    ap (λ (s : State). turned_to a.f.refusal s a.carried a.f.answered a.outcome a.at) c.settle-state.ensures
