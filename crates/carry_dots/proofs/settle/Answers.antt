-- `carry_dots::settle` meets its contract. Assumes nothing.
use Rattle.paper.specs.declared.State.{State}
use Rattle.paper.specs.Settings.{with_spans}
use mathlib.Core.Path.{ap}
use Rattle.carry_dots.proofs.settle.Goals as goal

pub returns : goal.returns
returns c =
    ap (λ (t : State). with_spans t c.args.p.spans) c.with_view-t.ensures
