-- `is_idle` meets its contract: the part that is tested. Assumes nothing.
use mathlib.Core.Path.{sym, ◌∙◌}
use Rattle.record_read.proofs.Idle.{idle_told}
use Rattle.record_read.proofs.is_idle.Goals as goal

pub returns : goal.returns
returns c =
    λ e. idle_told c.args.l.now c.told-l (sym c.is_zero.ensures ∙ e)
