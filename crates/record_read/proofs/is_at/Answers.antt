-- `is_at` meets its contract: std's equality is the test. Assumes nothing.
use mathlib.Core.Path.{◌∙◌}
use Rattle.record_read.proofs.Same.{same_part}
use Rattle.record_read.proofs.is_at.Goals as goal

pub returns : goal.returns
returns c =
    c.eq.ensures ∙ same_part c.args.a.now c.args.l.now c.args.at c.requires
