-- `state_settings::is_write` meets its contract: the derived `==` is the paper's test. Assumes nothing.
use mathlib.Core.Path.{◌∙◌}
use Rattle.state_settings.proofs.Keys.{same_write}
use Rattle.state_settings.proofs.is_write.Goals as goal

pub returns : goal.returns
returns c =
    c.eq.ensures ∙ same_write c.args.key
