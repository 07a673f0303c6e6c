-- `state_settings::initial_settings` meets its contract. Assumes nothing.
use mathlib.Core.Path.{refl}
use Rattle.paper.specs.Settings.{initial_style, initial_settings}
use Rattle.state_settings.proofs.initial_settings.Goals as goal

pub returns : goal.returns
unfolding initial_style initial_settings
returns c =
    refl
