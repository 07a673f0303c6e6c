-- `state::initial_state` meets its contract: its parts are the paper's. Assumes nothing.
use Rattle.paper.specs.Settings.{initial_state}
use Rattle.state.proofs.initial_state.Goals as goal

pub no_spans-requires : goal.no_spans-requires
no_spans-requires c =
    c.requires

pub returns : goal.returns
unfolding initial_state
returns c =
    rw (
      c.no_window.ensures,
      c.initial_settings.ensures,
      c.top_left.ensures,
      c.no_spans.ensures,
    )
