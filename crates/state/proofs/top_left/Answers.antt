-- `state::top_left` meets its contract. Assumes nothing.
use borrow.Author.Rules.{rules}
use Rattle.paper.specs.Settings.{top_left}
use Rattle.state.proofs.top_left.Goals as goal

pub returns : goal.returns
unfolding top_left
returns c =
    search rules
