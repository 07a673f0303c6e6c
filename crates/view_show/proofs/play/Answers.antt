-- `view_show::play` is safe, and its counts and its glass are those of the three calls' definitions.
use Rattle.view_show.proofs.Plays.{plays}
use Rattle.view_show.proofs.play.Goals as goal

pub returns : goal.returns
returns c =
    plays _ _ _ _ _ _ c.start-a.ensures c.feed-f.ensures c.refresh-r.ensures
