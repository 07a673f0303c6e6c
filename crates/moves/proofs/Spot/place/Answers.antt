-- `Spot::place` meets its contract. Assumes nothing.
use Rattle.moves.proofs.Done.{spot-at}
use Rattle.moves.proofs.Spot.place.Goals as goal

pub returns : goal.returns
returns c =
    spot-at c.to.ensures
