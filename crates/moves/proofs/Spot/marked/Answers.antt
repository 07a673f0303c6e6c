-- `Spot::marked` meets its contract. Assumes nothing.
use Rattle.moves.proofs.Spot.marked.Goals as goal

pub returns : goal.returns
returns c =
    rw c.mark.ensures
