-- `strides::in_range` meets its contract. Assumes nothing.
use Rattle.strides.proofs.Spots.{spot_again}
use Rattle.strides.proofs.in_range.Goals as goal

pub returns : goal.returns
returns c =
    spot_again c.args.v c.args.p c.requires
