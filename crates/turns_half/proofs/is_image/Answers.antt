-- `turns_half::is_image` meets its contract. Assumes nothing.
use mathlib.Core.Path.{sym}
use Rattle.turns_half.specs.Halves.{is_image}
use Rattle.turns_half.proofs.Halves.{no_image}
use borrow.Enum.Refused.{opened}
use Rattle.turns_half.proofs.is_image.Goals as goal

pub returns-in-ImageData : goal.returns-in-ImageData
unfolding is_image
returns-in-ImageData c =
    rw c.in-ImageData.is

pub returns-in_default : goal.returns-in_default
unfolding is_image
returns-in_default c =
    sym (no_image c.args.half (opened c.in_default.in_default-own.keys2))
