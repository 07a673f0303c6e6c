-- `replay::entry::read` takes a byte at least, if there is one.
use Rattle.std.proofs.Common.{ℕ, length, length-drop, ap, arith}
use Rattle.replay.proofs.entry.read.Goals as goal

pub returns-in_default : goal.returns-in_default
returns-in_default c =
    omega (arith, length-drop {A = ℕ}, ap length c.piece-in_default.ensures.rest, ap length c.byte-kind.ensures.rest)
