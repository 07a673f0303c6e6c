-- `turns_stretch::feed_light` meets its contract. The loop's invariant: all so far is in the spot and the style. Assumes nothing.
use Prim.Native.Nat.{◌-◌}
use lib.ListN.{length}
use Rattle.turns_stretch.proofs.Light.{Lit}
use Rattle.turns_stretch.proofs.feed_light.Given as goal

abbrev pub invariant-loop-i : goal.invariant-loop-i
invariant-loop-i l =
    Lit l.g l.font l.store l.piece l.f l.initial.mem l.from l.p l.style l.carried l.outcome l.i l.mem

abbrev pub decreases-loop-i : goal.decreases-loop-i
decreases-loop-i l =
    length l.piece - l.i
