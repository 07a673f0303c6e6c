-- `next` meets its contract. Assumes nothing.
use Prim.Native.Nat.{◌-◌}
use Rattle.telegrams_good.proofs.Turns.{Turn, Comes, places_left}
use Rattle.telegrams_good.proofs.next.Given as goal

abbrev pub invariant-bytes : goal.invariant-bytes
invariant-bytes l =
    Turn l.piece l.from l.place l.size l.sum l.k

abbrev pub decreases-bytes : goal.decreases-bytes
decreases-bytes l =
    l.size - l.k

abbrev pub invariant-places : goal.invariant-places
invariant-places l =
    Comes l.piece l.from l.found

abbrev pub decreases-places : goal.decreases-places
decreases-places l =
    places_left l.piece l.found
