-- `view_show::link::feed` is safe and ends. The measure is how many bytes of the link are left.
use mathlib.Core.Path.{◌≡◌}
use Prim.Native.Nat.{◌-◌}
use lib.ListN.{length}
use Rattle.view_show.proofs.Links.{Goes}
use Rattle.view_show.proofs.link.feed.Given as goal

abbrev pub invariant-loop-t : goal.invariant-loop-t
invariant-loop-t l =
    (length l.mem ≡ length l.initial.mem) × (length l.store ≡ length l.initial.store) × Goes l.link l.telegrams l.carried l.answered l.at

abbrev pub decreases-loop-t : goal.decreases-loop-t
decreases-loop-t l =
    length l.link - l.at
