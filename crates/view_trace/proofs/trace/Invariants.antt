-- `view_trace::trace` is safe and ends. The measure is how many bytes lie ahead.
use Prim.Native.Nat.{◌-◌}
use lib.ListN.{length}
use Rattle.view_trace.proofs.trace.Given as goal

abbrev pub decreases-loop-place : goal.decreases-loop-place
decreases-loop-place g l =
    length l.input - l.place
