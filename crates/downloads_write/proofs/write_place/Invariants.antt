-- `downloads_write::write_place` meets its contract. The loop's invariant: the first r bytes are written. Assumes nothing.
use mathlib.Core.Path.{◌≡◌}
use Prim.Native.Nat.{◌≤◌, ◌-◌}
use lib.ListN.{length}
use Rattle.downloads_write.proofs.Turns.{partly}
use Rattle.downloads_write.proofs.write_place.Given as goal

abbrev pub invariant-loop-r : goal.invariant-loop-r
invariant-loop-r l =
    (l.r ≤ 9) × (length l.ds ≡ length l.initial.ds) × (l.ds ≡ partly l.k l.bytes l.r l.initial.ds)

abbrev pub decreases-loop-r : goal.decreases-loop-r
decreases-loop-r l =
    9 - l.r
