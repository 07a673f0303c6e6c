-- `runs_images::image_bytes` meets its contract. The loop's invariant: what is left gives what the whole run gives. Assumes nothing.
use Prim.Native.Nat.{◌-◌}
use lib.ListN.{length}
use Rattle.runs_images.proofs.Filling.{Filling}
use Rattle.runs_images.proofs.image_bytes.Given as goal

abbrev pub invariant-loop-i : goal.invariant-loop-i
invariant-loop-i l =
    Filling l.g l.p l.style l.width l.height l.column l.row l.initial.mem l.piece l.from l.mem l.x l.y l.i

abbrev pub decreases-loop-i : goal.decreases-loop-i
decreases-loop-i l =
    length l.piece - l.i
