-- `dots_pull::pull` meets its contract. The loop's invariant: the first i rows are taken. Assumes nothing.
use mathlib.Core.Path.{◌≡◌}
use Prim.Native.Nat.{◌≤◌}
use lib.ListN.{length}
use Rattle.paper.specs.Strokes.{rect_at}
use Rattle.laws_memory.specs.Rectangles.{pulled}
use Rattle.dots_pull.proofs.pull.Given as goal

abbrev pub invariant-loop-i : goal.invariant-loop-i
invariant-loop-i l =
    (l.i ≤ l.i-end) × (length l.mem ≡ length l.initial.mem)
    × (l.mem ≡ pulled l.g (rect_at l.r.left l.r.top l.r.width l.i) l.right l.down l.initial.mem)
