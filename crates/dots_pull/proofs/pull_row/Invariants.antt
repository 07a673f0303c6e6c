-- `dots_pull::pull_row` meets its contract. The loop's invariant: the first k pairs of columns are taken. Assumes nothing.
use mathlib.Core.Path.{◌≡◌}
use Prim.Native.Nat.{◌*◌, ◌/◌, ◌≤◌}
use lib.ListN.{length}
use Rattle.paper.specs.Strokes.{rect_at}
use Rattle.laws_memory.specs.Rectangles.{pulled}
use Rattle.dots_pull.proofs.pull_row.Given as goal

abbrev pub invariant-loop-k : goal.invariant-loop-k
invariant-loop-k l =
    (l.k ≤ l.k-end) × (l.k-end ≡ l.width / 2) × (length l.mem ≡ length l.initial.mem) × (l.mem ≡ pulled l.g (rect_at l.left l.y (2 * l.k) 1) l.right l.down l.initial.mem)
