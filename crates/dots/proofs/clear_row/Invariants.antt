-- `dots::clear_row` meets its contract. The loop's invariant: the first j columns are zeroed. Assumes nothing.
use mathlib.Core.Path.{◌≡◌}
use Prim.Native.Nat.{◌≤◌}
use lib.ListN.{length}
use Rattle.paper.specs.Strokes.{rect_at}
use Rattle.laws_memory.specs.Rectangles.{cleared}
use Rattle.dots.proofs.clear_row.Given as goal

abbrev pub invariant-loop-j : goal.invariant-loop-j
invariant-loop-j l =
    (l.j ≤ l.width) × (length l.mem ≡ length l.initial.mem) × (l.mem ≡ cleared l.g (rect_at l.left l.y l.j 1) l.initial.mem)
