-- `glass::copy_row` meets its contract. The loop's invariant: the first j columns are copied, and counted.
-- Assumes nothing.
use mathlib.Core.Path.{◌≡◌}
use Prim.Native.Nat.{◌≤◌, ◌+◌}
use lib.ListN.{length, get_or}
use Rattle.paper.specs.Panel.{address}
use Rattle.paper.specs.Strokes.{rect_at, rect_map}
use Rattle.glass.proofs.copy_row.Given as goal

abbrev pub invariant-loop-j : goal.invariant-loop-j
invariant-loop-j l =
    (l.j ≤ l.width) × (l.moved ≡ l.j) × (length l.glass ≡ length l.initial.glass)
    × (l.glass ≡ rect_map l.g (rect_at l.first l.y l.j 1) (λ i r b. get_or l.mem (address l.g (l.first + i) (l.y + r)) 0) l.initial.glass)
