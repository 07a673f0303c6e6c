-- `cells_bytes::blank` meets its contract. The loop's invariant: the first j columns are mixed in. Assumes nothing.
use mathlib.Core.Path.{◌≡◌}
use Prim.Native.Nat.{◌≤◌, ◌-◌}
use lib.ListN.{length}
use Rattle.paper.specs.Strokes.{rect_at, rect_map}
use Rattle.cells_columns.proofs.Columns.{inked}
use Rattle.cells_bytes.proofs.blank.Given as goal

abbrev pub invariant-loop-j : goal.invariant-loop-j
invariant-loop-j l =
    (l.j ≤ l.j-end) × (length l.mem ≡ length l.initial.mem) × (l.mem ≡ rect_map l.g (rect_at l.r.left l.r.top l.j l.r.height) (inked l.style (λ j r. 0)) l.initial.mem)
