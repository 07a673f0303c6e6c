-- `cells_columns::stamp_glyph` meets its contract. The loop's invariant: the first j columns are mixed in. Assumes nothing.
use mathlib.Core.Path.{◌≡◌}
use Prim.Native.Nat.{◌≤◌}
use lib.ListN.{length}
use Rattle.cells_columns.specs.Mixed.{inlaid}
use Rattle.cells_columns.proofs.stamp_glyph.Given as goal

abbrev pub invariant-loop-j : goal.invariant-loop-j
invariant-loop-j l =
    (l.j ≤ l.count) × (length l.mem ≡ length l.initial.mem) × (l.mem ≡ inlaid l.g l.framed l.cols l.style l.left l.top l.j l.initial.mem)
