-- `glass::copy_rows` meets its contract. The loop's invariant: the glass and the count are those of the first y spans.
-- Assumes nothing.
use mathlib.Core.Path.{◌≡◌}
use Prim.Native.Nat.{◌≤◌, ◌*◌}
use lib.ListN.{length, take}
use Rattle.paper.specs.Strokes.{refreshed, shown_all}
use Rattle.glass.proofs.copy_rows.Given as goal

abbrev pub invariant-loop-y : goal.invariant-loop-y
invariant-loop-y l =
    (l.y ≤ 2) × (length l.p-items ≡ 2) × (length l.glass ≡ length l.initial.glass) × (l.glass ≡ refreshed l.g l.mem (take l.y l.p-items) l.initial.glass)
    × (l.moved ≡ shown_all l.g (take l.y l.p-items)) × (l.moved ≤ l.y * 65536)
