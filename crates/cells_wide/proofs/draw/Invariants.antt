-- `cells_wide::draw` meets its contract. The loop's invariant: the first r rows are drawn. Assumes nothing.
use mathlib.Core.Path.{◌≡◌}
use Prim.Native.Nat.{◌≤◌}
use lib.ListN.{length}
use Rattle.laws_laid.specs.Laid.{piled}
use Rattle.glyphs_columns.specs.Columns.{cell_stroke}
use Rattle.cells_wide.proofs.draw.Given as goal

abbrev pub invariant-loop-r : goal.invariant-loop-r
invariant-loop-r l =
    (l.r ≤ l.height) × (length l.mem ≡ length l.initial.mem) × (l.mem ≡ piled (cell_stroke l.f.cols.now l.f.blanks l.f.lift l.f.style) l.s l.a l.width l.r l.initial.mem)
