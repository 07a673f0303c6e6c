-- `cells_cut::cut_row` meets its contract. The loop's invariant: the first j columns are laid, and the next goes to address a.
-- Assumes nothing.
use mathlib.Core.Path.{◌≡◌}
use Prim.Native.Nat.{◌+◌, ◌*◌, ◌≤◌}
use lib.ListN.{length}
use Rattle.laws_laid.specs.Laid.{laid}
use Rattle.glyphs_columns.specs.Columns.{cell_stroke}
use Rattle.cells_cut.proofs.cut_row.Given as goal

abbrev pub invariant-loop-j : goal.invariant-loop-j
invariant-loop-j l =
    (l.j ≤ l.width) × (length l.mem ≡ length l.initial.mem) × (l.a ≡ l.from + l.s * l.j) × (l.mem ≡ laid (cell_stroke l.f.cols.now l.f.blanks l.f.lift l.f.style l.r) l.s l.from l.j l.initial.mem)
