-- `cells_rows::row` meets its contract. The loop's invariant: the columns so far are laid, whatever the memory was before the blank one on the
-- left, and the next goes to address a. Assumes nothing.
use mathlib.Core.Path.{◌≡◌}
use mathlib.Core.List.{List}
use Prim.Native.Nat.{ℕ, ◌+◌, ◌*◌, ◌≤◌}
use lib.ListN.{length}
use Rattle.laws_laid.specs.Laid.{laid}
use Rattle.glyphs_columns.specs.Columns.{row_stroke}
use Rattle.cells_rows.proofs.row.Given as goal

abbrev pub invariant-loop-column : goal.invariant-loop-column
invariant-loop-column g l =
    (l.column-index ≤ length l.f.cols.now) × (length l.mem ≡ length l.initial.mem) × (l.a ≡ l.from + l.to.step * ((l.f.blanks + l.column-index) * l.to.times))
    × ((m : List ℕ) → l.initial.mem ≡ laid (row_stroke l.f.cols.now l.f.blanks l.f.lift l.f.style l.down l.r l.to.times g.row.MIXING) l.to.step l.from (l.f.blanks * l.to.times) m
    → l.mem ≡ laid (row_stroke l.f.cols.now l.f.blanks l.f.lift l.f.style l.down l.r l.to.times g.row.MIXING) l.to.step l.from ((l.f.blanks + l.column-index) * l.to.times) m)
