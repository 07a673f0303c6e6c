-- `text_tab::blank_tab` meets its contract. Assumes nothing.
use native.Mathlib.Omega.{arith}
use Rattle.paper.specs.Cells.{cell_width, cell_height, blank_stroke}
use Rattle.paper.specs.Moves.{ht_of, blank_tab}
use Rattle.cells_bytes.specs.Stored.{blanked}
use Rattle.moves.proofs.Done.{does_stroke, does_after}
use Rattle.text_tab.proofs.blank_tab.Goals as goal

pub blank-requires : goal.blank-requires
blank-requires c =
    rw c.inside-r.ensures (omega arith)

pub marked-requires : goal.marked-requires
marked-requires c =
    rw c.inside-r.ensures (omega arith)

pub tab-requires : goal.tab-requires
tab-requires c =
    let pre = c.requires in
    (pre.0, (rw c.marked.ensures pre.1.0, omega (arith, c.blank.auto.mem)))

pub returns : goal.returns
unfolding blank_tab blanked
returns c =
    let a = c.args in
    let size = c.requires.1.1.0 in
    does_after _ (λ q. ht_of a.g q (cell_width a.g a.cell.blanks a.cell.style) (cell_height a.cell.style))
    (does_stroke (blank_stroke a.g a.cell.blanks a.cell.style a.p.view) a.p.view
    (rw (c.inside-r.ensures, size.columns, size.rows) at c.marked.ensures)
    (rw (c.inside-r.ensures, size.columns, size.rows) at c.blank.ensures))
    (rw (size.columns, size.rows) at c.tab.ensures)
