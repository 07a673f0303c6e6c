-- `text_tab::draw_tab` meets its contract. Assumes nothing.
use native.Mathlib.Omega.{arith}
use Rattle.glyphs.specs.Faces.{faces_of}
use Rattle.paper.specs.Cells.{cell_width, cell_height, draw_stroke}
use Rattle.paper.specs.Moves.{ht_of, draw_tab}
use Rattle.cells_columns.specs.DrawnAs.{drawn_as}
use Rattle.moves.proofs.Done.{does_stroke, does_after}
use Rattle.text_tab.proofs.draw_tab.Goals as goal

pub draw_code-requires : goal.draw_code-requires
draw_code-requires c =
    rw c.inside-r.ensures (omega arith)

pub marked-requires : goal.marked-requires
marked-requires c =
    rw c.inside-r.ensures (omega arith)

pub tab-requires : goal.tab-requires
tab-requires c =
    let pre = c.requires in
    (pre.0, (rw c.marked.ensures pre.1.0, omega (arith, c.draw_code.auto.mem)))

pub returns : goal.returns
unfolding draw_tab drawn_as
returns c =
    let a = c.args in
    let f = faces_of a.faces in
    let size = c.requires.1.1.0.cell in
    does_after _ (λ q. ht_of a.g q (cell_width a.g a.cell.blanks a.cell.style) (cell_height a.cell.style))
    (does_stroke (draw_stroke a.g f a.cell.blanks a.cell.style a.code a.p.view) a.p.view
    (rw (c.inside-r.ensures, size.columns, size.rows) at c.marked.ensures)
    (rw (c.inside-r.ensures, size.columns, size.rows) at c.draw_code.ensures))
    (rw (size.columns, size.rows) at c.tab.ensures)
