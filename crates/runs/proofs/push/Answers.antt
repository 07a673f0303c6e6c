-- `runs::push` meets its contract: HT in MD3's last cell pushes the line left. Assumes nothing.
use native.Mathlib.Omega.{arith}
use Rattle.glyphs.specs.Faces.{faces_of}
use Rattle.paper.specs.Cells.{draw_stroke}
use Rattle.cells_columns.specs.DrawnAs.{drawn_as}
use Rattle.moves.proofs.Done.{does_stroke}
use Rattle.runs.proofs.Lines.{drawn_pushed}
use Rattle.runs.proofs.push.Goals as goal

pub draw_code-requires : goal.draw_code-requires
draw_code-requires c =
    rw c.inside-r.ensures (omega (arith, c.requires))

pub marked-requires : goal.marked-requires
marked-requires c =
    rw c.inside-r.ensures (omega (arith, c.requires))

pub push_left-requires : goal.push_left-requires
push_left-requires c =
    let pre = c.requires in
    rw c.marked.ensures (pre.usable.0, (pre.usable.1.0, (pre.mode_value.1, omega (arith, c.draw_code.auto.mem))))

pub returns : goal.returns
unfolding drawn_as
returns c =
    let a = c.args in
    let font = faces_of a.faces in
    let size = c.requires.usable.1.1.0.cell in
    let f = c.requires.mode_value in
    drawn_pushed a.g a.p.spans a.mem.now font a.cell.blanks a.cell.style a.code a.p.view f.0
    (rw size.columns at f.1) (rw size.columns at f.2)
    (does_stroke (draw_stroke a.g font a.cell.blanks a.cell.style a.code a.p.view) a.p.view
    (rw (c.inside-r.ensures, size.columns, size.rows) at c.marked.ensures)
    (rw (c.inside-r.ensures, size.columns, size.rows) at c.draw_code.ensures))
    (rw (size.columns, size.rows) at c.push_left.ensures)
