-- `text::character` meets its contract. Where it does not fit, the wrap keeps its range, so that it can be drawn afterwards.
-- Assumes nothing.
use Prim.Native.Nat.{◌+◌}
use native.Mathlib.Omega.{arith}
use borrow.Author.Tests.{le-leb, lt-leb, eq-eqb, ne_eqb}
use Rattle.glyphs.specs.Faces.{faces_of}
use Rattle.paper.specs.Cells.{cell_width, cell_height}
use Rattle.paper.specs.Moves.{ht_of, draw_tab, blank_tab, character_of}
use Rattle.laws_state.proofs.Moves.{ht_kept, blank_kept}
use Rattle.moves.proofs.Done.{does_after}
use Rattle.text_cells.proofs.Steps.{sized_room}
use Rattle.text.proofs.Steps.{ready_after}
use Rattle.text.proofs.character.Goals as goal

pub returns-then-v-c : goal.returns-then-v-c
unfolding character_of
returns-then-v-c c =
    let a = c.args in
    rw (le-leb (a.p.view.x + cell_width a.g a.cell.blanks a.cell.style) a.p.view.width (omega arith))
    c.draw_tab.ensures

pub draw_tab-requires-then-v-eq3 : goal.draw_tab-requires-then-v-eq3
draw_tab-requires-then-v-eq3 c =
    ready_after c.args.cell c.args.p.view _ c.tab-stepped.ensures
    (ht_kept c.args.g c.args.p.view _ _ c.requires.1.0) c.tab-stepped.auto.mem c.requires

pub returns-then-v-eq3 : goal.returns-then-v-eq3
unfolding character_of
returns-then-v-eq3 c =
    let a = c.args in
    let size = c.requires.1.1.0.cell in
    let width = cell_width a.g a.cell.blanks a.cell.style in
    rw (lt-leb (a.p.view.x + width) a.p.view.width (omega arith), eq-eqb _ _ c.if-v-eq3.true)
    (does_after (ht_of a.g a.p.view width (cell_height a.cell.style))
    (draw_tab a.g (faces_of a.faces) a.cell.blanks a.cell.style a.code)
    (rw (size.columns, size.rows) at c.tab-stepped.ensures) c.draw_tab-then-v-eq3.ensures)

pub draw_tab-requires-else-v-eq3 : goal.draw_tab-requires-else-v-eq3
draw_tab-requires-else-v-eq3 c =
    let a = c.args in
    ready_after a.cell a.p.view _ c.blank_tab-blanked.ensures
    (blank_kept a.g a.cell.blanks a.cell.style a.p.view (sized_room a.cell c.requires.1.1.0.cell c.requires.1.0))
    c.blank_tab-blanked.auto.mem c.requires

pub returns-else-v-eq3 : goal.returns-else-v-eq3
unfolding character_of
returns-else-v-eq3 c =
    let a = c.args in
    let size = c.requires.1.1.0.cell in
    let width = cell_width a.g a.cell.blanks a.cell.style in
    rw (lt-leb (a.p.view.x + width) a.p.view.width (omega arith), ne_eqb _ _ c.if-v-eq3.false)
    (does_after (blank_tab a.g a.cell.blanks a.cell.style a.p.view)
    (draw_tab a.g (faces_of a.faces) a.cell.blanks a.cell.style a.code)
    c.blank_tab-blanked.ensures c.draw_tab-else-v-eq3.ensures)
