-- `runs_line::draw_code` meets its contract, by whether there are downloads. Assumes nothing.
use mathlib.Core.Path.{sym, ap₂, ◌∙◌}
use Prim.Native.Nat.{ℕ}
use native.Mathlib.Omega.{arith}
use Rattle.paper.specs.Strokes.{rect_at}
use Rattle.glyphs.specs.Faces.{faces_of}
use Rattle.glyphs.proofs.Parts.{font_columns, font_alone}
use Rattle.cells.specs.Drawn.{drawn}
use Rattle.text_cells.proofs.Steps.{drawn_from}
use Rattle.runs_line.proofs.draw_code.Goals as goal

pub draw_whole-requires : goal.draw_whole-requires
draw_whole-requires c =
    let a = c.args in
    let whole = font_columns a.g a.faces.font.now _ a.code c.font_glyph-cols.ensures in
    omega (arith, c.requires, whole)

pub returns-then-faces-eq0 : goal.returns-then-faces-eq0
returns-then-faces-eq0 c =
    let a = c.args in
    let size = c.requires.width_value in
    drawn_from a.g (faces_of a.faces) a.code a.cell.blanks a.cell.style a.r a.mem.now
    (c.font_glyph-cols.ensures ∙ sym (font_alone a.g a.faces.font.now a.faces.own.now a.code c.if-faces-eq0.true))
    (c.draw_whole.ensures
    ∙ ap₂ (λ (width height : ℕ). drawn a.g c.font_glyph-cols.result.now a.cell.blanks a.cell.style (rect_at a.r.left a.r.top width height) a.mem.now)
    (sym size.0) (sym size.1))
