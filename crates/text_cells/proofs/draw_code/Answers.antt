-- `text_cells::draw_code` meets its contract, by whether there are downloads. Assumes nothing.
use mathlib.Core.Path.{sym, ◌∙◌}
use Rattle.glyphs.specs.Faces.{faces_of}
use Rattle.glyphs.proofs.Parts.{font_columns, font_alone}
use Rattle.text_cells.proofs.Steps.{drawn_from}
use Rattle.text_cells.proofs.draw_code.Goals as goal

pub draw_alike-requires : goal.draw_alike-requires
draw_alike-requires c =
    let pre = c.requires in
    let a = c.args in
    record { within = (pre.within.0, pre.within.1, font_columns a.g a.faces.font.now _ a.code c.font_glyph-cols.ensures); le_across = pre.le_across }

pub returns-then-faces-eq0 : goal.returns-then-faces-eq0
returns-then-faces-eq0 c =
    let a = c.args in
    drawn_from a.g (faces_of a.faces) a.code a.w a.style a.r a.mem.now
    (c.font_glyph-cols.ensures ∙ sym (font_alone a.g a.faces.font.now a.faces.own.now a.code c.if-faces-eq0.true))
    c.draw_alike.ensures
