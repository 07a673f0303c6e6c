-- `text_cells::draw_found` meets its contract, by whether the code has columns of its own. Assumes nothing.
use mathlib.Core.Path.{sym, ap, ◌∙◌}
use lib.ListN.{length}
use Rattle.glyphs.specs.Faces.{faces_of}
use Rattle.glyphs.proofs.Parts.{font_columns, own_none, own_some}
use Rattle.text_cells.proofs.Steps.{drawn_from}
use Rattle.text_cells.proofs.draw_found.Goals as goal

pub draw_alike-requires : goal.draw_alike-requires
draw_alike-requires c =
    let pre = c.requires in
    let a = c.args in
    record { within = (pre.within.0, pre.within.1, font_columns a.g a.faces.font.now _ a.code c.font_glyph-fonts.ensures); le_across = pre.le_across }

pub returns-then-cols-eq0 : goal.returns-then-cols-eq0
returns-then-cols-eq0 c =
    let a = c.args in
    drawn_from a.g (faces_of a.faces) a.code a.w a.style a.r a.mem.now
    (c.font_glyph-fonts.ensures
    ∙ sym (own_none a.g a.faces.font.now a.faces.own.now a.code (ap length (sym c.own_glyph-cols.ensures) ∙ c.if-cols-eq0.true)))
    c.draw_alike.ensures

pub returns : goal.returns
returns c =
    let a = c.args in
    let e = c.own_glyph-cols.ensures in
    drawn_from a.g (faces_of a.faces) a.code a.w a.style a.r a.mem.now
    (e ∙ sym (own_some a.g a.faces.font.now a.faces.own.now a.code (λ n. c.if-cols-eq0.false (ap length e ∙ n))))
    c.draw.ensures
