-- `glyphs::font_glyph` meets its contract: a code's glyph stands in the font. Assumes nothing.
use Prim.Native.Nat.{◌*◌, ◌-◌}
use native.Mathlib.Omega.{arith}
use Rattle.glyphs.proofs.Parts.{part_bytes, glyph_in}
use Rattle.glyphs.proofs.font_glyph.Goals as goal

pub returns : goal.returns
returns c =
    let a = c.args in
    part_bytes a.g.glyph (a.g.glyph * (a.code - 0x20)) a.font.now
    (omega (arith, glyph_in a.g a.code c.requires.1 (omega arith)))
