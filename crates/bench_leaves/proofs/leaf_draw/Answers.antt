-- `bench_leaves::leaf_draw` meets its contract: its leaf has what it asks. Assumes nothing.
use Rattle.laws_memory.specs.Rectangles.{Within, Fits}
use Rattle.glyphs.proofs.Parts.{font_columns}
use Rattle.bench_leaves.proofs.Leaves.{font_small}
use Rattle.bench_leaves.proofs.leaf_draw.Goals as goal

pub font_length-requires : goal.font_length-requires
font_length-requires c =
    font_small _ c.small-g.ensures

pub draw_alike-requires-clause-within : goal.draw_alike-requires-clause-within
draw_alike-requires-clause-within c =
    let g = c.small-g.result in
    let placed : Within g c.in-Some.r × Fits g c.args.mem.now = rw c.small-g.ensures c.in-Some.ensures in
    (placed.0, placed.1, font_columns g _ _ _ c.font_glyph-cols.ensures)
