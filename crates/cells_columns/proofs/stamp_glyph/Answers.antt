-- `cells_columns::stamp_glyph` meets its contract. The loop's invariant: the first j columns are mixed in. Assumes nothing.
use mathlib.Core.Path.{refl, ap, ◌∙◌}
use native.Mathlib.Omega.{arith}
use lib.ListN.{get_or, length-take}
use Rattle.std.proofs.lemmas.List.{get_or-take}
use Rattle.laws_memory.proofs.Rects.{rect_none}
use Rattle.laws_bytes.specs.Bytes.{reversed_byte}
use Rattle.glyphs_columns.specs.Columns.{lifted_of, placing_of}
use Rattle.glyphs_columns.proofs.Frames.{placed_byte_lem}
use Rattle.cells_columns.specs.Mixed.{inlaid}
use Rattle.cells_columns.proofs.Stamps.{inlaid-turn}
use Rattle.cells_columns.proofs.stamp_glyph.Goals as goal

pub loop-j-init : goal.loop-j-init
unfolding inlaid
loop-j-init c =
    (omega arith, refl, rect_none _ _ _ _ (λ a i. omega arith))

pub loop-j-preserved : goal.loop-j-preserved
loop-j-preserved c =
    let head = c.loop-j in
    let a = c.args in
    let long = length-take a.count a.cols.now in (
      omega (arith, long),
      omega (arith, c.mix.auto.mem),
      inlaid-turn _ _ _ _ _ _ _ _ _ _ _ head.invariant.2
          (rw (c.reversed-v.ensures, c.placed.ensures, c.placing-p.ensures)
          (ap (λ v. reversed_byte a.style (lifted_of (placing_of a.framed a.top) v)) (get_or-take a.count a.cols.now head.j 0 (omega (arith, long)))
          ∙ ap (reversed_byte a.style) (placed_byte_lem a.framed a.top (get_or a.cols.now head.j 0))))
          c.mix.ensures,
    )
