-- What the tests for a cell that is not enlarged say, and which glyph is drawn framed. Assumes nothing.
use mathlib.Core.Path.{◌≡◌, sym, ap, ◌∙◌}
use mathlib.Core.Bool.{Bool, true, ◌&&◌}
use mathlib.Core.List.{List}
use Prim.Native.Nat.{ℕ, ◌≤◌}
use borrow.Author.Tests.{leb-true, eqb-true}
use lib.Dec.{leb, eqb}
use lib.ListN.{length}
use Rattle.paper.specs.declared.Module.{Module}
use Rattle.paper.specs.declared.Rect.{Rect}
use Rattle.paper.specs.declared.Style.{Style}
use Rattle.laws_memory.proofs.Tests.{and_parts}
use Rattle.glyphs_columns.proofs.Frames.{framed_alike}
use Rattle.cells_columns.specs.DrawnAs.{drawn_as}
use Rattle.cells.specs.Drawn.{drawn}

-- what the test for a part of such a cell says
pub plain_facts : (y : Style) (height width whole w : ℕ)
    → ((((eqb y.across 1 && eqb y.down 1) && eqb height 1) && eqb width whole) && leb w 1) ≡ true
    → (y.across ≡ 1) × (y.down ≡ 1) × (height ≡ 1) × (width ≡ whole) × (w ≤ 1)
plain_facts y height width whole w t =
    let four = and_parts (((eqb y.across 1 && eqb y.down 1) && eqb height 1) && eqb width whole) (leb w 1) t in
    let three = and_parts ((eqb y.across 1 && eqb y.down 1) && eqb height 1) (eqb width whole) four.0 in
    let two = and_parts (eqb y.across 1 && eqb y.down 1) (eqb height 1) three.0 in
    let one = and_parts (eqb y.across 1) (eqb y.down 1) two.0 in (
      eqb-true _ _ one.0,
      eqb-true _ _ one.1,
      eqb-true _ _ two.1,
      eqb-true _ _ three.1,
      leb-true w 1 four.1,
    )

-- and of a whole one
pub plain_cell_facts : (y : Style) (width whole w : ℕ)
    → (((eqb y.across 1 && eqb y.down 1) && eqb width whole) && leb w 1) ≡ true
    → (y.across ≡ 1) × (y.down ≡ 1) × (width ≡ whole) × (w ≤ 1)
plain_cell_facts y width whole w t =
    let three = and_parts ((eqb y.across 1 && eqb y.down 1) && eqb width whole) (leb w 1) t in
    let two = and_parts (eqb y.across 1 && eqb y.down 1) (eqb width whole) three.0 in
    let one = and_parts (eqb y.across 1) (eqb y.down 1) two.0 in
    (eqb-true _ _ one.0, eqb-true _ _ one.1, eqb-true _ _ two.1, leb-true w 1 three.1)

-- a glyph is drawn framed as the font's where it has as many columns
module _ (g : Module) (cols : List ℕ) (w : ℕ) (y : Style) (q : Rect) (m m' : List ℕ) where
  pub drawn_alike : length cols ≡ g.glyph → m' ≡ drawn_as g g.framed cols w y q m → m' ≡ drawn g cols w y q m
  drawn_alike e p = p ∙ ap (λ (f : Bool). drawn_as g f cols w y q m) (sym (framed_alike g cols e))
