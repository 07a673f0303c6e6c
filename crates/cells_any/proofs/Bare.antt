-- What the test for bare columns says, and which glyph is drawn bare. Assumes nothing.
use mathlib.Core.Path.{◌≡◌, sym, ap, ◌∙◌}
use mathlib.Core.Bool.{Bool, true, false, ◌&&◌}
use mathlib.Core.List.{List}
use Prim.Native.Nat.{ℕ, ◌≤◌}
use borrow.Author.Tests.{leb-true, eqb-true}
use lib.Dec.{leb, eqb}
use lib.ListN.{length}
use Rattle.paper.specs.declared.Module.{Module}
use Rattle.paper.specs.declared.Rect.{Rect}
use Rattle.paper.specs.declared.Style.{Style}
use Rattle.laws_memory.proofs.Tests.{and_parts}
use Rattle.glyphs_columns.proofs.Frames.{framed_other}
use Rattle.cells_columns.specs.DrawnAs.{drawn_as}
use Rattle.cells.specs.Drawn.{drawn}

-- what the test for bare columns says
pub bare_facts : (y : Style) (height width n : ℕ)
    → (((eqb y.across 1 && eqb y.down 1) && eqb height 1) && leb width n) ≡ true
    → (y.across ≡ 1) × (y.down ≡ 1) × (height ≡ 1) × (width ≤ n)
bare_facts y height width n t =
    let three = and_parts ((eqb y.across 1 && eqb y.down 1) && eqb height 1) (leb width n) t in
    let two = and_parts (eqb y.across 1 && eqb y.down 1) (eqb height 1) three.0 in
    let one = and_parts (eqb y.across 1) (eqb y.down 1) two.0 in
    (eqb-true _ _ one.0, eqb-true _ _ one.1, eqb-true _ _ two.1, leb-true width n three.1)

-- a glyph is drawn bare where it has not as many columns as the font's
module _ (g : Module) (cols : List ℕ) (w : ℕ) (y : Style) (q : Rect) (m m' : List ℕ) where
  pub drawn_other : (length cols ≡ g.glyph → ⊥) → m' ≡ drawn_as g false cols w y q m → m' ≡ drawn g cols w y q m
  drawn_other n p = p ∙ ap (λ (f : Bool). drawn_as g f cols w y q m) (sym (framed_other g cols n))
