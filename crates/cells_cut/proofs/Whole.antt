-- What the test for a whole cell says. Assumes nothing.
use mathlib.Core.Path.{◌≡◌}
use mathlib.Core.Bool.{true, ◌&&◌}
use Prim.Native.Nat.{ℕ, ◌+◌, ◌*◌, ◌≤◌}
use borrow.Author.Tests.{leb-true, eqb-true}
use lib.Dec.{leb, eqb}
use Rattle.paper.specs.declared.Style.{Style}
use Rattle.laws_memory.proofs.Tests.{and_parts}
use Rattle.cells_cut.specs.Whole.{is_whole}

-- what the test for a whole cell says
pub whole_facts : (glyph blanks right : ℕ) (y : Style) (width height : ℕ) → is_whole glyph blanks right y width height ≡ true
    → (blanks ≤ 1) × (y.across ≤ 4) × (height ≡ y.down) × (width ≡ (blanks + glyph + right) * y.across)
whole_facts glyph blanks right y width height t =
    let left = and_parts (leb blanks 1) (leb y.across 4 && (eqb height y.down && eqb width ((blanks + glyph + right) * y.across))) t in
    let few = and_parts (leb y.across 4) (eqb height y.down && eqb width ((blanks + glyph + right) * y.across)) left.1 in
    let high = and_parts (eqb height y.down) (eqb width ((blanks + glyph + right) * y.across)) few.1 in
    (leb-true blanks 1 left.0, leb-true y.across 4 few.0, eqb-true _ _ high.0, eqb-true _ _ high.1)
