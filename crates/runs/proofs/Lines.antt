-- What the tests of a line's room say, and a character in MD3's last cell: drawn whole, and the line pushed left. Assumes nothing.
use mathlib.Core.Path.{◌≡◌}
use mathlib.Core.Bool.{true, ◌&&◌}
use mathlib.Core.List.{List}
use Prim.Native.Nat.{ℕ, ◌+◌, ◌*◌, ◌<◌, ◌≤◌}
use native.Mathlib.Omega.{arith}
use lib.Dec.{leb, ltb, eqb}
use borrow.Author.Tests.{leb-true, ltb-true, eqb-true, le-leb, lt-leb, ne_eqb}
use Rattle.paper.specs.declared.Module.{Module}
use Rattle.paper.specs.declared.Span.{Span}
use Rattle.paper.specs.declared.Style.{Style}
use Rattle.paper.specs.declared.View.{View}
use Rattle.paper.specs.Downloads.{Faces}
use Rattle.paper.specs.Cells.{cell_width, cell_height, draw_stroke}
use Rattle.paper.specs.Moves.{writing, push_left, ht_of, draw_tab, character_of}
use Rattle.laws_memory.proofs.Tests.{and_parts}
use Rattle.moves.specs.declared.Spot.{Spot}
use Rattle.moves.specs.Does.{Does}
use Rattle.moves.proofs.Done.{does_after}

-- what the test for a cell and another after it says
pub room_after : (x c width y l height : ℕ) → (leb (x + 2 * c) width && leb (y + l) height) ≡ true → (x + 2 * c ≤ width) × (y + l ≤ height)
room_after x c width y l height e =
    let f = and_parts (leb (x + 2 * c) width) (leb (y + l) height) e in
    (leb-true (x + 2 * c) width f.0, leb-true (y + l) height f.1)

-- what the test for MD3's last cell says
pub last_cell : (mode x c width : ℕ) → (eqb mode 3 && (ltb width (x + 2 * c) && leb (x + c) width)) ≡ true
    → (mode ≡ 3) × (width < x + 2 * c) × (x + c ≤ width)
last_cell mode x c width e =
    let f = and_parts (eqb mode 3) _ e in
    let g = and_parts (ltb width (x + 2 * c)) (leb (x + c) width) f.1 in
    (eqb-true mode 3 f.0, ltb-true width (x + 2 * c) g.0, leb-true (x + c) width g.1)

module _ (g : Module) (ps : List Span) (m : List ℕ) (font : Faces) (w : ℕ) (y : Style) (code : ℕ) (v : View) (third : v.mode ≡ 3)
    (full : v.width < v.x + 2 * cell_width g w y) (across : v.x + cell_width g w y ≤ v.width) where
  -- HT pushes the line left
  pushes : ht_of g v (cell_width g w y) (cell_height y) ≡ push_left g v (cell_width g w y) (cell_height y)
  unfolding ht_of
  pushes =
      rw (lt-leb (v.x + 2 * cell_width g w y) v.width full, ne_eqb v.mode 1 (omega arith), ne_eqb v.mode 2 (omega arith))

  pub drawn_pushed : {q r : Spot} {m₁ m₂ : List ℕ} → Does g ps m q m₁ (writing (draw_stroke g font w y code v) v)
      → Does g q.spans m₁ r m₂ (push_left g q.view (cell_width g w y) (cell_height y))
      → Does g ps m r m₂ (character_of g font w y code v)
  unfolding character_of draw_tab
  drawn_pushed d push =
      rw (le-leb (v.x + cell_width g w y) v.width across)
      (does_after (writing (draw_stroke g font w y code v) v) (λ q. ht_of g q (cell_width g w y) (cell_height y)) d
      (rw (d.view, pushes) (rw d.view at push)))
