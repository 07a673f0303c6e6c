-- A character that stands in a line with room for another after it: drawn whole, and the cursor a cell further. Assumes nothing.
use mathlib.Core.Path.{◌≡◌, ap, ap₂}
use mathlib.Core.List.{List, []}
use Prim.Native.Nat.{ℕ, ◌+◌, ◌*◌, ◌≤◌}
use native.Mathlib.Omega.{arith}
use borrow.Author.Tests.{le-leb}
use Rattle.paper.specs.declared.Module.{Module}
use Rattle.paper.specs.declared.Span.{Span}
use Rattle.paper.specs.declared.Style.{Style}
use Rattle.paper.specs.declared.View.{View}
use Rattle.paper.specs.Downloads.{Faces, glyph_of}
use Rattle.paper.specs.Strokes.{rect_at, mark_rect}
use Rattle.paper.specs.Cells.{cell_width, cell_height, part_of, draw_stroke}
use Rattle.paper.specs.Moves.{writing, to, ht_of, draw_tab, character_of}
use Rattle.cells_columns.specs.DrawnAs.{drawn_as}
use Rattle.cells.specs.Drawn.{drawn}
use Rattle.moves.specs.declared.Spot.{Spot}
use Rattle.moves.specs.Does.{Does, spot}
use Rattle.moves.proofs.Done.{does_only, does_stroke, does_after}

-- a cell that stands in the range is whole
whole_part : (v : View) (c l : ℕ) → v.x + c ≤ v.width → v.y + l ≤ v.height
    → rect_at (v.left + v.x) (v.top + v.y) c l ≡ part_of v c l
whole_part v c l a d = ap₂ (rect_at (v.left + v.x) (v.top + v.y)) (omega arith) (omega arith)

module _ (g : Module) (ps : List Span) (m : List ℕ) (font : Faces) (w : ℕ) (y : Style) (code : ℕ) (v : View)
    (across : v.x + 2 * cell_width g w y ≤ v.width) (down : v.y + cell_height y ≤ v.height) where
  -- HT steps on
  steps_on : ht_of g v (cell_width g w y) (cell_height y) ≡ record { view = to v (v.x + cell_width g w y) v.y; strokes = [] }
  unfolding ht_of
  steps_on = rw (le-leb (v.x + 2 * cell_width g w y) v.width across)

  pub drawn_in_line : {r : Spot} {qs : List Span} {m₁ : List ℕ} → r ≡ spot (to v (v.x + cell_width g w y) v.y) qs
      → qs ≡ mark_rect (rect_at (v.left + v.x) (v.top + v.y) (cell_width g w y) (cell_height y)) ps
      → m₁ ≡ drawn g (glyph_of g font code) w y (rect_at (v.left + v.x) (v.top + v.y) (cell_width g w y) (cell_height y)) m
      → Does g ps m r m₁ (character_of g font w y code v)
  unfolding character_of draw_tab drawn_as
  drawn_in_line {qs} {m₁} e k d =
      let whole = whole_part v (cell_width g w y) (cell_height y) (omega arith) down in
      rw (le-leb (v.x + cell_width g w y) v.width (omega arith))
      (does_after (writing (draw_stroke g font w y code v) v) (λ q. ht_of g q (cell_width g w y) (cell_height y))
      (does_stroke {p = spot v qs} (draw_stroke g font w y code v) v (ap (spot v) (rw whole at k)) (rw whole at d))
      (rw steps_on (does_only _ e)))
