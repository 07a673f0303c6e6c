-- The steps of a cell: what drawing asks, in the paper's words, and what it is drawn from. Assumes nothing.
use mathlib.Core.Path.{◌≡◌, ap, ◌∙◌}
use mathlib.Core.List.{List}
use Prim.Native.Nat.{ℕ}
use Rattle.paper.specs.declared.Module.{Module}
use Rattle.paper.specs.declared.Rect.{Rect}
use Rattle.paper.specs.declared.Style.{Style}
use Rattle.paper.specs.declared.View.{View}
use Rattle.paper.specs.Downloads.{Faces, glyph_of}
use Rattle.paper.specs.Cells.{cell_width, cell_height}
use Rattle.laws_state.specs.Room.{Room}
use Rattle.glyphs.specs.declared.Cell.{Cell}
use Rattle.glyphs.specs.Cell.{Drawable}
use Rattle.cells.specs.Drawn.{drawn}

-- room for a cell is room for one of the size that its settings ask for
pub sized_room : {g : Module} {v : View} (c : Cell) → Drawable g c → Room g v c.columns c.rows
    → Room g v (cell_width g c.blanks c.style) (cell_height c.style)
sized_room c k i = rw (k.columns, k.rows) at i

-- a cell drawn from equal columns
pub drawn_from : {cols m' : List ℕ} (g : Module) (f : Faces) (code w : ℕ) (y : Style) (q : Rect) (m : List ℕ) → cols ≡ glyph_of g f code
    → m' ≡ drawn g cols w y q m → m' ≡ drawn g (glyph_of g f code) w y q m
drawn_from g f code w y q m e p = p ∙ ap (λ (cols : List ℕ). drawn g cols w y q m) e
