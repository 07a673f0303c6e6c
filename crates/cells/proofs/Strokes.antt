-- What drawing makes of the memory is what the paper's stroke makes of it. Assumes nothing.
use mathlib.Core.Path.{◌≡◌, refl}
use mathlib.Core.List.{List}
use Prim.Native.Nat.{ℕ}
use Rattle.paper.specs.declared.Module.{Module}
use Rattle.paper.specs.declared.Style.{Style}
use Rattle.paper.specs.declared.View.{View}
use Rattle.paper.specs.Strokes.{applied}
use Rattle.paper.specs.Cells.{cell_width, cell_height, part_of, glyph_stroke}
use Rattle.cells_columns.specs.DrawnAs.{drawn_as}
use Rattle.cells.specs.Drawn.{drawn}

module _ (g : Module) (m : List ℕ) (y : Style) (v : View) where
  -- the cell of a glyph at the cursor
  pub drawn-stroke : (cols : List ℕ) (w : ℕ)
      → drawn g cols w y (part_of v (cell_width g w y) (cell_height y)) m ≡ applied g m (glyph_stroke g cols w y v)
  unfolding drawn_as
  drawn-stroke cols w = refl
