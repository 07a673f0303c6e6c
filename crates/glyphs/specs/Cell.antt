-- The cell that settings ask for, by its parts, and what drawing it asks. Assumes nothing.
use Rattle.std.specs.Prelude.{◌≡◌, ℕ, ◌≤◌}
use Rattle.paper.specs.declared.Module.{Module}
use Rattle.paper.specs.declared.Style.{Style}
use Rattle.paper.specs.Cells.{cell_width, cell_height}
use Rattle.glyphs.specs.declared.Cell.{Cell}

-- the width setting w is also the number of blank columns on the left
abbrev pub cell_of : Module → ℕ → Style → Cell
cell_of g w y = record { blanks = w; style = y; columns = cell_width g w y; rows = cell_height y }

-- measured as its settings ask, and enlarged as far as a cell can be drawn
pub record Drawable (g : Module) (c : Cell) : Type 0 where
  pub columns : c.columns ≡ cell_width g c.blanks c.style
  pub rows : c.rows ≡ cell_height c.style
  pub across_some : 1 ≤ c.style.across
  pub down : c.style.down ≤ 2
