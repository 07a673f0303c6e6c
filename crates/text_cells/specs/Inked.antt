-- What drawing asks of the font, the code and the cell. Assumes nothing.
use Rattle.std.specs.Prelude.{◌≡◌, List, ℕ, ◌≤◌, length}
use Rattle.paper.specs.declared.Module.{Module}
use Rattle.paper.specs.Panel.{font_length}
use Rattle.glyphs.specs.declared.Cell.{Cell}
use Rattle.glyphs.specs.Cell.{Drawable}

-- a whole font, a code that it has, and a cell that can be drawn
pub record Inked (g : Module) (font : List ℕ) (c : Cell) (code : ℕ) : Type 0 where
  pub whole : length font ≡ font_length g
  pub has : 0x20 ≤ code
  pub cell : Drawable g c
