-- What the public functions make of the memory is what the paper's strokes make of it. Assumes nothing.
use mathlib.Core.Path.{◌≡◌, refl}
use mathlib.Core.List.{List}
use Prim.Native.Nat.{ℕ, ◌+◌}
use Rattle.paper.specs.declared.Module.{Module}
use Rattle.paper.specs.declared.Style.{Style}
use Rattle.paper.specs.declared.View.{View}
use Rattle.paper.specs.Strokes.{applied}
use Rattle.paper.specs.Cells.{cell_width, cell_height, part_of, blank_stroke, image_stroke}
use Rattle.cells_bytes.specs.Stored.{blanked, imaged}

module _ (g : Module) (m : List ℕ) (y : Style) (v : View) where
  -- the all-off cell of a wrap
  pub blanked-stroke : (w : ℕ) → blanked g y (part_of v (cell_width g w y) (cell_height y)) m ≡ applied g m (blank_stroke g w y v)
  unfolding blanked
  blanked-stroke w = refl

  -- a byte of an image
  pub imaged-stroke : (column row byte : ℕ)
      → imaged g y (v.left + (v.x + column)) (v.top + (v.y + row)) byte m ≡ applied g m (image_stroke y column row byte v)
  unfolding imaged
  imaged-stroke column row byte = refl
