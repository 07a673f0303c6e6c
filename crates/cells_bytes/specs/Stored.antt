-- What the public functions make of the memory: each a name for an expression of the paper. Assumes nothing.
use Rattle.std.specs.Prelude.{List, ℕ}
use Rattle.paper.specs.declared.Module.{Module}
use Rattle.paper.specs.declared.Rect.{Rect}
use Rattle.paper.specs.declared.Style.{Style}
use Rattle.paper.specs.Panel.{dot}
use Rattle.paper.specs.Strokes.{rect_at, rect_map}
use Rattle.paper.specs.Cells.{all_off, penned}
use Rattle.cells_columns.specs.DrawnAs.{cell_map}

-- the all-off cell of a wrap
unfoldable pub blanked : Module → Style → Rect → List ℕ → List ℕ
blanked g y q m = cell_map g y all_off q m

-- one byte of an image
unfoldable pub imaged : Module → Style → ℕ → ℕ → ℕ → List ℕ → List ℕ
imaged g y x top v m = rect_map g (rect_at x top 1 1) (λ j r b. penned y (dot v) b) m
