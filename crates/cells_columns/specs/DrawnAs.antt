-- What a cell drawn makes of the memory, framed as it is told: a name for an expression of the paper. Assumes nothing.
use Rattle.std.specs.Prelude.{Bool, List, ℕ, ◌+◌, ◌*◌}
use Rattle.paper.specs.declared.Module.{Module}
use Rattle.paper.specs.declared.Rect.{Rect}
use Rattle.paper.specs.declared.Style.{Style}
use Rattle.paper.specs.Strokes.{rect_map}
use Rattle.paper.specs.Cells.{Dots, cell_dot, enlarged_dots, penned}

-- a cell's dots, enlarged, through reverse and mixing: the part that lies in a rectangle at the cell's top left
abbrev pub cell_map : Module → Style → Dots → Rect → List ℕ → List ℕ
cell_map g y d q m = rect_map g q (λ j r b. penned y (λ i. enlarged_dots y d j (8 * r + i)) b) m

-- the cell of a glyph's columns, framed or not
unfoldable pub drawn_as : Module → Bool → List ℕ → ℕ → Style → Rect → List ℕ → List ℕ
drawn_as g framed cols w y q m = cell_map g y (cell_dot framed cols w q.top) q m
