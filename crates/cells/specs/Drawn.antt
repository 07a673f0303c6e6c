-- What drawing makes of the memory: a name for an expression of the paper. Assumes nothing.
use Rattle.std.specs.Prelude.{List, ℕ}
use Rattle.paper.specs.declared.Module.{Module}
use Rattle.paper.specs.declared.Rect.{Rect}
use Rattle.paper.specs.declared.Style.{Style}
use Rattle.paper.specs.Panel.{is_framed}
use Rattle.cells_columns.specs.DrawnAs.{drawn_as}

-- the cell of a glyph's columns, framed as the module asks
abbrev pub drawn : Module → List ℕ → ℕ → Style → Rect → List ℕ → List ℕ
drawn g cols w y q m = drawn_as g (is_framed g cols) cols w y q m
