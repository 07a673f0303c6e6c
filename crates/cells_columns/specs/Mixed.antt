-- Memory after columns of a cell are mixed in: what the functions inside owe. Assumes nothing.
use Rattle.std.specs.Prelude.{Bool, List, ℕ, get_or}
use Rattle.paper.specs.declared.Module.{Module}
use Rattle.paper.specs.declared.Style.{Style}
use Rattle.paper.specs.Strokes.{rect_at, rect_map}
use Rattle.laws_bytes.specs.Bytes.{placed_byte, mixed_byte, penned_byte}
use Rattle.glyphs_columns.specs.declared.Tall.{Tall}
use Rattle.glyphs_columns.specs.Columns.{at_row}

-- a byte mixed into memory
unfoldable pub mixed_at : Module → Style → ℕ → ℕ → ℕ → List ℕ → List ℕ
mixed_at g y x top v m = rect_map g (rect_at x top 1 1) (λ j r b. mixed_byte y v b) m

-- a column mixed into memory
unfoldable pub mixed_column : Module → Style → ℕ → ℕ → ℕ → Tall → List ℕ → List ℕ
mixed_column g y x top height t m = rect_map g (rect_at x top 1 height) (λ j r b. mixed_byte y (at_row t r) b) m

-- n blank columns mixed into memory, one row high
unfoldable pub unlit : Module → Style → ℕ → ℕ → ℕ → List ℕ → List ℕ
unlit g y left top n m = rect_map g (rect_at left top n 1) (λ j r b. penned_byte y 0 b) m

-- the first n columns of a glyph mixed into memory, not enlarged
unfoldable pub inlaid : Module → Bool → List ℕ → Style → ℕ → ℕ → ℕ → List ℕ → List ℕ
inlaid g framed cols y left top n m =
    rect_map g (rect_at left top n 1) (λ j r b. penned_byte y (placed_byte framed top (get_or cols j 0)) b) m
