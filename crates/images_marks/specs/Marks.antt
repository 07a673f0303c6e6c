-- What a run of an image's bytes marks. Assumes nothing.
use Rattle.std.specs.Prelude.{List, ℕ, ◌+◌, ◌-◌, min}
use Rattle.paper.specs.declared.Span.{Span}
use Rattle.paper.specs.declared.View.{View}
use Rattle.paper.specs.Strokes.{rect_at, mark_rect}
use Rattle.moves.specs.declared.Spot.{Spot}
use Rattle.images_marks.specs.declared.Filled.{Filled}

-- the columns a to b of an image's row r, as far as they lie in the range above its row `bottom`, are marked
unfoldable pub row_mark : View → ℕ → ℕ → ℕ → ℕ → List Span → List Span
row_mark v bottom r a b ps =
    mark_rect (rect_at (v.left + min (v.x + a) v.width) (v.top + min (v.y + r) bottom)
    (min (v.x + b) v.width - min (v.x + a) v.width) (min (v.y + r + 1) bottom - min (v.y + r) bottom)) ps

-- the rows of an image that are in the range end here
abbrev pub bottom_of : View → ℕ → ℕ
bottom_of v height = min v.height (v.y + height)

-- from the byte at (column, row) up to the one at (x, y), of an image two rows high at most: on row 0 the columns from column + row to
-- x + y were written, on row 1 those from column to x
abbrev pub marks_to : View → ℕ → ℕ → ℕ → ℕ → ℕ → List Span → List Span
marks_to v height column row x y ps =
    row_mark v (bottom_of v height) 1 column x (row_mark v (bottom_of v height) 0 (column + row) (x + y) ps)

abbrev pub filled_to : Spot → ℕ → ℕ → ℕ → ℕ → ℕ → ℕ → Filled
filled_to p height column row x y at =
    record { spans = marks_to p.view height column row x y p.spans; column = x; row = y; at = at }
