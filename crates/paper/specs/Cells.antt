-- Document 01, "Cells and moves", its first part: a cell dot by dot, and the strokes that store dots. Assumes nothing.
use Rattle.std.specs.Prelude.{ℕ, ◌+◌, ◌*◌, ◌-◌, ◌/◌, min, Bool, false, cond, not, ◌&&◌, ◌||◌, List, length, get_or, leb, ltb, eqb}
use Rattle.std.specs.Bool.{xor}
use Rattle.paper.specs.declared.Module.{Module}
use Rattle.paper.specs.declared.Rect.{Rect}
use Rattle.paper.specs.declared.Style.{Style}
use Rattle.paper.specs.declared.View.{View}
use Rattle.paper.specs.Panel.{address, dot, byte_of, is_framed, glyph_dot}
use Rattle.paper.specs.Downloads.{Faces, glyph_of}
use Rattle.paper.specs.Strokes.{Rule, draw, wrapBlank, scroll, clear, image, initialise, rect_at, Stroke, among}

-- ---- dots

-- dots of a cell or an image byte: column, and dot row counted from the top
abbrev pub Dots : Type 0
Dots = ℕ → ℕ → Bool

-- "w = 0 puts one blank column right; w = 1 one on each side": w of 0 or 1 is also the number of blank columns on the left
abbrev pub blanks_left : Bool → ℕ → ℕ
blanks_left framed w = cond framed w 0

-- n columns with their blanks
abbrev pub with_blanks : Bool → ℕ → ℕ → Dots → Dots
with_blanks framed n w d k i = among (blanks_left framed w) n k && d (k - blanks_left framed w) i

-- "If the cursor's row in memory is 0, the glyph has its 7 dots on top and a blank dot below; on row 1 the blank is above"
abbrev pub placed : Bool → ℕ → Dots → Dots
placed framed row d k i = cond (framed && not (eqb row 0)) (leb 1 i && d k (i - 1)) (d k i)

-- the cell of a glyph before enlargement, its columns of 8 dots, the cursor on a row of memory. One that is not framed fills it "without
-- blanks", "the left 6 only when w = 0"
unfoldable pub cell_dot : Bool → List ℕ → ℕ → ℕ → Dots
cell_dot framed cols w row = with_blanks framed (length cols) w (placed framed row (glyph_dot framed cols))

-- "draw an all-off cell"
abbrev pub all_off : Dots
all_off k i = false

-- "Enlargement repeats dots of the whole cell."
abbrev pub enlarged_dots : Style → Dots → Dots
enlarged_dots y d j i = d (j / y.across) (i / y.down)

-- "Reverse inverts the whole cell."
abbrev pub reversed_dot : Style → Bool → Bool
reversed_dot y p = cond (eqb y.reverse 1) (not p) p

-- "Mixing then joins with memory: replace, or, and, exclusive or."
abbrev pub mixed_dot : Style → Bool → Bool → Bool
mixed_dot y p old =
    cond (eqb y.mixing 0) p (cond (eqb y.mixing 1) (old || p) (cond (eqb y.mixing 2) (old && p) (xor old p)))

-- the byte that a byte of memory becomes where eight dots pass reverse and mixing
unfoldable pub penned : Style → (ℕ → Bool) → ℕ → ℕ
penned y d old = byte_of (λ i. mixed_dot y (reversed_dot y (d i)) (dot old i))

-- ---- sizes

-- the blank columns that a frame adds: the right one, and with w = 1 one on the left
abbrev pub blank_columns : Module → ℕ → ℕ
blank_columns g w = cond g.framed (cond (eqb w 0) 1 2) 0

-- "Cell width c is 6 (w = 0) or 7 (w = 1) times x enlargement"
unfoldable pub cell_width : Module → ℕ → Style → ℕ
cell_width g w y = (g.glyph + blank_columns g w) * y.across

-- "cell height is L rows, L the y enlargement"
abbrev pub cell_height : Style → ℕ
cell_height y = y.down

-- ""Too large" (16) is c > W or L > H."
unfoldable pub too_large : View → ℕ → ℕ → Bool
too_large v c l = ltb v.width c || ltb v.height l

-- ---- strokes

-- all of memory
abbrev pub memory_rect : Module → Rect
memory_rect g = rect_at 0 0 g.columns g.rows

-- the range of a view
abbrev pub range_of : View → Rect
range_of v = rect_at v.left v.top v.width v.height

-- the rows of the range from the cursor's on, l of them as far as it has them
abbrev pub rows_of : View → ℕ → Rect
rows_of v l = rect_at v.left (v.top + v.y) v.width (min l (v.height - v.y))

-- the part of the cell at the cursor, c columns wide and l rows high, that lies in the range
abbrev pub part_of : View → ℕ → ℕ → Rect
part_of v c l = rect_at (v.left + v.x) (v.top + v.y) (min c (v.width - v.x)) (min l (v.height - v.y))

-- a cell at the cursor; "Dots outside the range are dropped."
abbrev pub cell_stroke : Rule → Style → ℕ → Dots → View → Stroke
cell_stroke rule y c d v =
    record {
      rule = rule;
      rect = part_of v c (cell_height y);
      byte = λ m j r b. penned y (λ i. enlarged_dots y d j (8 * r + i)) b;
    }

-- the cell of a glyph's columns; the blank dot is "by the cursor's row in memory"
abbrev pub glyph_stroke : Module → List ℕ → ℕ → Style → View → Stroke
glyph_stroke g cols w y v = cell_stroke draw y (cell_width g w y) (cell_dot (is_framed g cols) cols w (v.top + v.y)) v

-- the cell of a code
abbrev pub draw_stroke : Module → Faces → ℕ → Style → ℕ → View → Stroke
draw_stroke g f w y code v = glyph_stroke g (glyph_of g f code) w y v

-- the all-off cell of a wrap, "reversed and mixed as any"
abbrev pub blank_stroke : Module → ℕ → Style → View → Stroke
blank_stroke g w y v = cell_stroke wrapBlank y (cell_width g w y) all_off v

-- "scroll the range up L rows, zero the lowest L"
abbrev pub up_stroke : Module → View → ℕ → Stroke
up_stroke g v l =
    record {
      rule = scroll;
      rect = range_of v;
      byte = λ m j r b. cond (ltb (r + l) v.height) (get_or m (address g (v.left + j) (v.top + (r + l))) 0) 0;
    }

-- "rows y to y + L − 1 inside the range move left by n columns, zeros enter (all zeros if that is W or more)"
abbrev pub left_stroke : Module → View → ℕ → ℕ → Stroke
left_stroke g v l n =
    record {
      rule = scroll;
      rect = rows_of v l;
      byte = λ m j r b. cond (ltb (j + n) v.width) (get_or m (address g (v.left + (j + n)) (v.top + v.y + r)) 0) 0;
    }

-- "CLR zeroes the range"
abbrev pub clear_stroke : View → Stroke
clear_stroke v = record { rule = clear; rect = range_of v; byte = λ m j r b. 0 }

-- "Initialise zeroes the memory"
abbrev pub erase_stroke : Module → Stroke
erase_stroke g = record { rule = initialise; rect = memory_rect g; byte = λ m j r b. 0 }

-- an image's byte at its column and row, from the cursor: "Each byte passes reverse and mixing and is stored"
abbrev pub image_stroke : Style → ℕ → ℕ → ℕ → View → Stroke
image_stroke y column row byte v =
    record {
      rule = image;
      rect = rect_at (v.left + (v.x + column)) (v.top + (v.y + row)) 1 1;
      byte = λ m j r b. penned y (dot byte) b;
    }
