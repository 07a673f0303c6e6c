-- Document 01, "Cells and moves", its second part: HT, character, BS, LF, HOM, CR, CLR in the three modes, over a view.
-- c is the cell's width and l its height in rows; both fit the view. Assumes nothing.
use Rattle.std.specs.Prelude.{ℕ, ◌+◌, ◌*◌, ◌-◌, Bool, cond, ◌&&◌, not, List, [], ◌∷◌, ◌++◌, leb, eqb}
use Rattle.paper.specs.declared.Module.{Module}
use Rattle.paper.specs.declared.Style.{Style}
use Rattle.paper.specs.declared.View.{View}
use Rattle.paper.specs.Downloads.{Faces}
use Rattle.paper.specs.Strokes.{Stroke}
use Rattle.paper.specs.Cells.{cell_width, cell_height, draw_stroke, blank_stroke, up_stroke, left_stroke, clear_stroke}

-- what a move means: where the cursor is afterwards, and what was written
pub record Moved : Type 0 where
  pub view : View
  pub strokes : List Stroke

-- the cursor moves and nothing is written
abbrev pub only : View → Moved
only v = record { view = v; strokes = [] }

-- a stroke, then the cursor
abbrev pub writing : Stroke → View → Moved
writing s v = record { view = v; strokes = s ∷ [] }

-- one after the other
abbrev pub and_then : Moved → (View → Moved) → Moved
and_then t f = record { view = (f t.view).view; strokes = t.strokes ++ (f t.view).strokes }

-- the cursor at (x, y)
abbrev pub to : View → ℕ → ℕ → View
to v x y =
    record {
      left = v.left;
      top = v.top;
      width = v.width;
      height = v.height;
      x = x;
      y = y;
      mode = v.mode;
    }

-- there is room for another line of cells below
abbrev pub room_below : View → ℕ → Bool
room_below v l = leb (v.y + 2 * l) v.height

-- ---- HT

-- "MD1: if y + 2L ≤ H go to x 0, L rows down; else to (0,0)."
unfoldable pub next_line : View → ℕ → View
next_line v l = cond (room_below v l) (to v 0 (v.y + l)) (to v 0 0)

-- "MD2: same with room; else scroll the range up L rows, zero the lowest L, cursor (0, H − L)."
unfoldable pub next_line_up : Module → View → ℕ → Moved
next_line_up g v l =
    cond (room_below v l) (only (to v 0 (v.y + l))) (writing (up_stroke g v l) (to v 0 (v.height - l)))

-- "MD3: rows y to y + L − 1 inside the range move left by x + 2c − W columns, x becomes W − c."
unfoldable pub push_left : Module → View → ℕ → ℕ → Moved
push_left g v c l = writing (left_stroke g v l (v.x + 2 * c - v.width)) (to v (v.width - c) v.y)

-- "HT: if x + 2c ≤ W, x grows by c. Else .."
unfoldable pub ht_of : Module → View → ℕ → ℕ → Moved
ht_of g v c l =
    cond (leb (v.x + 2 * c) v.width) (only (to v (v.x + c) v.y))
    (cond (eqb v.mode 1) (only (next_line v l)) (cond (eqb v.mode 2) (next_line_up g v l) (push_left g v c l)))

-- ---- a character

-- "draw, HT"
unfoldable pub draw_tab : Module → Faces → ℕ → Style → ℕ → View → Moved
draw_tab g f w y code v =
    and_then (writing (draw_stroke g f w y code v) v) (λ q. ht_of g q (cell_width g w y) (cell_height y))

-- "draw an all-off cell, HT"
unfoldable pub blank_tab : Module → ℕ → Style → View → Moved
blank_tab g w y v = and_then (writing (blank_stroke g w y v) v) (λ q. ht_of g q (cell_width g w y) (cell_height y))

-- "Character: if x + c ≤ W draw, HT. Else MD1 and MD2: draw an all-off cell, HT, draw, HT. MD3: HT, draw, HT."
unfoldable pub character_of : Module → Faces → ℕ → Style → ℕ → View → Moved
character_of g f w y code v =
    cond (leb (v.x + cell_width g w y) v.width) (draw_tab g f w y code v)
    (cond (eqb v.mode 3) (and_then (ht_of g v (cell_width g w y) (cell_height y)) (draw_tab g f w y code))
    (and_then (blank_tab g w y v) (draw_tab g f w y code)))

-- ---- the other moves

-- "BS: if x ≥ c, x falls by c. Else in MD1 and MD2, if y ≥ L, L rows up and x = W − c. Else no move."
unfoldable pub back_of : View → ℕ → ℕ → View
back_of v c l =
    cond (leb c v.x) (to v (v.x - c) v.y)
    (cond (not (eqb v.mode 3) && leb l v.y) (to v (v.width - c) (v.y - l)) v)

-- "LF: MD1: if y + 2L ≤ H, L rows down; else" by document 02, order 1 "top row, left end", and the same column where the module
-- keeps it
unfoldable pub line_down : Module → View → ℕ → View
line_down g v l = cond (room_below v l) (to v v.x (v.y + l)) (to v (cond g.keeps v.x 0) 0)

-- "MD2: with room the same; else scroll up L rows, zero the lowest L, no move."
unfoldable pub line_down_up : Module → View → ℕ → Moved
line_down_up g v l = cond (room_below v l) (only (to v v.x (v.y + l))) (writing (up_stroke g v l) v)

-- "MD3: nothing."
unfoldable pub line_feed_of : Module → View → ℕ → Moved
line_feed_of g v l =
    cond (eqb v.mode 1) (only (line_down g v l)) (cond (eqb v.mode 2) (line_down_up g v l) (only v))

-- "HOM (0,0)."
abbrev pub home_of : View → View
home_of v = to v 0 0

-- "CR x = 0."
abbrev pub return_of : View → View
return_of v = to v 0 v.y

-- "CLR zeroes the range, then HOM."
unfoldable pub clear_of : View → Moved
clear_of v = writing (clear_stroke v) (home_of v)
