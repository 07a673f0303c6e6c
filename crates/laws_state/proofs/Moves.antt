-- Every move keeps its range: the cursor stays in it, and nothing outside it is written. Assumes nothing.
use mathlib.Core.Path.{refl, ◌∙◌}
use mathlib.Core.Bool.{◌&&◌, not}
use mathlib.Core.List.{List, [], ◌∷◌, ◌++◌}
use Prim.Native.Nat.{ℕ, ◌+◌, ◌*◌, ◌-◌, ◌<◌, ◌≤◌}
use native.Mathlib.Omega.{arith}
use lib.Dec.{leb, ltb, eqb}
use borrow.Author.Tests.{leb-true, ltb-true}
use Rattle.paper.specs.declared.Module.{Module}
use Rattle.paper.specs.declared.Rect.{Rect}
use Rattle.paper.specs.declared.Style.{Style}
use Rattle.paper.specs.declared.View.{View}
use Rattle.paper.specs.Panel.{is_framed}
use Rattle.paper.specs.Downloads.{Faces, glyph_of}
use Rattle.paper.specs.Strokes.{Rule, draw, wrapBlank, Stroke}
use Rattle.paper.specs.Cells.{Dots, cell_dot, all_off, cell_width, cell_height, range_of, cell_stroke, draw_stroke, blank_stroke, up_stroke, left_stroke}
use Rattle.paper.specs.Moves.{Moved, only, writing, and_then, to, next_line, next_line_up, push_left, ht_of, draw_tab, blank_tab, character_of, back_of, line_down, line_down_up, line_feed_of, home_of, return_of, clear_of}
use Rattle.paper.specs.Carry.{image_strokes}
use Rattle.laws_bytes.proofs.Tests.{both_of}
use Rattle.laws_state.specs.Room.{InMemory, Room, Inside, AllIn, Kept}
use Rattle.laws_state.proofs.Tests.{by_cond}

-- ---- strokes in a rectangle

-- strokes in a rectangle, and others in it after them
pub all_append : (q : Rect) (a b : List Stroke) → AllIn q a → AllIn q b → AllIn q (a ++ b)
all_append q [] b i j = j
all_append q (s ∷ a) b i j = (i.0, all_append q a b i.1 j)

-- a larger rectangle holds them too
pub all_wider : (q q' : Rect) → q'.left ≤ q.left → q.left + q.width ≤ q'.left + q'.width
    → q'.top ≤ q.top → q.top + q.height ≤ q'.top + q'.height → (ss : List Stroke) → AllIn q ss → AllIn q' ss
all_wider q q' a b c d [] i = tt
all_wider q q' a b c d (s ∷ ss) i = (omega arith, all_wider q q' a b c d ss i.1)

-- ---- one move after another

module _ (v : View) (t : Moved) where
  -- two moves in a row
  pub then_kept : (f : View → Moved) → Kept v t → Kept t.view (f t.view) → Kept v (and_then t f)
  then_kept f p q =
      record {
        left = q.left ∙ p.left;
        top = q.top ∙ p.top;
        width = q.width ∙ p.width;
        height = q.height ∙ p.height;
        mode = q.mode ∙ p.mode;
        x = omega arith;
        y = omega arith;
        inside =
            all_append (range_of v) t.strokes (f t.view).strokes p.inside
            (all_wider (range_of t.view) (range_of v)
            (omega arith) (omega arith) (omega arith) (omega arith) (f t.view).strokes q.inside);
      }

  -- where a move ends is in memory
  pub kept_place : (g : Module) → InMemory g v → Kept v t → InMemory g t.view
  kept_place g i p = omega arith

  -- and the cell has room there
  pub kept_room : (g : Module) (c l : ℕ) → Room g v c l → Kept v t → Room g t.view c l
  kept_room g c l i p = omega arith

-- ---- moves that need no room for a cell

module _ (v : View) where
  -- the cursor goes to a place of the range
  pub to_kept : (x y : ℕ) → x < v.width → y < v.height → Kept v (only (to v x y))
  to_kept x y hx hy =
      record { left = refl; top = refl; width = refl; height = refl; mode = refl; x = hx; y = hy; inside = tt }

  -- after a stroke inside the range
  pub writing_kept : (s : Stroke) (x y : ℕ) → x < v.width → y < v.height → Inside (range_of v) s
      → Kept v (writing s (to v x y))
  writing_kept s x y hx hy i =
      record { left = refl; top = refl; width = refl; height = refl; mode = refl; x = hx; y = hy; inside = (i, tt) }

  -- HOM
  pub home_kept : (g : Module) → InMemory g v → Kept v (only (home_of v))
  home_kept g i = to_kept 0 0 (omega arith) (omega arith)

  -- CR
  pub return_kept : (g : Module) → InMemory g v → Kept v (only (return_of v))
  return_kept g i = to_kept 0 v.y (omega arith) i.y

  -- CLR
  pub clear_kept : (g : Module) → InMemory g v → Kept v (clear_of v)
  unfolding clear_of
  clear_kept g i = writing_kept _ 0 0 (omega arith) (omega arith) (omega arith)

  -- a cell drawn at the cursor, whatever its dots
  pub cell_kept : (g : Module) → InMemory g v → (rule : Rule) (y : Style) (c : ℕ) (d : Dots)
      → Kept v (writing (cell_stroke rule y c d v) v)
  cell_kept g i rule y c d = writing_kept _ v.x v.y i.x i.y (omega arith)

  -- an image byte, stored or outside the range
  pub image-inside : (y : Style) (column row b : ℕ) → AllIn (range_of v) (image_strokes v y column row b)
  unfolding image_strokes
  image-inside y column row b =
      by_cond (AllIn (range_of v)) (ltb (v.x + column) v.width && ltb (v.y + row) v.height)
      (λ e.
      let f = both_of (ltb (v.x + column) v.width) (ltb (v.y + row) v.height) e in
      let x = ltb-true (v.x + column) v.width f.0 in
      let y = ltb-true (v.y + row) v.height f.1 in
      (omega arith, tt))
      (λ _. tt)

-- ---- moves by a cell of c columns and l rows

module _ (g : Module) (v : View) (c l : ℕ) (i : Room g v c l) where
  -- the next line, in MD1
  line_kept : Kept v (only (next_line v l))
  unfolding next_line
  line_kept =
      by_cond (λ q. Kept v (only q)) (leb (v.y + 2 * l) v.height)
      (λ e. let f = leb-true (v.y + 2 * l) v.height e in to_kept v 0 (v.y + l) (omega arith) (omega arith))
      (λ _. to_kept v 0 0 (omega arith) (omega arith))

  -- and in MD2
  line_up_kept : Kept v (next_line_up g v l)
  unfolding next_line_up
  line_up_kept =
      by_cond (Kept v) (leb (v.y + 2 * l) v.height)
      (λ e. let f = leb-true (v.y + 2 * l) v.height e in to_kept v 0 (v.y + l) (omega arith) (omega arith))
      (λ _. writing_kept v (up_stroke g v l) 0 (v.height - l) (omega arith) (omega arith) (omega arith))

  -- the rows of the cell pushed left, in MD3
  push_kept : Kept v (push_left g v c l)
  unfolding push_left
  push_kept =
      let n = v.x + 2 * c - v.width in
      writing_kept v (left_stroke g v l n) (v.width - c) v.y (omega arith) (omega arith) (omega arith)

  -- HT
  pub ht_kept : Kept v (ht_of g v c l)
  unfolding ht_of
  ht_kept =
      by_cond (Kept v) (leb (v.x + 2 * c) v.width)
      (λ e. let f = leb-true (v.x + 2 * c) v.width e in to_kept v (v.x + c) v.y (omega arith) (omega arith))
      (λ _. by_cond (Kept v) (eqb v.mode 1) (λ _. line_kept)
      (λ _. by_cond (Kept v) (eqb v.mode 2) (λ _. line_up_kept) (λ _. push_kept)))

  -- BS
  pub back_kept : Kept v (only (back_of v c l))
  unfolding back_of
  back_kept =
      by_cond (λ q. Kept v (only q)) (leb c v.x) (λ _. to_kept v (v.x - c) v.y (omega arith) (omega arith))
      (λ _. by_cond (λ q. Kept v (only q)) (not (eqb v.mode 3) && leb l v.y)
      (λ _. to_kept v (v.width - c) (v.y - l) (omega arith) (omega arith))
      (λ _. to_kept v v.x v.y (omega arith) (omega arith)))

  -- LF in MD1
  down_kept : Kept v (only (line_down g v l))
  unfolding line_down
  down_kept =
      by_cond (λ q. Kept v (only q)) (leb (v.y + 2 * l) v.height)
      (λ e. let f = leb-true (v.y + 2 * l) v.height e in to_kept v v.x (v.y + l) (omega arith) (omega arith))
      (λ _. by_cond (λ x. Kept v (only (to v x 0))) g.keeps (λ _. to_kept v v.x 0 (omega arith) (omega arith))
      (λ _. to_kept v 0 0 (omega arith) (omega arith)))

  -- LF in MD2
  down_up_kept : Kept v (line_down_up g v l)
  unfolding line_down_up
  down_up_kept =
      by_cond (Kept v) (leb (v.y + 2 * l) v.height)
      (λ e. let f = leb-true (v.y + 2 * l) v.height e in to_kept v v.x (v.y + l) (omega arith) (omega arith))
      (λ _. writing_kept v (up_stroke g v l) v.x v.y (omega arith) (omega arith) (omega arith))

  -- LF
  pub feed_kept : Kept v (line_feed_of g v l)
  unfolding line_feed_of
  feed_kept =
      by_cond (Kept v) (eqb v.mode 1) (λ _. down_kept)
      (λ _. by_cond (Kept v) (eqb v.mode 2) (λ _. down_up_kept)
      (λ _. to_kept v v.x v.y (omega arith) (omega arith)))

-- ---- characters

-- the all-off cell of a wrap, then HT
pub blank_kept : (g : Module) (w : ℕ) (y : Style) (v : View) → Room g v (cell_width g w y) (cell_height y)
    → Kept v (blank_tab g w y v)
unfolding blank_tab
blank_kept g w y v i =
    then_kept v (writing (blank_stroke g w y v) v) (λ q. ht_of g q (cell_width g w y) (cell_height y))
    (cell_kept v g i.place wrapBlank y (cell_width g w y) all_off) (ht_kept g v (cell_width g w y) (cell_height y) i)

module _ (g : Module) (font : Faces) (w : ℕ) (y : Style) (code : ℕ) where
  -- a drawn cell, then HT
  pub draw_kept : (v : View) → Room g v (cell_width g w y) (cell_height y) → Kept v (draw_tab g font w y code v)
  unfolding draw_tab
  draw_kept v i =
      let cols = glyph_of g font code in
      then_kept v (writing (draw_stroke g font w y code v) v) (λ q. ht_of g q (cell_width g w y) (cell_height y))
      (cell_kept v g i.place draw y (cell_width g w y) (cell_dot (is_framed g cols) cols w (v.top + v.y)))
      (ht_kept g v (cell_width g w y) (cell_height y) i)

  -- a drawn cell after another move
  draw_after : (v : View) (t : Moved) → Room g v (cell_width g w y) (cell_height y) → Kept v t
      → Kept v (and_then t (draw_tab g font w y code))
  draw_after v t i p =
      then_kept v t (draw_tab g font w y code) p (draw_kept t.view (kept_room v t g (cell_width g w y) (cell_height y) i p))

  -- a character
  pub character_kept : (v : View) → Room g v (cell_width g w y) (cell_height y) → Kept v (character_of g font w y code v)
  unfolding character_of
  character_kept v i =
      by_cond (Kept v) (leb (v.x + cell_width g w y) v.width) (λ _. draw_kept v i)
      (λ _. by_cond (Kept v) (eqb v.mode 3)
      (λ _. draw_after v (ht_of g v (cell_width g w y) (cell_height y)) i (ht_kept g v (cell_width g w y) (cell_height y) i))
      (λ _. draw_after v (blank_tab g w y v) i (blank_kept g w y v i)))
