-- Document 02, order 1, "Line feed at the bottom", as one statement over every font: `LineFeed font`. Its proof is `line-feed` in
-- proofs/LineFeed. Assumes nothing.
use Rattle.std.specs.Prelude.{◌≡◌, true, false, cond, List, [], ◌∷◌, ◌++◌, ℕ, ◌+◌}
use Rattle.paper.specs.declared.Module.{Module}
use Rattle.paper.specs.declared.View.{View}
use Rattle.paper.specs.Panel.{panel}
use Rattle.paper.specs.Settings.{cursor}
use Rattle.paper.specs.Moves.{only, to, home_of, room_below, line_feed_of}
use Rattle.laws_marked.specs.Marked.{◌of◌, fed, fed_over, cursor_after, next_refresh, rows, cursor_set, md2, md3}

-- ---- pieces

-- cursor set to (x, y), LF
abbrev pub line_feed_at : ℕ → ℕ → List ℕ
line_feed_at x y = cursor_set x 0 y 0 ++ 0x0A ∷ []

-- write mode 1; an enlargement of 1 by 2; window 1 at (10,0) of 14 by 2, selected
abbrev pub whole_base : List ℕ
whole_base = 0x1F ∷ 0x28 ∷ 0x77 ∷ 0x10 ∷ 1 ∷ []

abbrev pub two_rows : List ℕ
two_rows = 0x1F ∷ 0x28 ∷ 0x67 ∷ 0x40 ∷ 1 ∷ 2 ∷ []

abbrev pub in_window : List ℕ
in_window = 0x1F ∷ 0x28 ∷ 0x77 ∷ 0x02 ∷ 1 ∷ 1 ∷ 10 ∷ 0 ∷ 0 ∷ 0 ∷ 14 ∷ 0 ∷ 2 ∷ 0 ∷ 0x11 ∷ []

-- ---- the order

pub record LineFeed (font : List ℕ) : Type 0 where
  -- "LF in MD1 without room below": "top row, left end", in any range and with cells of any height
  pub corner : (v : View) (l : ℕ) → v.mode ≡ 1 → room_below v l ≡ false → line_feed_of panel v l ≡ only (home_of v)
  -- on any module the top row: "same column" where it keeps the column, else "left end"
  pub top : (g : Module) (v : View) (l : ℕ) → v.mode ≡ 1 → room_below v l ≡ false
      → line_feed_of g v l ≡ only (to v (cond g.keeps v.x 0) 0)
  -- with room below it goes L rows down in its column, on any module
  pub down : (g : Module) (v : View) (l : ℕ) → v.mode ≡ 1 → room_below v l ≡ true
      → line_feed_of g v l ≡ only (to v v.x (v.y + l))
  -- the base in write mode 0: in its visible part (0,0), in its hidden part (112,0) of memory
  pub visible : cursor_after (fed font (line_feed_at 111 1)) ≡ cursor 0 0 1
  pub hidden : cursor_after (fed font (line_feed_at 200 1)) ≡ cursor 112 0 1
  -- in write mode 1: (0,0) from everywhere
  pub whole : cursor_after (fed font (whole_base ++ line_feed_at 200 1)) ≡ cursor 0 0 1
  -- a window: its own top left; the base's cursor stays
  pub window :
      ((fed font (cursor_set 50 0 1 0 ++ in_window ++ line_feed_at 5 1)).answer.state.selected ≡ 1)
      × (cursor_after (fed font (cursor_set 50 0 1 0 ++ in_window ++ line_feed_at 5 1)) ≡ cursor 0 0 1)
      × ((fed font (cursor_set 50 0 1 0 ++ in_window ++ line_feed_at 5 1)).answer.state.base ≡ cursor 50 1 1)
  -- a cell two rows high has no room below the upper row
  pub high : cursor_after (fed font (two_rows ++ line_feed_at 14 0)) ≡ cursor 0 0 1
  -- a row below: the column is kept
  pub room : cursor_after (fed font (line_feed_at 14 0)) ≡ cursor 14 1 1
  -- no dot changes and nothing is written
  pub dots : (b : ℕ) → (fed_over b font (line_feed_at 14 1)).mem ≡ 1024 of b
  pub moved : next_refresh (fed font (line_feed_at 14 1)) ≡ 0
  -- MD2 and MD3 as they were: scrolled without a move; nothing
  pub scrolled :
      ((b : ℕ) → (fed_over b font (md2 ++ line_feed_at 14 1)).mem ≡ rows (512 of b) (112 of 0 ++ 400 of b))
      × (cursor_after (fed font (md2 ++ line_feed_at 14 1)) ≡ cursor 14 1 2)
  pub nothing : cursor_after (fed font (md3 ++ line_feed_at 14 1)) ≡ cursor 14 1 3
  -- HT's wrap as it was: from the last cell of the lower row to (0,0), of the upper to the lower row's left end
  pub wraps :
      (cursor_after (fed font (cursor_set 105 0 1 0 ++ 0x09 ∷ [])) ≡ cursor 0 0 1)
      × (cursor_after (fed font (cursor_set 105 0 0 0 ++ 0x09 ∷ [])) ≡ cursor 0 1 1)
