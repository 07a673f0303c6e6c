-- What moves need and keep, as records: a usable module, a view in memory, room for a cell, strokes inside a rectangle.
-- Assumes nothing.
use Rattle.std.specs.Prelude.{◌≡◌, true, List, [], ◌∷◌, ℕ, ◌+◌, ◌<◌, ◌≤◌}
use Rattle.paper.specs.declared.Module.{Module}
use Rattle.paper.specs.declared.Rect.{Rect}
use Rattle.paper.specs.declared.Settings.{Settings}
use Rattle.paper.specs.declared.View.{View}
use Rattle.paper.specs.declared.Key.TheVariants.{Brightness}
use Rattle.paper.specs.Panel.{memory_length}
use Rattle.paper.specs.Strokes.{Stroke}
use Rattle.paper.specs.Settings.{in_domain}
use Rattle.paper.specs.Cells.{cell_width, cell_height, range_of}
use Rattle.paper.specs.Moves.{Moved}

-- a module for which the laws hold: some rows, some visible and some hidden columns, addresses that code can count, a glyph of some
-- columns but no more than 8, and an initial brightness that is one
pub record Usable (g : Module) : Type 0 where
  pub rows_some : 0 < g.rows
  pub visible_some : 0 < g.visible
  pub visible_part : g.visible < g.columns
  pub small : memory_length g ≤ 65536
  pub columns_small : g.columns < 65536
  pub rows_small : g.rows < 65536
  pub glyph_some : 0 < g.glyph
  pub glyph_small : g.glyph ≤ 8
  pub bright : in_domain g Brightness g.brightness ≡ true

-- a range that lies in memory, with its cursor in it
pub record InMemory (g : Module) (v : View) : Type 0 where
  pub across : v.left + v.width ≤ g.columns
  pub down : v.top + v.height ≤ g.rows
  pub x : v.x < v.width
  pub y : v.y < v.height

-- and a cell, c columns wide and l rows high, that does not exceed it
pub record Room (g : Module) (v : View) (c l : ℕ) : Type 0 where
  pub place : InMemory g v
  pub c_some : 0 < c
  pub c_fits : c ≤ v.width
  pub l_some : 0 < l
  pub l_fits : l ≤ v.height

-- the sizes of a cell that settings can ask for
pub record CellSize (g : Module) (v : Settings) : Type 0 where
  pub narrow : 1 ≤ cell_width g v.width v.style
  pub wide : cell_width g v.width v.style ≤ 40
  pub low : 1 ≤ cell_height v.style
  pub high : cell_height v.style ≤ 2

-- a stroke's rectangle lies in a rectangle
abbrev pub Inside : Rect → Stroke → Type 0
Inside q s =
    (q.left ≤ s.rect.left) × (s.rect.left + s.rect.width ≤ q.left + q.width)
    × (q.top ≤ s.rect.top) × (s.rect.top + s.rect.height ≤ q.top + q.height)

-- and so does each of several
abbrev pub AllIn : Rect → List Stroke → Type 0
AllIn q [] = Unit {0}
AllIn q (s ∷ ss) = Inside q s × AllIn q ss

-- a move that keeps the range and the mode, leaves the cursor in the range and writes in it only
pub record Kept (v : View) (t : Moved) : Type 0 where
  pub left : t.view.left ≡ v.left
  pub top : t.view.top ≡ v.top
  pub width : t.view.width ≡ v.width
  pub height : t.view.height ≡ v.height
  pub mode : t.view.mode ≡ v.mode
  pub x : t.view.x < v.width
  pub y : t.view.y < v.height
  pub inside : AllIn (range_of v) t.strokes
