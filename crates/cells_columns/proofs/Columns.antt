-- Bytes mixed into memory: one below the other to a column, and one column beside the other until the cell is drawn.
-- Assumes nothing.
use mathlib.Core.Path.{◌≡◌, refl, sym, ap, ◌∙◌}
use mathlib.Core.Bool.{Bool, true, false, cond}
use mathlib.Core.List.{List}
use Prim.Native.Nat.{ℕ, zero, suc, ◌+◌, ◌*◌, ◌<◌, ◌≤◌}
use native.Mathlib.Nat.{le_antisymm}
use native.Mathlib.Omega.{arith}
use lib.ListN.{length, get_or, set}
use Rattle.paper.specs.declared.Module.{Module}
use Rattle.paper.specs.declared.Style.{Style}
use Rattle.paper.specs.Panel.{address, byte_of}
use Rattle.paper.specs.Strokes.{rect_at, rect_map}
use Rattle.paper.specs.Cells.{Dots, enlarged_dots, penned}
use Rattle.laws_bytes.specs.Bytes.{reversed_byte, mixed_byte, penned_byte}
use Rattle.laws_bytes.proofs.Penned.{penned_byte_lem}
use Rattle.laws_memory.specs.Rectangles.{Bytes}
use Rattle.laws_memory.proofs.Rects.{rect_none, rect_same, rect_beside, rect_below, rect_one}
use Rattle.glyphs_columns.specs.declared.Tall.{Tall}
use Rattle.glyphs_columns.specs.Columns.{at_row}
use Rattle.cells_columns.specs.DrawnAs.{cell_map}
use Rattle.cells_columns.specs.Mixed.{mixed_at, mixed_column}

-- ---- one byte

-- made of the one at its address, and stored there
pub mixed_by_lem : (g : Module) (y : Style) (x top v a u : ℕ) (m : List ℕ) → top < g.rows → a < length m → a ≡ address g x top
    → u ≡ mixed_byte y v (get_or m a 0) → set m a u ≡ mixed_at g y x top v m
unfolding mixed_at
mixed_by_lem g y x top v a u m hy l e k = rw e (rect_one g x top _ m u hy (rw e at l) (rw e at k))

-- ---- one column

-- whichever of two equal bytes
pub either : (t : Bool) (v : ℕ) → cond t v v ≡ v
either true v = refl
either false v = refl

-- a column's two rows
rows_of : (t : Tall) (r : ℕ) → r < 1 → (t.upper ≡ at_row t r) × (t.lower ≡ at_row t (1 + r))
rows_of t zero h = (refl, refl)
rows_of t (suc r) h = absurd (omega arith)

module _ (g : Module) (y : Style) (x top : ℕ) (t : Tall) (m : List ℕ) where
  -- no row of it
  pub column_none : (h : ℕ) → h ≡ 0 → m ≡ mixed_column g y x top h t m
  unfolding mixed_column
  column_none h e = rect_none g (rect_at x top 1 h) _ m (λ a i. omega arith)

  -- its first row
  pub column_one : (h : ℕ) (m' : List ℕ) → h ≡ 1 → m' ≡ mixed_at g y x top t.upper m → m' ≡ mixed_column g y x top h t m
  unfolding mixed_at mixed_column
  column_one h m' e p =
      rw e (p ∙ rect_same g (rect_at x top 1 1) _ _ m
      (λ j r hj hr. ap (λ (v : ℕ). mixed_byte y v (get_or m (address g (x + j) (top + r)) 0)) (rows_of t r hr).0))

  -- its first row, then its second
  pub column_two : (h : ℕ) (m' m'' : List ℕ) → h ≡ 2 → m' ≡ mixed_at g y x top t.upper m
      → m'' ≡ mixed_at g y x (top + 1) t.lower m' → m'' ≡ mixed_column g y x top h t m
  unfolding mixed_at mixed_column
  column_two h m' m'' e p q =
      rw (e, q, p)
      (rect_below g x top 1 1 1 _ _ _ m (λ j r b hj hr. ap (λ (v : ℕ). mixed_byte y v b) (rows_of t r hr).0)
      (λ j r b hj hr. ap (λ (v : ℕ). mixed_byte y v b) (rows_of t r hr).1))

-- ---- a cell

-- a cell's bytes through reverse and mixing
abbrev pub inked : Style → (ℕ → ℕ → ℕ) → ℕ → ℕ → ℕ → ℕ
inked y cell j r b = penned_byte y (cell j r) b

module _ (g : Module) (y : Style) (cell : ℕ → ℕ → ℕ) (left top h : ℕ) (m : List ℕ) where
  -- a column more of a cell
  pub cell_turn : (j : ℕ) (t : Tall) (cur cur' : List ℕ) → cur ≡ rect_map g (rect_at left top j h) (inked y cell) m
      → ((r : ℕ) → r < h → at_row t r ≡ reversed_byte y (cell j r)) → cur' ≡ mixed_column g y (left + j) top h t cur
      → cur' ≡ rect_map g (rect_at left top (j + 1) h) (inked y cell) m
  unfolding mixed_column penned_byte
  cell_turn j t cur cur' e k p =
      p ∙ ap (rect_map g (rect_at (left + j) top 1 h) _) e
      ∙ rect_beside g left top j 1 h (inked y cell) _ (inked y cell) m (λ i r b hi hr. refl)
      (λ i r b hi hr. ap (λ (v : ℕ). mixed_byte y v b) (k r hr) ∙ ap (λ (n : ℕ). inked y cell n r b) (omega arith))

  -- the cell is drawn: its bytes are the paper's dots
  pub cell_end : (d : Dots) (j w : ℕ) (cur : List ℕ) → Bytes m
      → ((j r : ℕ) → r < h → byte_of (λ i. enlarged_dots y d j (8 * r + i)) ≡ cell j r)
      → cur ≡ rect_map g (rect_at left top j h) (inked y cell) m → j ≤ w → w ≤ j → cur ≡ cell_map g y d (rect_at left top w h) m
  cell_end d j w cur bytes k e p q =
      e ∙ ap (λ (n : ℕ). rect_map g (rect_at left top n h) (inked y cell) m) (le_antisymm p q)
      ∙ rect_same g (rect_at left top w h) _ _ m (λ j r hj hr. sym (same j r _ hr (bytes _)))
    where
      same : (j r b : ℕ) → r < h → b < 256 → penned y (λ i. enlarged_dots y d j (8 * r + i)) b ≡ inked y cell j r b
      same j r b hr hb = penned_byte_lem y _ b hb ∙ ap (λ (v : ℕ). penned_byte y v b) (k j r hr)
