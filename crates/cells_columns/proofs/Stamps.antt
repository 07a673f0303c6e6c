-- A cell one row high that is not enlarged, mixed into memory some columns at a time. Assumes nothing.
use mathlib.Core.Path.{◌≡◌, refl, sym, ap, ◌∙◌}
use mathlib.Core.Bool.{Bool, true, false, cond}
use mathlib.Core.List.{List}
use Prim.Native.Nat.{ℕ, ◌+◌, ◌*◌, ◌-◌, ◌/◌, ◌<◌, ◌≤◌}
use native.Mathlib.Nat.{zero-add, div-one}
use native.Mathlib.Omega.{arith}
use borrow.Author.Tests.{le-leb, lt-leb, le-ltb, lt-ltb, eq-eqb}
use lib.Dec.{eqb}
use lib.ListN.{length, get_or}
use Rattle.paper.specs.declared.Module.{Module}
use Rattle.paper.specs.declared.Style.{Style}
use Rattle.paper.specs.Panel.{address, byte_of}
use Rattle.paper.specs.Strokes.{rect_at, rect_map}
use Rattle.paper.specs.Cells.{blanks_left, cell_dot, enlarged_dots}
use Rattle.laws_bytes.specs.Bytes.{placed_byte, reversed_byte, mixed_byte, cell_byte, penned_byte}
use Rattle.laws_bytes.proofs.Drawn.{cell_byte_lem}
use Rattle.laws_memory.specs.Rectangles.{Bytes}
use Rattle.laws_memory.proofs.Rects.{rect_none, rect_same, rect_beside}
use Rattle.glyphs_columns.specs.Columns.{plain_byte, blank_right}
use Rattle.cells_columns.specs.DrawnAs.{drawn_as}
use Rattle.cells_columns.specs.Mixed.{mixed_at, unlit, inlaid}
use Rattle.cells_columns.proofs.Columns.{either, column_one, cell_turn, cell_end}

-- a blank column mixed in, or none
module _ (g : Module) (y : Style) (x top n : ℕ) (m : List ℕ) where
  pub blank_none : n ≡ 0 → m ≡ unlit g y x top n m
  unfolding unlit
  blank_none e = rect_none g (rect_at x top n 1) _ m (λ a i. omega arith)

  pub blank_some : (u : ℕ) (m' : List ℕ) → n ≡ 1 → u ≡ reversed_byte y 0 → m' ≡ mixed_at g y x top u m → m' ≡ unlit g y x top n m
  unfolding mixed_at unlit penned_byte
  blank_some u m' e k p =
      rw e (p ∙ ap (λ (v : ℕ). rect_map g (rect_at x top 1 1) (λ j r b. mixed_byte y v b) m) k)

module _ (g : Module) (f : Bool) (cols : List ℕ) (y : Style) (left top : ℕ) where
  -- a column more of a glyph
  pub inlaid-turn : (j u : ℕ) (m cur cur' : List ℕ) → cur ≡ inlaid g f cols y left top j m
      → u ≡ reversed_byte y (placed_byte f top (get_or cols j 0)) → cur' ≡ mixed_at g y (left + j) top u cur
      → cur' ≡ inlaid g f cols y left top (j + 1) m
  unfolding inlaid
  inlaid-turn j u m cur cur' e k p =
      cell_turn g y (λ j r. placed_byte f top (get_or cols j 0)) left top 1 m j (record { upper = u; lower = u }) cur cur' e
      (λ r h. either (eqb r 0) u ∙ k) (column_one g y (left + j) top _ cur 1 cur' refl p)

-- a glyph of bytes in a cell that is not enlarged
module _ (g : Module) (f : Bool) (cols : List ℕ) (w : ℕ) (y : Style) (left top : ℕ) (across : y.across ≡ 1) (down : y.down ≡ 1)
    (dots : Bytes cols) where
  -- its dots are those of its columns and the blank ones
  plain_cell : (j r : ℕ) → r < 1 → byte_of (λ i. enlarged_dots y (cell_dot f cols w top) j (8 * r + i)) ≡ plain_byte f cols w top j
  unfolding cell_byte
  plain_cell j r h = cell_byte_lem f cols dots w y top j r (omega arith) (omega arith) ∙ plain
    where
      plain : cell_byte f cols w y top j r ≡ plain_byte f cols w top j
      plain = rw (eq-eqb _ _ down, across, div-one)

  -- a column that is placed has no dot if it had none
  placed_none : placed_byte f top 0 ≡ 0
  placed_none = go f (eqb top 0) where
    go : (f t : Bool) → cond f (cond t (0 / 2 * 2) (0 / 2)) 0 ≡ 0
    go true true = refl
    go true false = refl
    go false t = refl

  -- the blank columns on the left, the glyph's, and those on the right
  plain_left : (j : ℕ) → j < blanks_left f w → plain_byte f cols w top j ≡ 0
  plain_left j h = rw (lt-leb (blanks_left f w) j h) placed_none

  plain_glyph : (j : ℕ) → j < length cols → plain_byte f cols w top (blanks_left f w + j) ≡ placed_byte f top (get_or cols j 0)
  plain_glyph j h =
      let left = blanks_left f w in
      let back : left + j - left ≡ j = omega arith in
      rw (le-leb left (left + j) (omega arith), lt-ltb (left + j) (left + length cols) (omega arith), back)

  plain_right : (j : ℕ) → plain_byte f cols w top (blanks_left f w + length cols + j) ≡ 0
  plain_right j =
      let left = blanks_left f w in
      let k = left + length cols + j in
      rw (le-leb left k (omega arith), le-ltb k (left + length cols) (omega arith)) placed_none

  -- the cell is drawn: b blank columns, the glyph's n, and k blank ones
  pub stamp_end : (b n k : ℕ) → b ≡ blanks_left f w → length cols ≡ n → k ≡ blank_right f → (m m₁ m₂ m₃ : List ℕ) → Bytes m
      → m₁ ≡ unlit g y left top b m → m₂ ≡ inlaid g f cols y (left + b) top n m₁
      → m₃ ≡ unlit g y (left + (b + n)) top k m₂ → m₃ ≡ drawn_as g f cols w y (rect_at left top (blanks_left f w + n + blank_right f) 1) m
  unfolding unlit inlaid drawn_as
  stamp_end b n k eb en ek m m₁ m₂ m₃ bytes e₁ e₂ e₃ =
      cell_end g y (λ j r. plain_byte f cols w top j) left top 1 m (cell_dot f cols w top) (b + n + k) (blanks_left f w + n + blank_right f)
      m₃ bytes plain_cell
      (e₃ ∙ ap (rect_map g (rect_at (left + (b + n)) top k 1) _) second
      ∙ rect_beside g left top (b + n) k 1 _ _ _ m (λ j r c hj hr. refl)
      (λ j r c hj hr. ap (λ (v : ℕ). penned_byte y v c) (sym (rw (eb, ← en) (plain_right j)))))
      (omega (arith, eb, ek)) (omega (arith, eb, ek))
    where
      second : m₂ ≡ rect_map g (rect_at left top (b + n) 1) (λ j r c. penned_byte y (plain_byte f cols w top j) c) m
      second =
          e₂ ∙ ap (rect_map g (rect_at (left + b) top n 1) _) e₁
          ∙ rect_beside g left top b n 1 _ _ _ m
          (λ j r c hj hr. ap (λ (v : ℕ). penned_byte y v c) (sym (plain_left j (omega (arith, eb, hj)))))
          (λ j r c hj hr. ap (λ (v : ℕ). penned_byte y v c) (sym (rw eb (plain_glyph j (omega (arith, en, hj))))))

-- the cell of a glyph that is not framed is drawn: as many of its columns as the cell has
pub bare_end : (g : Module) (cols : List ℕ) (w : ℕ) (y : Style) (left top n : ℕ) (m m' : List ℕ) → y.across ≡ 1 → y.down ≡ 1 → Bytes cols
    → Bytes m → n ≤ length cols → m' ≡ inlaid g false cols y left top n m → m' ≡ drawn_as g false cols w y (rect_at left top n 1) m
unfolding inlaid drawn_as
bare_end g cols w y left top n m m' across down dots bytes h e =
    cell_end g y (λ j r. plain_byte false cols w top j) left top 1 m (cell_dot false cols w top) n n m' bytes
    (plain_cell g false cols w y left top across down dots)
    (e ∙ rect_same g (rect_at left top n 1) _ _ m
    (λ j r hj hr. ap (λ (v : ℕ). penned_byte y v (get_or m (address g (left + j) (top + r)) 0)) (sym (bare j (omega arith)))))
    (omega arith) (omega arith)
  where
    bare : (j : ℕ) → j < length cols → plain_byte false cols w top j ≡ get_or cols j 0
    bare j h =
        let from : j - 0 ≡ j = omega arith in
        rw (le-leb 0 j (omega arith), zero-add, lt-ltb j (length cols) h, from)
