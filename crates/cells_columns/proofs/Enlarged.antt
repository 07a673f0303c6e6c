-- An enlarged cell laid into memory row by row is the paper's. Assumes nothing.
use mathlib.Core.Path.{◌≡◌, ap, ◌∙◌}
use mathlib.Core.Bool.{Bool, true, ◌&&◌}
use mathlib.Core.List.{List}
use Prim.Native.Nat.{ℕ, ◌+◌, ◌*◌, ◌/◌, ◌≤◌}
use native.Mathlib.Nat.{mul-le-mul_left}
use native.Mathlib.Omega.{arith}
use borrow.Author.Tests.{eqb-true}
use lib.Dec.{eqb}
use lib.ListN.{length, get_or}
use Rattle.paper.specs.declared.Module.{Module}
use Rattle.paper.specs.declared.Rect.{Rect}
use Rattle.paper.specs.declared.Style.{Style}
use Rattle.paper.specs.Panel.{address, memory_length}
use Rattle.paper.specs.Strokes.{rect_at}
use Rattle.paper.specs.Cells.{blanks_left, cell_dot}
use Rattle.laws_bytes.specs.Bytes.{glyph_column, tall_byte, reversed_byte, cell_byte, penned_byte}
use Rattle.laws_bytes.proofs.Drawn.{cell_byte_lem}
use Rattle.laws_memory.specs.Rectangles.{Within, Fits, Bytes}
use Rattle.laws_memory.proofs.Rects.{rect_none, rect_same}
use Rattle.laws_memory.proofs.Tests.{and_parts}
use Rattle.laws_laid.specs.Laid.{piled}
use Rattle.laws_laid.proofs.Laid.{piled_rect}
use Rattle.glyphs_columns.specs.declared.lift.Lift.{Lift}
use Rattle.glyphs_columns.specs.Columns.{mixed_by, placing_of, cell_stroke}
use Rattle.glyphs_columns.proofs.Frames.{placed_byte_lem}
use Rattle.cells_columns.specs.DrawnAs.{drawn_as}
use Rattle.cells_columns.proofs.Columns.{inked, cell_end}

-- what the test for a cell that is twice as wide and replaced says
pub twice_facts : (y : Style) (whole : Bool) → (((eqb y.mixing 0 && eqb y.across 2) && eqb y.down 1) && whole) ≡ true
    → (y.mixing ≡ 0) × (y.across ≡ 2) × (y.down ≡ 1) × (whole ≡ true)
twice_facts y whole t =
    let three = and_parts ((eqb y.mixing 0 && eqb y.across 2) && eqb y.down 1) whole t in
    let two = and_parts (eqb y.mixing 0 && eqb y.across 2) (eqb y.down 1) three.0 in
    let one = and_parts (eqb y.mixing 0) (eqb y.across 2) two.0 in
    (eqb-true _ _ one.0, eqb-true _ _ one.1, eqb-true _ _ two.1, three.1)

-- a rectangle of a memory that is not empty
module _ (g : Module) (q : Rect) (in_memory : Within g q) (small : memory_length g ≤ 65536) (wide : 1 ≤ q.width) (high : 1 ≤ q.height) where
  rows_small : g.rows ≤ 65536
  rows_small = omega (arith, mul-le-mul_left g.rows some)
    where
      some : 1 ≤ g.columns
      some = omega (arith, in_memory.across)

  width_small : q.width ≤ 65536
  width_small = omega (arith, in_memory.across, mul-le-mul_left g.columns some)
    where
      some : 1 ≤ g.rows
      some = omega (arith, in_memory.down)

  -- its last byte is one of the memory's
  reaches : address g q.left q.top + q.height + g.rows * q.width ≤ memory_length g + g.rows
  reaches = omega (arith, in_memory.down, mul-le-mul_left g.rows in_memory.across)

-- what drawing asks of its numbers: so many rows from address a on lie in memory
pub asks : (g : Module) (q : Rect) (m : List ℕ) → Within g q → Fits g m → (q.width ≡ 0 → ⊥) → (q.height ≡ 0 → ⊥) → (a h : ℕ)
    → a ≡ address g q.left q.top → h ≡ q.height
    → (g.rows ≤ 65536) × (q.width ≤ 65536) × (length m ≤ 65536) × (a + h + g.rows * q.width ≤ length m + g.rows)
asks g q m inside fits no_width no_height a h ea eh =
    let wide : 1 ≤ q.width = omega (arith, no_width) in
    let high : 1 ≤ q.height = omega (arith, no_height) in (
      rows_small g q inside fits.small wide high,
      width_small g q inside fits.small wide high,
      omega (arith, fits.size, fits.small),
      omega (arith, reaches g q inside fits.small wide high, ea, eh, fits.size),
    )

module _ (g : Module) (f : Bool) (cols : List ℕ) (w : ℕ) (y : Style) (q : Rect) (m : List ℕ) where
  -- nothing of it is drawn
  pub no_column : q.width ≡ 0 → m ≡ drawn_as g f cols w y q m
  unfolding drawn_as
  no_column e = rect_none g q _ m (λ a i. omega arith)

  pub no_row : q.height ≡ 0 → m ≡ drawn_as g f cols w y q m
  unfolding drawn_as
  no_row e = rect_none g q _ m (λ a i. omega arith)

  -- its rows are the dots of its glyph, repeated, through reverse and mixing
  pub drawn-rows : (blanks : ℕ) (p : Lift) (a n h : ℕ) (m' : List ℕ) → blanks ≡ blanks_left f w → p ≡ placing_of f q.top → a ≡ address g q.left q.top
      → n ≡ q.width → h ≡ q.height → Within g q → Fits g m → Bytes m → Bytes cols → y.down ≤ 2 → q.height ≤ y.down
      → m' ≡ piled (cell_stroke cols blanks p y) g.rows a n h m → m' ≡ drawn_as g f cols w y q m
  unfolding drawn_as cell_byte penned_byte
  drawn-rows blanks p a n h m' eb ep ea en eh inside fits bytes dots low high e =
      let rows = rw (ea, en, eh) at e in
      cell_end g y (cell_byte f cols w y q.top) q.left q.top q.height m (cell_dot f cols w q.top) q.width q.width m' bytes
      (λ j r l. cell_byte_lem f cols dots w y q.top j r low (omega arith))
      (rows ∙ piled_rect g (cell_stroke cols blanks p y) q.left q.top q.width q.height m inside.down inside.across fits.size
      ∙ rect_same g (rect_at q.left q.top q.width q.height) _ _ m (λ j r hj hr. same j r (get_or m (address g (q.left + j) (q.top + r)) 0)))
      (omega arith) (omega arith)
    where
      same : (j r b : ℕ) → cell_stroke cols blanks p y r j b ≡ inked y (cell_byte f cols w y q.top) j r b
      same j r b =
          rw (eb, ep)
          (ap (λ (v : ℕ). mixed_by y.mixing (reversed_byte y (tall_byte y.down r v)) b)
          (placed_byte_lem f q.top (glyph_column f cols w (j / y.across))))
