-- The columns of a cell in bytes, and how many stand beside a glyph. Assumes nothing.
use Rattle.std.specs.Prelude.{Bool, true, false, cond, List, ℕ, ◌+◌, ◌-◌, ◌*◌, ◌/◌, ◌^◌, ◌≤◌, eqb, length, get_or}
use Rattle.std.proofs.Common.{lit≤}
use Rattle.std.specs.Int.Bits.{bit_and, bit_or, bit_xor}
use Rattle.paper.specs.declared.Module.{Module}
use Rattle.paper.specs.declared.Style.{Style}
use Rattle.paper.specs.Strokes.{among}
use Rattle.paper.specs.Cells.{blanks_left}
use Rattle.laws_bytes.specs.Bytes.{placed_byte, glyph_column, tall_byte, reversed_byte}
use Rattle.glyphs_columns.specs.declared.lift.Lift.{Lift}
use Rattle.glyphs_columns.specs.declared.Tall.{Tall}

-- column k of a cell: after the blank columns the glyph's, then blank
abbrev pub fetched_of : List ℕ → ℕ → ℕ → ℕ
fetched_of cols blanks k = cond (among blanks (length cols) k) (get_or cols (k - blanks) 0) 0

-- a glyph's column placed: so many dots down, and up again
abbrev pub lifted_of : Lift → ℕ → ℕ
lifted_of p v = v / 2 ^ p.down * 2 ^ p.up

-- row r of column k of a cell: fetched, placed, repeated downwards and reversed
abbrev pub row_byte : List ℕ → ℕ → Lift → Style → ℕ → ℕ → ℕ → ℕ
row_byte cols blanks p y down r k = reversed_byte y (tall_byte down r (lifted_of p (fetched_of cols blanks k)))

-- mixing by its number: replace, or, and, exclusive or
abbrev pub mixed_by : ℕ → ℕ → ℕ → ℕ
mixed_by mixing v old =
    cond (eqb mixing 0) v (cond (eqb mixing 1) (bit_or old v) (cond (eqb mixing 2) (bit_and old v) (bit_xor old v)))

-- what becomes of the byte at column j of one row of a cell, each column repeated n times
abbrev pub row_stroke : List ℕ → ℕ → Lift → Style → ℕ → ℕ → ℕ → ℕ → ℕ → ℕ → ℕ
row_stroke cols blanks p y down r n mixing j b = mixed_by mixing (row_byte cols blanks p y down r (j / n)) b

-- and of a cell's row r, as its style asks for it
abbrev pub cell_stroke : List ℕ → ℕ → Lift → Style → ℕ → ℕ → ℕ → ℕ
cell_stroke cols blanks p y r = row_stroke cols blanks p y y.down r y.across y.mixing

-- how many columns a whole cell has before they are repeated: a glyph with a blank dot has a blank column on its right
abbrev pub whole_of : List ℕ → ℕ → Lift → ℕ
whole_of cols blanks p = blanks + length cols + p.down

-- the byte of a column on one of its rows
abbrev pub at_row : Tall → ℕ → ℕ
at_row t r = cond (eqb r 0) t.upper t.lower

-- column k of a glyph's cell that is not enlarged, the cursor on a row of memory
abbrev pub plain_byte : Bool → List ℕ → ℕ → ℕ → ℕ → ℕ
plain_byte framed cols w row k = placed_byte framed row (glyph_column framed cols w k)

-- the blank columns on the right
abbrev pub blank_right : Bool → ℕ
blank_right framed = cond framed 1 0

-- how many columns the cell of a font's glyph has that is not enlarged
abbrev pub plain_width : Module → ℕ → ℕ
plain_width g w = blanks_left g.framed w + g.glyph + blank_right g.framed

-- no further up than down
pub back_one : (t : Bool) → cond t 1 0 ≤ 1
back_one true = lit≤ tt
back_one false = lit≤ tt

-- how a glyph's column is placed on a row of memory: framed, one dot down, and up again on row 0
abbrev pub framed_on : ℕ → Lift
framed_on row = record { down = 1; up = cond (eqb row 0) 1 0; one = lit≤ tt; back = back_one (eqb row 0) }

abbrev pub placing_of : Bool → ℕ → Lift
placing_of framed row = cond framed (framed_on row) (record { down = 0; up = 0; one = lit≤ tt; back = lit≤ tt })
