-- Drawing in bytes: document 01's cell, reverse and mixing as arithmetic on whole bytes, as code computes it. Assumes nothing.
-- That it agrees with the paper's dots is proved in proofs/Penned.antt and proofs/Drawn.antt.
use Rattle.std.specs.Prelude.{ℕ, ◌+◌, ◌*◌, ◌-◌, ◌/◌, ◌%◌, Bool, cond, List, length, get_or, eqb}
use Rattle.std.specs.Int.Bits.{bit_and, bit_or, bit_xor}
use Rattle.paper.specs.declared.Style.{Style}
use Rattle.paper.specs.Strokes.{among}
use Rattle.paper.specs.Cells.{blanks_left}

-- a glyph's column on a row of memory: framed, its 7 dots on top on row 0, on another row below the blank dot; else as it is
abbrev pub placed_byte : Bool → ℕ → ℕ → ℕ
placed_byte framed row v = cond framed (cond (eqb row 0) (v / 2 * 2) (v / 2)) v

-- column k of a glyph's cell before it is placed: the blank columns on the left, the glyph's, then blank
abbrev pub glyph_column : Bool → List ℕ → ℕ → ℕ → ℕ
glyph_column framed cols w k =
    cond (among (blanks_left framed w) (length cols) k) (get_or cols (k - blanks_left framed w) 0) 0

-- a byte of the four lowest dots of n, each twice
abbrev pub double : ℕ → ℕ
double n = (n % 2 + 4 * (n / 2 % 2) + 16 * (n / 4 % 2) + 64 * (n / 8 % 2)) * 3

-- row r of a column that is repeated downwards, `down` 1 or 2: the column itself, or its upper or lower half doubled
abbrev pub tall_byte : ℕ → ℕ → ℕ → ℕ
tall_byte down r v = cond (eqb down 1) v (cond (eqb r 0) (double (v / 16)) (double (v % 16)))

-- column j and row r of a glyph's cell, the cursor on a row of memory, before reverse and mixing
unfoldable pub cell_byte : Bool → List ℕ → ℕ → Style → ℕ → ℕ → ℕ → ℕ
cell_byte framed cols w y row j r = tall_byte y.down r (placed_byte framed row (glyph_column framed cols w (j / y.across)))

-- all dots of a byte inverted, if the style says so
abbrev pub reversed_byte : Style → ℕ → ℕ
reversed_byte y v = cond (eqb y.reverse 1) (255 - v) v

-- a byte joined with the one that stands in memory: replace, or, and, exclusive or
abbrev pub mixed_byte : Style → ℕ → ℕ → ℕ
mixed_byte y v old =
    cond (eqb y.mixing 0) v
    (cond (eqb y.mixing 1) (bit_or old v) (cond (eqb y.mixing 2) (bit_and old v) (bit_xor old v)))

-- reverse, then mixing
unfoldable pub penned_byte : Style → ℕ → ℕ → ℕ
penned_byte y v old = mixed_byte y (reversed_byte y v) old
