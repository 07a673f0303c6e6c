-- Columns of two bytes each, one below the other, as one number: its low byte is the upper one. Assumes nothing.
use Rattle.std.specs.Prelude.{Bool, cond, ℕ, ◌+◌, ◌*◌, ◌-◌, ◌/◌, ◌%◌, eqb}
use Rattle.paper.specs.declared.Style.{Style}
use Rattle.laws_bytes.specs.Bytes.{double}
use Rattle.laws_laid.specs.Laid.{Stroke}
use Rattle.glyphs_columns.specs.Columns.{mixed_by}

-- a column repeated downwards: its upper half's dots, and its lower half's
abbrev pub spread_of : ℕ → ℕ
spread_of v = double (v / 16) + 256 * double (v % 16)

-- all dots of both bytes inverted, if the style says so
abbrev pub reversed_both : Style → ℕ → ℕ
reversed_both y z = cond (eqb y.reverse 1) (65535 - z) z

-- what becomes of the bytes of column j, the upper one on row 0: replaced, or flipped
abbrev pub both_stroke : Bool → (ℕ → ℕ) → ℕ → Stroke
both_stroke flip z r j b = mixed_by (cond flip 3 0) (cond (eqb r 0) (z j % 256) (z j / 256)) b
