-- Document 01, "The panel and its memory": sizes, addresses, the dots of a byte, the font's glyphs.
-- Every rule is over a module; `panel` is the 112 by 16 one. Assumes nothing.
use Rattle.std.specs.Prelude.{ℕ, zero, suc, ◌+◌, ◌*◌, ◌-◌, ◌/◌, ◌%◌, ◌^◌, Bool, true, false, not, ◌&&◌, ◌||◌, List, [], ◌∷◌, length, get_or, ltb, eqb}
use Rattle.paper.specs.declared.Module.{Module}

-- The 112 by 16 module. "Display memory is 512 by 16 dots. Columns 0 to 111 are visible." "5 columns for each code", "upper 7 bits
-- used" and blanks by w and by the row. Brightness "58h n (1 to 8)", initially 8. "74h n (0 to 5, 16 to 19)". LF in MD1 without
-- room below: "top row, left end" (document 02, order 1). All codes that document 01 lists are known.
unfoldable pub panel : Module
panel =
    record {
      columns = 512;
      rows = 2;
      visible = 112;
      glyph = 5;
      framed = true;
      dimmest = 1;
      brightest = 8;
      finer = false;
      brightness = 8;
      tables = false;
      keeps = false;
      shortcuts = true;
      downloads = true;
      widths = true;
    }

-- "1,024 lent bytes"
abbrev pub memory_length : Module → ℕ
memory_length g = g.rows * g.columns

-- "The glass copy is 224 lent bytes, addressed in the same way."
abbrev pub glass_length : Module → ℕ
glass_length g = g.rows * g.visible

-- "The font is 1,120 lent bytes: 5 columns for each code 20h to FFh"
abbrev pub font_length : Module → ℕ
font_length g = g.glyph * (0x100 - 0x20)

-- "Column x, row y: the byte at address 2x + y"
abbrev pub address : Module → ℕ → ℕ → ℕ
address g x y = g.rows * x + y

abbrev pub column_of : Module → ℕ → ℕ
column_of g a = a / g.rows

abbrev pub row_of : Module → ℕ → ℕ
row_of g a = a % g.rows

-- "holds 8 dots, bit 7 on top": whether dot i of a byte, counted from the top, is lit
abbrev pub dot : ℕ → ℕ → Bool
dot b i = eqb (b / 2 ^ (7 - i) % 2) 1

-- the byte whose dots, from the top, are given
abbrev pub lit : ℕ → Bool → ℕ
lit worth true = worth
lit worth false = 0

unfoldable pub byte_of : (ℕ → Bool) → ℕ
byte_of d =
    lit 128 (d 0) + lit 64 (d 1) + lit 32 (d 2) + lit 16 (d 3) + lit 8 (d 4) + lit 4 (d 5) + lit 2 (d 6) + lit 1 (d 7)

-- the n bytes from place i on
abbrev pub bytes_from : ℕ → ℕ → List ℕ → List ℕ
bytes_from zero i l = []
bytes_from (suc n) i l = get_or l i 0 ∷ bytes_from n (suc i) l

-- "5 columns for each code 20h to FFh, leftmost first": a code's columns
abbrev pub font_glyph : Module → List ℕ → ℕ → List ℕ
font_glyph g font code = bytes_from g.glyph (g.glyph * (code - 0x20)) font

-- whether a glyph, given by its columns, is framed by blanks: on a module that frames its font's glyphs, one with as many columns as
-- they have ("5 columns draw like a font glyph", document 02, order 2)
abbrev pub is_framed : Module → List ℕ → Bool
is_framed g cols = g.framed && eqb (length cols) g.glyph

-- "upper 7 bits used" where the glyph is framed, else "all 8 dots tall": dot i of column k
unfoldable pub glyph_dot : Bool → List ℕ → ℕ → ℕ → Bool
glyph_dot framed cols k i = (not framed || ltb i 7) && dot (get_or cols k 0) i

-- each byte of a memory or a glass changed by its address, counted from i
abbrev pub each_from : (ℕ → ℕ → ℕ) → ℕ → List ℕ → List ℕ
each_from f i [] = []
each_from f i (b ∷ bs) = f i b ∷ each_from f (suc i) bs

abbrev pub each : (ℕ → ℕ → ℕ) → List ℕ → List ℕ
each f m = each_from f 0 m
