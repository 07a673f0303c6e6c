-- A picture in a font's text is seven lines of five characters, one after the other; # is a lit dot. Assumes nothing.
use Rattle.std.specs.Prelude.{ℕ, ◌+◌, ◌*◌, Bool, false, cond, List, get_or, ltb, eqb}
use Rattle.paper.specs.Panel.{byte_of}

-- whether dot i of column k is lit, counted from the top; document 01: "upper 7 bits used"
abbrev pub drawn_dot : List ℕ → ℕ → ℕ → Bool
drawn_dot dots k i = cond (ltb i 7) (eqb (get_or dots (5 * i + k) 0) 0x23) false

-- the font's byte for column k of a picture
unfoldable pub column_of : List ℕ → ℕ → ℕ
column_of dots k = byte_of (drawn_dot dots k)
