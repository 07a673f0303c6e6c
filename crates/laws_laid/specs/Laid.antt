-- Bytes of a memory that lie as far apart as the columns of one row, each made of what stands there. Assumes nothing.
use Rattle.std.specs.Prelude.{List, ℕ, zero, suc, ◌+◌, ◌*◌, get_or, set}

-- what becomes of the byte at a column: its number, and the byte that stands there
abbrev pub Stroke : Type 0
Stroke = ℕ → ℕ → ℕ

-- what becomes of a memory at a column
abbrev pub Turn : Type 0
Turn = ℕ → List ℕ → List ℕ

-- w columns one after the other
abbrev pub turned : Turn → ℕ → List ℕ → List ℕ
turned t zero m = m
turned t (suc w) m = t w (turned t w m)

-- a byte at address a, and at each further column s further on
abbrev pub byte_turn : Stroke → ℕ → ℕ → Turn
byte_turn f s a j m = set m (a + s * j) (f j (get_or m (a + s * j) 0))

-- w bytes from address a on, s apart
abbrev pub laid : Stroke → ℕ → ℕ → ℕ → List ℕ → List ℕ
laid f s a = turned (byte_turn f s a)

-- h rows of w columns, one below the other from address a on
abbrev pub piled : (ℕ → Stroke) → ℕ → ℕ → ℕ → ℕ → List ℕ → List ℕ
piled f s a w zero m = m
piled f s a w (suc h) m = laid (f h) s (a + h) w (piled f s a w h m)

-- two bytes at address a, one below the other, and at each further column
abbrev pub pair_turn : (ℕ → Stroke) → ℕ → ℕ → Turn
pair_turn f s a j m = set (set m (a + s * j) (f 0 j (get_or m (a + s * j) 0))) (a + s * j + 1) (f 1 j (get_or m (a + s * j + 1) 0))

-- w columns of two bytes
abbrev pub stacked : (ℕ → Stroke) → ℕ → ℕ → ℕ → List ℕ → List ℕ
stacked f s a = turned (pair_turn f s a)
