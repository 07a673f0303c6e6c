-- Document 02, order 2, "Our own lane symbols": the downloads, and which columns a character is drawn from. "They live in the state":
-- in 16 places of nine bytes each, a code, a width, and the columns, leftmost first. A free place is all zeros. Assumes nothing.
use Rattle.std.specs.Prelude.{ℕ, zero, suc, ◌+◌, ◌*◌, ◌/◌, ◌%◌, Bool, cond, not, ◌&&◌, List, [], ◌∷◌, length, get_or, replicate, ltb, eqb}
use Rattle.paper.specs.declared.Module.{Module}
use Rattle.paper.specs.declared.Columns.{Columns}
use Rattle.paper.specs.Panel.{each, bytes_from, font_glyph}

-- ---- the places

-- the bytes of a place
abbrev pub place_length : ℕ
place_length = 9

-- "Up to 16 characters by code"
abbrev pub store_length : ℕ
store_length = 16 * place_length

-- how many places there are
abbrev pub places_in : List ℕ → ℕ
places_in ds = length ds / place_length

-- what place k holds: a code, how many columns, and column j
abbrev pub code_at : List ℕ → ℕ → ℕ
code_at ds k = get_or ds (place_length * k) 0

abbrev pub width_at : List ℕ → ℕ → ℕ
width_at ds k = get_or ds (place_length * k + 1) 0

abbrev pub column_at : List ℕ → ℕ → ℕ → ℕ
column_at ds k j = get_or ds (place_length * k + (2 + j)) 0

-- the first of the n numbers from k on of which f holds, k + n where there is none
abbrev pub seek : (ℕ → Bool) → ℕ → ℕ → ℕ
seek f k zero = k
seek f k (suc n) = cond (f k) k (seek f (suc k) n)

-- the first place that holds a code, their number where none does; a free place is one of code 0
unfoldable pub place : List ℕ → ℕ → ℕ
place ds c = seek (λ k. eqb (code_at ds k) c) 0 (places_in ds)

-- the code is stored
abbrev pub is_stored : List ℕ → ℕ → Bool
is_stored ds c = ltb (place ds c) (places_in ds)

-- all places are taken: "16 stored"
abbrev pub is_full : List ℕ → Bool
is_full ds = not (is_stored ds 0)

-- ---- store and erase

-- place k with these bytes, all others as they are
unfoldable pub with_place : List ℕ → ℕ → List ℕ → List ℕ
with_place ds k bytes = each (λ a b. cond (eqb (a / place_length) k) (get_or bytes (a % place_length) 0) b) ds

-- the bytes of a download, and of a free place
abbrev pub download_bytes : ℕ → Columns → List ℕ
download_bytes code c =
    code ∷ c.width ∷ c.c0 ∷ c.c1 ∷ c.c2 ∷ c.c3 ∷ c.c4 ∷ c.c5 ∷ c.c6 ∷ []

abbrev pub free_bytes : List ℕ
free_bytes = replicate place_length 0

-- "A code already stored is replaced"; "erased room is used again": the code's own place, else the first free one
unfoldable pub place_for : List ℕ → ℕ → ℕ
place_for ds c = cond (is_stored ds c) (place ds c) (place ds 0)

-- "A new code with 16 stored is read and dropped"
unfoldable pub is_dropped : List ℕ → ℕ → Bool
is_dropped ds c = not (is_stored ds c) && is_full ds

-- "Each is stored": where there is no place for it nothing changes
unfoldable pub put_in : List ℕ → ℕ → Columns → List ℕ
put_in ds code c = with_place ds (place_for ds code) (download_bytes code c)

-- 3Fh: the code's place is free again
unfoldable pub erased : List ℕ → ℕ → List ℕ
erased ds c = with_place ds (place ds c) free_bytes

-- "Initialise erases all."
abbrev pub all_erased : List ℕ → List ℕ
all_erased ds = replicate (length ds) 0

-- ---- what a character is drawn from

-- the font, and the downloads
pub record Faces : Type 0 where
  pub font : List ℕ
  pub store : List ℕ

abbrev pub faces : List ℕ → List ℕ → Faces
faces font ds = record { font = font; store = ds }

-- 25h: "The switch": off, there are no downloads to draw from
abbrev pub in_force : ℕ → Faces → Faces
in_force switch f = faces f.font (cond (eqb switch 1) f.store [])

-- the columns of the download in place k: "5 columns" or "7 columns"
abbrev pub own_glyph : List ℕ → ℕ → List ℕ
own_glyph ds k = bytes_from (cond (eqb (width_at ds k) 5) 5 7) (place_length * k + 2) ds

-- the columns of a code: its download's where it is stored, else the font's
unfoldable pub glyph_of : Module → Faces → ℕ → List ℕ
glyph_of g f code =
    cond (is_stored f.store code) (own_glyph f.store (place f.store code)) (font_glyph g f.font code)
