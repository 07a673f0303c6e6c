-- A drawn cell in bytes: the paper's cell, dot by dot, is `cellByte`, and what is stored of it `pennedByte`. Assumes nothing.
use mathlib.Core.Path.{◌≡◌, refl, ap, ◌∙◌}
use mathlib.Core.Bool.{Bool, true, false, cond, not, ◌&&◌, ◌||◌}
use mathlib.Core.List.{List}
use Prim.Native.Nat.{ℕ, zero, suc, ◌+◌, ◌*◌, ◌-◌, ◌/◌, ◌<◌, ◌≤◌}
use native.Mathlib.Omega.{arith}
use lib.Dec.{leb, ltb, eqb}
use lib.ListN.{length, get_or}
use Rattle.paper.specs.declared.Style.{Style}
use Rattle.paper.specs.Panel.{dot, byte_of, glyph_dot}
use Rattle.paper.specs.Strokes.{among}
use Rattle.paper.specs.Cells.{blanks_left, cell_dot, all_off, enlarged_dots, penned}
use Rattle.laws_bytes.specs.Bytes.{placed_byte, glyph_column, tall_byte, cell_byte, penned_byte}
use Rattle.laws_bytes.proofs.Dots.{byte_of-same, dots_of, byte_rule}
use Rattle.laws_bytes.proofs.Penned.{penned_byte_lem}

-- ---- a column of a cell

-- the dots of a glyph's column: framed (f), "upper 7 bits used", else all
abbrev used : Bool → ℕ → ℕ → Bool
used f v i = (not f || ltb i 7) && dot v i

-- a glyph's column on row 0 of memory (t), or on another, with a blank dot if it is framed (f)
abbrev set : Bool → Bool → ℕ → ℕ → Bool
set f t v i = cond (f && not t) (leb 1 i && used f v (i - 1)) (used f v i)

placed-dot : (f t : Bool) (v : ℕ) → v < 256 → (i : ℕ) → i < 8 → set f t v i ≡ dot (cond f (cond t (v / 2 * 2) (v / 2)) v) i
unfolding byte_of
placed-dot true true v h =
    dots_of (λ i. set true true v i) (v / 2 * 2) (byte_rule (λ n i. set true true n i) (λ n. n / 2 * 2) refl v h)
placed-dot true false v h =
    dots_of (λ i. set true false v i) (v / 2) (byte_rule (λ n i. set true false n i) (λ n. n / 2) refl v h)
placed-dot false t v h = λ i hi. refl

-- a blank column has no dot, wherever it is placed
blank_dot : (f t : Bool) (i : ℕ) → i < 8 → false ≡ dot (cond f (cond t (0 / 2 * 2) (0 / 2)) 0) i
unfolding byte_of
blank_dot true true = dots_of (λ i. false) 0 refl
blank_dot true false = dots_of (λ i. false) 0 refl
blank_dot false t = dots_of (λ i. false) 0 refl

-- a column that is the glyph's (p) or blank
column-dot : (f p : Bool) (row v : ℕ) → v < 256 → (i : ℕ) → i < 8
    → (p && set f (eqb row 0) v i) ≡ dot (placed_byte f row (cond p v 0)) i
column-dot f true row v h = placed-dot f (eqb row 0) v h
column-dot f false row v h = blank_dot f (eqb row 0)

-- a glyph's column or a blank one, placed, is a byte
column-lt : (f s t : Bool) (v : ℕ) → v < 256 → cond f (cond s (cond t v 0 / 2 * 2) (cond t v 0 / 2)) (cond t v 0) < 256
column-lt true true true v h = omega arith
column-lt true true false v h = omega arith
column-lt true false true v h = omega arith
column-lt true false false v h = omega arith
column-lt false s true v h = h
column-lt false s false v h = omega arith

-- ---- repeated downwards

-- rows of a repeated column: "Enlargement repeats dots"
tall_byte_lem : (down r v : ℕ) → down ≤ 2 → r < down → v < 256 → byte_of (λ i. dot v ((8 * r + i) / down)) ≡ tall_byte down r v
unfolding byte_of
tall_byte_lem zero r v hd hr = absurd (omega arith)
tall_byte_lem (suc zero) zero v hd hr = byte_rule (λ n i. dot n ((8 * 0 + i) / 1)) (tall_byte 1 0) refl v
tall_byte_lem (suc zero) (suc r) v hd hr = absurd (omega arith)
tall_byte_lem (suc (suc zero)) zero v hd hr = byte_rule (λ n i. dot n ((8 * 0 + i) / 2)) (tall_byte 2 0) refl v
tall_byte_lem (suc (suc zero)) (suc zero) v hd hr = byte_rule (λ n i. dot n ((8 * 1 + i) / 2)) (tall_byte 2 1) refl v
tall_byte_lem (suc (suc zero)) (suc (suc r)) v hd hr = absurd (omega arith)
tall_byte_lem (suc (suc (suc down))) r v hd hr = absurd (omega arith)

-- the dot of a column of which dot i of its row r is a repeat
source_lt : (down r i : ℕ) → down ≤ 2 → r < down → i < 8 → (8 * r + i) / down < 8
source_lt zero r i hd hr hi = absurd (omega arith)
source_lt (suc zero) r i hd hr hi = omega arith
source_lt (suc (suc zero)) r i hd hr hi = omega arith
source_lt (suc (suc (suc down))) r i hd hr hi = absurd (omega arith)

-- ---- a cell

-- the cell of a glyph of bytes, framed (f) or not, at a column j and a row r of it
module _ (f : Bool) (cols : List ℕ) (bytes : (n : ℕ) → get_or cols n 0 < 256) (w : ℕ) (y : Style) (row j r : ℕ)
    (low : y.down ≤ 2) (inside : r < y.down) where
  -- its dots there are those of `cellByte`
  pub cell_byte_lem : byte_of (λ i. enlarged_dots y (cell_dot f cols w row) j (8 * r + i)) ≡ cell_byte f cols w y row j r
  unfolding cell_dot glyph_dot cell_byte
  cell_byte_lem =
      let k = j / y.across in
      let left = blanks_left f w in
      let v = get_or cols (k - left) 0 in
      let column = placed_byte f row (glyph_column f cols w k) in
      byte_of-same (λ i. cell_dot f cols w row k ((8 * r + i) / y.down)) (λ i. dot column ((8 * r + i) / y.down))
      (λ i h. column-dot f (among left (length cols) k) row v (bytes _) ((8 * r + i) / y.down) (source_lt y.down r i low inside h))
      ∙ tall_byte_lem y.down r column low inside (column-lt f (eqb row 0) (among left (length cols) k) v (bytes _))

  -- what drawing it stores there
  pub drawn-byte : (old : ℕ) → old < 256
      → penned y (λ i. enlarged_dots y (cell_dot f cols w row) j (8 * r + i)) old
      ≡ penned_byte y (cell_byte f cols w y row j r) old
  drawn-byte old h =
      penned_byte_lem y (λ i. enlarged_dots y (cell_dot f cols w row) j (8 * r + i)) old h
      ∙ ap (λ (v : ℕ). penned_byte y v old) cell_byte_lem

-- an all-off cell, at a column j and a row r of it
module _ (y : Style) (j r : ℕ) where
  -- its dots there are those of 0
  pub blank_byte : byte_of (λ i. enlarged_dots y all_off j (8 * r + i)) ≡ 0
  unfolding byte_of
  blank_byte = refl

  -- what drawing it stores there
  pub drawn_blank : (old : ℕ) → old < 256 → penned y (λ i. enlarged_dots y all_off j (8 * r + i)) old ≡ penned_byte y 0 old
  drawn_blank old h =
      penned_byte_lem y (λ i. enlarged_dots y all_off j (8 * r + i)) old h ∙ ap (λ (v : ℕ). penned_byte y v old) blank_byte
