-- The dots of the glyph of 41h as bytes: with the blank dot below, and above. Assumes nothing.
use mathlib.Core.Path.{◌≡◌, refl}
use mathlib.Core.Bool.{false, cond, ◌&&◌}
use mathlib.Core.List.{List, [], ◌∷◌}
use Prim.Native.Nat.{ℕ, ◌*◌, ◌-◌, ◌/◌, ◌<◌}
use lib.Dec.{leb, ltb}
use Rattle.paper.specs.Panel.{byte_of, dot}
use Rattle.laws_bytes.proofs.Dots.{byte_rule}
use Rattle.laws_marked.specs.Marked.{Font, column, glyph, glyph_low}

-- a glyph's column with its blank dot below, and above
abbrev pub dots_below : ℕ → ℕ
dots_below v = byte_of (λ i. cond (ltb i 7) (dot v i) false)

abbrev pub dots_above : ℕ → ℕ
dots_above v = byte_of (λ i. leb 1 i && cond (ltb (i - 1) 7) (dot v (i - 1)) false)

below_is : (v : ℕ) → v < 256 → dots_below v ≡ v / 2 * 2
unfolding byte_of
below_is v h = byte_rule (λ n i. cond (ltb i 7) (dot n i) false) (λ n. n / 2 * 2) refl v h

above_is : (v : ℕ) → v < 256 → dots_above v ≡ v / 2
unfolding byte_of
above_is v h =
    byte_rule (λ n i. leb 1 i && cond (ltb (i - 1) 7) (dot n (i - 1)) false) (λ n. n / 2) refl v h

-- the glyph's five columns, each taken through d
abbrev pub columns : (ℕ → ℕ) → List ℕ → List ℕ
columns d font = d (column font 0) ∷ d (column font 1) ∷ d (column font 2) ∷ d (column font 3) ∷ d (column font 4) ∷ []

columns_same : (d e : ℕ → ℕ) → ((v : ℕ) → v < 256 → d v ≡ e v) → (font : List ℕ) → Font font → columns d font ≡ columns e font
columns_same d e same font f =
    rw (
      same (column font 0) (f.bytes 165),
      same (column font 1) (f.bytes 166),
      same (column font 2) (f.bytes 167),
      same (column font 3) (f.bytes 168),
      same (column font 4) (f.bytes 169),
    )

pub below : {font : List ℕ} → Font font → columns dots_below font ≡ glyph font
below {font} f = columns_same dots_below (λ v. v / 2 * 2) below_is font f

pub above : {font : List ℕ} → Font font → columns dots_above font ≡ glyph_low font
above {font} f = columns_same dots_above (λ v. v / 2) above_is font f
