-- A glyph's columns as a part of the bytes it stands in: of the font, or of a place of the downloads; and where only the font is
-- drawn from. Assumes nothing.
use mathlib.Core.Path.{◌≡◌, refl, ap, ◌∙◌}
use mathlib.Core.Bool.{Bool, true, false, cond}
use mathlib.Core.List.{List, [], ◌∷◌}
use Prim.Native.Nat.{ℕ, zero, suc, ◌+◌, ◌*◌, ◌-◌, ◌<◌, ◌≤◌}
use native.Mathlib.Nat.{mul-le-mul_left}
use native.Mathlib.Omega.{arith}
use lib.Dec.{eqb}
use lib.ListN.{length, get_or, take, drop}
use lib.Seq.{drop-cons}
use borrow.Author.Tests.{le-ltb}
use Rattle.paper.specs.declared.Module.{Module}
use Rattle.paper.specs.Panel.{font_length, bytes_from, font_glyph}
use Rattle.paper.specs.Downloads.{place_length, places_in, width_at, place, is_stored, faces, own_glyph, glyph_of}
use Rattle.glyphs.specs.Own.{own_columns}

-- n bytes from a place on, where there are as many
take-bytes : (n i : ℕ) (l : List ℕ) → i + n ≤ length l → take n (drop i l) ≡ bytes_from n i l
take-bytes zero i l h = refl
take-bytes (suc n) i l h =
    rw (drop-cons l i 0 (omega arith)) (ap (λ (t : List ℕ). get_or l i 0 ∷ t) (take-bytes n (suc i) l (omega arith)))

-- as a part that ends there
pub part_bytes : (n i : ℕ) (l : List ℕ) → i + n ≤ length l → take (i + n - i) (drop i l) ≡ bytes_from n i l
part_bytes n i l h =
    let count : i + n - i ≡ n = omega arith in
    rw count (take-bytes n i l h)

-- a code's glyph stands in the font
pub glyph_in : (g : Module) (code : ℕ) → 0x20 ≤ code → code < 0x100 → g.glyph * (code - 0x20) + g.glyph ≤ font_length g
glyph_in g code l h = omega (arith, mul-le-mul_left g.glyph (code_in code l h))
  where
    code_in : (n : ℕ) → 0x20 ≤ n → n < 0x100 → n - 0x20 + 1 ≤ 0x100 - 0x20
    code_in n l h = omega arith

-- the n bytes from a place on are n
length-bytes : (n i : ℕ) (l : List ℕ) → length (bytes_from n i l) ≡ n
length-bytes zero i l = refl
length-bytes (suc n) i l = ap suc (length-bytes n (suc i) l)

-- a glyph of the font has as many columns as the module says
pub font_columns : (g : Module) (font cols : List ℕ) (code : ℕ) → cols ≡ font_glyph g font code → length cols ≡ g.glyph
font_columns g font cols code e = ap length e ∙ length-bytes g.glyph _ font

-- ---- which of the two a code is drawn from

module _ (g : Module) (font own : List ℕ) (code : ℕ) where
  -- where there are no places, from the font
  pub font_alone : length own ≡ 0 → glyph_of g (faces font own) code ≡ font_glyph g font code
  unfolding glyph_of
  font_alone e = rw (le-ltb (place own code) (places_in own) (omega (arith, e)))

  -- where it has no columns of its own, from the font; else from those
  pub own_none : length (own_columns own code) ≡ 0 → glyph_of g (faces font own) code ≡ font_glyph g font code
  unfolding glyph_of own_columns
  own_none = go (is_stored own code) (eqb (width_at own (place own code)) 5)
    where
      columns : Bool → List ℕ
      columns t = bytes_from (cond t 5 7) (place_length * place own code + 2) own

      go : (s t : Bool) → length (cond s (columns t) []) ≡ 0 → cond s (columns t) (font_glyph g font code) ≡ font_glyph g font code
      go true true e = absurd (omega (arith, e))
      go true false e = absurd (omega (arith, e))
      go false t e = refl

  pub own_some : (length (own_columns own code) ≡ 0 → ⊥) → glyph_of g (faces font own) code ≡ own_columns own code
  unfolding glyph_of own_columns
  own_some = go (is_stored own code) (own_glyph own (place own code))
    where
      go : (s : Bool) (l : List ℕ) → (length (cond s l []) ≡ 0 → ⊥) → cond s l (font_glyph g font code) ≡ cond s l []
      go true l n = refl
      go false l n = absurd (n refl)
