-- What a code is drawn from after a download is stored or erased. Assumes nothing.
use mathlib.Core.Path.{◌≡◌, refl, ap, ◌∙◌}
use mathlib.Core.Bool.{true, false, cond}
use mathlib.Core.List.{List}
use Prim.Native.Nat.{ℕ, ◌+◌, ◌*◌, ◌≤◌}
use native.Mathlib.Nat.{add_assoc}
use native.Mathlib.Omega.{arith}
use lib.ListN.{get_or}
use lib.Dec.{eqb}
use borrow.Author.Tests.{lt-ltb}
use Rattle.paper.specs.declared.Module.{Module}
use Rattle.paper.specs.declared.Columns.{Columns}
use Rattle.paper.specs.Panel.{bytes_from, font_glyph}
use Rattle.paper.specs.Downloads.{place_length, places_in, place, is_stored, download_bytes, place_for, is_dropped, put_in, erased, faces, own_glyph, glyph_of}
use Rattle.paper.specs.Bounds.{store_ok}
use Rattle.laws_bytes.proofs.Tests.{by_test}
use Rattle.laws_downloads.proofs.Written.{bytes_same}
use Rattle.laws_downloads.proofs.Stored.{columns_le, Same, glyph_of_lem}
use Rattle.laws_downloads.proofs.Kept.{room, put_length, put_place, put_bytes, put_other, put_other_stored, put_other_bytes, erase_none, erase_other, erase_other_stored, erase_other_bytes}

module _ (g : Module) (font ds : List ℕ) where
  -- a store that has a code where the other has it, with the same bytes, draws it alike
  drawn-same : (es : List ℕ) (x : ℕ) → place es x ≡ place ds x → is_stored es x ≡ is_stored ds x
      → (is_stored ds x ≡ true → Same ds es (place ds x))
      → glyph_of g (faces font es) x ≡ glyph_of g (faces font ds) x
  unfolding glyph_of
  drawn-same es x p s same =
      rw (s, p)
      (by_test
      (λ t.
      is_stored ds x ≡ t
      → cond t (own_glyph es (place ds x)) (font_glyph g font x) ≡ cond t (own_glyph ds (place ds x)) (font_glyph g font x))
      (is_stored ds x)
      (λ _ h. glyph_of_lem ds es (place ds x) (same h))
      (λ _ _. refl)
      refl)

  -- "Each is stored": a code that is not dropped is drawn from its columns, any other as before
  pub put_drawn : (code : ℕ) (c : Columns) → is_dropped ds code ≡ false
      → glyph_of g (faces font (put_in ds code c)) code ≡ bytes_from (cond (eqb c.width 5) 5 7) 2 (download_bytes code c)
  unfolding glyph_of
  put_drawn code c h =
      let at = place_length * place_for ds code in
      rw (
        put_place ds code c h,
        put_length ds code c,
        lt-ltb (place_for ds code) (places_in ds) (room ds code h),
        put_bytes ds code c h 1 (omega arith),
      )
      (bytes_same (cond (eqb c.width 5) 5 7) (put_in ds code c) (download_bytes code c) (at + 2) 2
      (λ r l.
      ap (λ (a : ℕ). get_or (put_in ds code c) a 0) (add_assoc at 2 r)
      ∙ put_bytes ds code c h (2 + r) (omega (arith, columns_le c.width))))

  pub put_drawn_other : (code : ℕ) (c : Columns) (x : ℕ) → (x ≡ code → ⊥) → 1 ≤ x
      → glyph_of g (faces font (put_in ds code c)) x ≡ glyph_of g (faces font ds) x
  put_drawn_other code c x ne h =
      drawn-same (put_in ds code c) x (put_other ds code c x ne h) (put_other_stored ds code c x ne h)
      (put_other_bytes ds code c x ne h)

  -- an erased code is drawn from the font, any other as before
  pub erase-drawn : (c : ℕ) → store_ok ds ≡ true → 1 ≤ c → glyph_of g (faces font (erased ds c)) c ≡ font_glyph g font c
  unfolding glyph_of
  erase-drawn c ok h = rw (erase_none ds c ok h)

  pub erase_drawn_other : (c x : ℕ) → (x ≡ c → ⊥) → 1 ≤ x
      → glyph_of g (faces font (erased ds c)) x ≡ glyph_of g (faces font ds) x
  erase_drawn_other c x ne h =
      drawn-same (erased ds c) x (erase_other ds c x ne h) (erase_other_stored ds c x ne h) (erase_other_bytes ds c x ne)
