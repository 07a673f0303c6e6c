-- Accepted downloads: what each place holds, and which stay accepted when another place is written. Assumes nothing.
use mathlib.Core.Path.{◌≡◌, refl, sym, ap, ◌∙◌}
use mathlib.Core.Bool.{true, cond, ◌&&◌, or-true}
use mathlib.Core.List.{List}
use mathlib.Core.Logic.{◌⊎◌, inl, inr, ⊎_elim}
use Prim.Native.Nat.{ℕ, ◌+◌, ◌*◌, ◌≤◌, ◌<◌}
use native.Mathlib.Nat.{add-zero, add_assoc}
use native.Mathlib.Omega.{arith}
use lib.ListN.{length, get_or}
use lib.Dec.{eqb, leb}
use borrow.Author.Tests.{leb-true, eqb-true, eq-eqb}
use Rattle.paper.specs.Panel.{bytes_from}
use Rattle.paper.specs.Downloads.{place_length, store_length, code_at, width_at, place, with_place, own_glyph}
use Rattle.paper.specs.Bounds.{is_free, download_ok, place_ok, store_ok}
use Rattle.laws_bytes.proofs.Tests.{by_test, both_of}
use Rattle.laws_downloads.proofs.Tests.{either_of, below_at, below_all, below_same}
use Rattle.laws_downloads.proofs.Written.{with_other, place_with_other, bytes_same}

-- a download has no more columns than its place has room for
pub columns_le : (w : ℕ) → cond (eqb w 5) 5 7 ≤ 7
columns_le w = by_test (λ t. cond t 5 7 ≤ 7) (eqb w 5) (λ e. omega arith) (λ e. omega arith)

-- ---- two stores that have the same bytes in a place

abbrev pub Same : List ℕ → List ℕ → ℕ → Type 0
Same ds es k = (r : ℕ) → r < place_length → get_or es (place_length * k + r) 0 ≡ get_or ds (place_length * k + r) 0

module _ (ds es : List ℕ) (k : ℕ) (same : Same ds es k) where
  pub code_of : code_at es k ≡ code_at ds k
  code_of =
      ap (λ (a : ℕ). get_or es a 0) (sym (add-zero (place_length * k)))
      ∙ same 0 (omega arith)
      ∙ ap (λ (a : ℕ). get_or ds a 0) (add-zero (place_length * k))

  free_of : is_free es k ≡ is_free ds k
  unfolding is_free
  free_of =
      below_same (λ r. eqb (get_or es (place_length * k + r) 0) 0) (λ r. eqb (get_or ds (place_length * k + r) 0) 0) place_length
      (λ r l. ap (λ (b : ℕ). eqb b 0) (same r l))

  download_of : download_ok es k ≡ download_ok ds k
  unfolding download_ok
  download_of = rw (code_of, same 1 (omega arith), same 7 (omega arith), same 8 (omega arith))

  pub glyph_of_lem : own_glyph es k ≡ own_glyph ds k
  glyph_of_lem =
      ap (λ (w : ℕ). bytes_from (cond (eqb w 5) 5 7) (place_length * k + 2) es) (same 1 (omega arith))
      ∙ bytes_same (cond (eqb (width_at ds k) 5) 5 7) es ds (place_length * k + 2) (place_length * k + 2)
      (λ r l.
      ap (λ (a : ℕ). get_or es a 0) (add_assoc (place_length * k) 2 r)
      ∙ same (2 + r) (omega (arith, columns_le (width_at ds k)))
      ∙ ap (λ (a : ℕ). get_or ds a 0) (sym (add_assoc (place_length * k) 2 r)))

-- ---- the parts of the test

pub store_length_lem : (ds : List ℕ) → store_ok ds ≡ true → length ds ≡ store_length
unfolding store_ok
store_length_lem ds ok = eqb-true (length ds) store_length (both_of (eqb (length ds) store_length) _ ok).0

pub store_place : (ds : List ℕ) → store_ok ds ≡ true → (k : ℕ) → k < 16 → place_ok ds k ≡ true
unfolding store_ok
store_place ds ok = below_at (place_ok ds) 16 (both_of (eqb (length ds) store_length) _ ok).1

pub store_all : (ds : List ℕ) → length ds ≡ store_length → ((k : ℕ) → k < 16 → place_ok ds k ≡ true) → store_ok ds ≡ true
unfolding store_ok
store_all ds n all = rw (eq-eqb (length ds) store_length n) (below_all (place_ok ds) 16 all)

free_code : (ds : List ℕ) (k : ℕ) → is_free ds k ≡ true → code_at ds k ≡ 0
unfolding is_free
free_code ds k h =
    ap (λ (a : ℕ). get_or ds a 0) (sym (add-zero (place_length * k)))
    ∙ eqb-true _ 0 (below_at (λ r. eqb (get_or ds (place_length * k + r) 0) 0) place_length h 0 (omega arith))

pub download_code : (ds : List ℕ) (k : ℕ) → download_ok ds k ≡ true → 0x20 ≤ code_at ds k
unfolding download_ok
download_code ds k h = leb-true 0x20 (code_at ds k) (both_of (leb 0x20 (code_at ds k)) _ h).0

pub place_free : (ds : List ℕ) (k : ℕ) → is_free ds k ≡ true → place_ok ds k ≡ true
unfolding place_ok
place_free ds k h = rw h

pub place_taken : (ds : List ℕ) (k : ℕ) → download_ok ds k ≡ true → place ds (code_at ds k) ≡ k → place_ok ds k ≡ true
unfolding place_ok
place_taken ds k h e = rw (h, eq-eqb (place ds (code_at ds k)) k e, or-true)

-- ---- accepted downloads

module _ (ds : List ℕ) (ok : store_ok ds ≡ true) where
  -- a place is free, or holds a download of which it is the first place
  pub held : (k : ℕ) → k < 16
      → (is_free ds k ≡ true) ⊎ ((download_ok ds k ≡ true) × (place ds (code_at ds k) ≡ k))
  unfolding place_ok
  held k l =
      ⊎_elim inl
      (λ h.
      let parts = both_of (download_ok ds k) (eqb (place ds (code_at ds k)) k) h in
      inr (parts.0, eqb-true (place ds (code_at ds k)) k parts.1))
      (either_of (is_free ds k) (download_ok ds k && eqb (place ds (code_at ds k)) k) (store_place ds ok k l))

  -- so no code stands twice
  pub own : (k c : ℕ) → k < 16 → code_at ds k ≡ c → 1 ≤ c → place ds c ≡ k
  own k c l e h =
      ⊎_elim (λ f. absurd (omega (arith, free_code ds k f))) (λ f. ap (place ds) (sym e) ∙ f.1) (held k l)

  -- another place is written, with a code that this place does not hold
  pub place_kept : (p : ℕ) (bytes : List ℕ) (k : ℕ) → k < 16 → (k ≡ p → ⊥)
      → (0x20 ≤ code_at ds k → get_or bytes 0 0 ≡ code_at ds k → ⊥)
      → place_ok (with_place ds p bytes) k ≡ true
  place_kept p bytes k l ne alone =
      ⊎_elim (λ f. place_free es k (free_of ds es k same ∙ f))
      (λ f.
      let low = download_code ds k f.0 in
      place_taken es k (download_of ds es k same ∙ f.0)
      (ap (place es) (code_of ds es k same)
      ∙ place_with_other ds p bytes (code_at ds k) (alone low)
      (λ h e. ne (sym f.1 ∙ own p (code_at ds k) (omega (arith, n)) e (omega arith)))
      ∙ f.1))
      (held k l)
    where
      es : List ℕ
      es = with_place ds p bytes

      n : length ds ≡ store_length
      n = store_length_lem ds ok

      same : Same ds es k
      same r h = with_other ds p bytes (place_length * k + r) k r refl h (omega (arith, n)) ne
