-- Store and erase: what they keep, and what is found afterwards. Assumes nothing.
use mathlib.Core.Path.{◌≡◌, refl, sym, ap, ◌∙◌}
use mathlib.Core.Bool.{true, false, cond, not, ◌&&◌, and-false, false≢true}
use mathlib.Core.List.{List}
use Prim.Native.Nat.{ℕ, ◌+◌, ◌*◌, ◌≤◌, ◌<◌}
use native.Mathlib.Omega.{arith}
use lib.ListN.{length, get_or, get_or-replicate, length-replicate}
use lib.Dec.{eqb, leb}
use borrow.Author.Tests.{ltb-true, ltb-false, leb-true, leb-false, le-leb, lt-leb, lt-ltb, eq-eqb, not-true}
use Rattle.paper.specs.declared.Columns.{Columns}
use Rattle.paper.specs.Downloads.{place_length, store_length, places_in, code_at, place, is_stored, is_full, with_place, download_bytes, free_bytes, place_for, is_dropped, put_in, erased, all_erased}
use Rattle.paper.specs.Bounds.{is_free, download_ok, place_ok, store_ok}
use Rattle.laws_bytes.specs.Readings.{whole_columns}
use Rattle.laws_bytes.proofs.Tests.{by_test, both_of}
use Rattle.laws_memory.proofs.Tests.{eq_cases}
use Rattle.laws_downloads.proofs.Tests.{not-ltb, below_all}
use Rattle.laws_downloads.proofs.Places.{place-le, place_found, stored_at, stored_none}
use Rattle.laws_downloads.proofs.Written.{with_length, with_places, with_same, with_other, with_beyond, code_same, code_other, place_with_other, place_with_same}
use Rattle.laws_downloads.proofs.Stored.{Same, store_length_lem, store_all, place_free, place_taken, own, place_kept}

-- ---- lengths

pub put_length : (ds : List ℕ) (code : ℕ) (c : Columns) → length (put_in ds code c) ≡ length ds
unfolding put_in
put_length ds code c = with_length ds (place_for ds code) (download_bytes code c)

pub erase-length : (ds : List ℕ) (c : ℕ) → length (erased ds c) ≡ length ds
unfolding erased
erase-length ds c = with_length ds (place ds c) free_bytes

pub none_length : (ds : List ℕ) → length (all_erased ds) ≡ length ds
none_length ds = length-replicate (length ds) 0

-- ---- the place for a code

module _ (ds : List ℕ) where
  -- it is not after the code's own
  for_le : (c : ℕ) → place_for ds c ≤ place ds c
  unfolding place_for
  for_le c =
      by_test (λ t. cond t (place ds c) (place ds 0) ≤ place ds c) (is_stored ds c) (λ e. omega arith)
      (λ e. omega (arith, ltb-false (place ds c) (places_in ds) e, place-le ds 0))

  pub for_places : (c : ℕ) → place_for ds c ≤ places_in ds
  for_places c = omega (arith, for_le c, place-le ds c)

  pub for_stored : (c : ℕ) → place ds c < places_in ds → place_for ds c ≡ place ds c
  unfolding place_for
  for_stored c h = rw (lt-ltb (place ds c) (places_in ds) h)

  -- nor does it hold another code
  for_other : (c x : ℕ) → (x ≡ c → ⊥) → 1 ≤ x → place_for ds c < places_in ds → code_at ds (place_for ds c) ≡ x → ⊥
  unfolding place_for
  for_other c x ne h =
      by_test
      (λ t. cond t (place ds c) (place ds 0) < places_in ds → code_at ds (cond t (place ds c) (place ds 0)) ≡ x → ⊥)
      (is_stored ds c)
      (λ e l q. ne (sym q ∙ place_found ds c l))
      (λ e l q. absurd (omega (arith, sym q ∙ place_found ds 0 l)))

  -- there is none exactly where the code is dropped
  pub dropped_place : (c : ℕ) → is_dropped ds c ≡ leb (places_in ds) (place_for ds c)
  unfolding is_dropped place_for
  dropped_place c =
      by_test (λ t. (not t && is_full ds) ≡ leb (places_in ds) (cond t (place ds c) (place ds 0))) (is_stored ds c)
      (λ e. sym (lt-leb (places_in ds) (place ds c) (ltb-true (place ds c) (places_in ds) e)))
      (λ e. not-ltb (place ds 0) (places_in ds))

  pub room : (c : ℕ) → is_dropped ds c ≡ false → place_for ds c < places_in ds
  room c h = leb-false (places_in ds) (place_for ds c) (sym (dropped_place c) ∙ h)

  no_room : (c : ℕ) → is_dropped ds c ≡ true → places_in ds ≤ place_for ds c
  no_room c h = leb-true (places_in ds) (place_for ds c) (sym (dropped_place c) ∙ h)

  -- a code that is dropped is not stored, and 16 are
  pub dropped_absent : (c : ℕ) → is_dropped ds c ≡ true → is_stored ds c ≡ false
  unfolding is_dropped
  dropped_absent c h = not-true (is_stored ds c) (both_of (not (is_stored ds c)) (is_full ds) h).0

  pub dropped_full : (c : ℕ) → is_dropped ds c ≡ true → is_full ds ≡ true
  unfolding is_dropped
  dropped_full c h = (both_of (not (is_stored ds c)) (is_full ds) h).1

-- ---- a place that is written is accepted

module _ (ds : List ℕ) (p : ℕ) where
  download_written : (code : ℕ) (c : Columns) → p < places_in ds → 0x20 ≤ code → whole_columns c ≡ true
      → download_ok (with_place ds p (download_bytes code c)) p ≡ true
  unfolding download_ok whole_columns
  download_written code c l low whole =
      let bytes = download_bytes code c in
      rw (
        code_same ds p bytes l,
        with_same ds p bytes (place_length * p + 1) 1 refl (omega arith) l,
        with_same ds p bytes (place_length * p + 7) 7 refl (omega arith) l,
        with_same ds p bytes (place_length * p + 8) 8 refl (omega arith) l,
        le-leb 0x20 code low,
      )
      whole

  free_written : p < places_in ds → is_free (with_place ds p free_bytes) p ≡ true
  unfolding is_free
  free_written l =
      below_all (λ r. eqb (get_or (with_place ds p free_bytes) (place_length * p + r) 0) 0) place_length
      (λ r h. eq-eqb _ 0 (with_same ds p free_bytes (place_length * p + r) r refl h l ∙ get_or-replicate place_length r 0 0 h))

-- ---- store

module _ (ds : List ℕ) (code : ℕ) (c : Columns) where
  -- a code that has a place is found there afterwards, with its bytes
  pub put_place : is_dropped ds code ≡ false → place (put_in ds code c) code ≡ place_for ds code
  unfolding put_in
  put_place h = place_with_same ds (place_for ds code) (download_bytes code c) (room ds code h) (for_le ds code)

  pub put_bytes : is_dropped ds code ≡ false → (r : ℕ) → r < place_length
      → get_or (put_in ds code c) (place_length * place_for ds code + r) 0 ≡ get_or (download_bytes code c) r 0
  unfolding put_in
  put_bytes h r l = with_same ds (place_for ds code) (download_bytes code c) _ r refl l (room ds code h)

  module _ (n : length ds ≡ store_length) where
    -- "read and dropped"
    pub put_dropped : is_dropped ds code ≡ true → put_in ds code c ≡ ds
    unfolding put_in
    put_dropped h = with_beyond ds (place_for ds code) (download_bytes code c) (omega (arith, n)) (no_room ds code h)

    -- stored afterwards, exactly where it was not dropped
    pub put_stored : is_stored (put_in ds code c) code ≡ not (is_dropped ds code)
    put_stored =
        by_test (λ t. is_dropped ds code ≡ t → is_stored (put_in ds code c) code ≡ not t) (is_dropped ds code)
        (λ _ h. rw (put_dropped h) (dropped_absent ds code h))
        (λ _ h. rw (put_place h, put_length ds code c) (lt-ltb (place_for ds code) (places_in ds) (room ds code h)))
        refl

  -- any other code's download stays where it was
  pub put_other : (x : ℕ) → (x ≡ code → ⊥) → 1 ≤ x → place (put_in ds code c) x ≡ place ds x
  unfolding put_in
  put_other x ne h =
      place_with_other ds (place_for ds code) (download_bytes code c) x (λ e. ne (sym e)) (for_other ds code x ne h)

  pub put_other_stored : (x : ℕ) → (x ≡ code → ⊥) → 1 ≤ x → is_stored (put_in ds code c) x ≡ is_stored ds x
  put_other_stored x ne h = rw (put_other x ne h, put_length ds code c)

  -- and as it was
  pub put_other_bytes : (x : ℕ) → (x ≡ code → ⊥) → 1 ≤ x → is_stored ds x ≡ true → Same ds (put_in ds code c) (place ds x)
  unfolding put_in
  put_other_bytes x ne h s r l =
      let k = place ds x in
      let there = ltb-true k (places_in ds) s in
      with_other ds (place_for ds code) (download_bytes code c) _ k r refl l there
      (λ e. for_other ds code x ne h (omega arith) (ap (code_at ds) (sym e) ∙ place_found ds x there))

  -- with 16 stored, 16 stay stored
  pub put_full : 1 ≤ code → is_full ds ≡ true → is_full (put_in ds code c) ≡ true
  unfolding put_in
  put_full h f = ap not (stored_none (with_place ds p bytes) 0 none)
    where
      p : ℕ
      p = place_for ds code

      bytes : List ℕ
      bytes = download_bytes code c

      none : (k : ℕ) → k < places_in (with_place ds p bytes) → code_at (with_place ds p bytes) k ≡ 0 → ⊥
      none k l e =
          let there : k < places_in ds = omega (arith, with_places ds p bytes) in
          eq_cases k p
          (λ q. absurd (omega (arith, sym (code_same ds p bytes (omega arith)) ∙ ap (code_at (with_place ds p bytes)) (sym q) ∙ e)))
          (λ ne.
          false≢true
          (sym (not-true (is_stored ds 0) f) ∙ stored_at ds 0 k there (sym (code_other ds p bytes k there ne) ∙ e)))

  -- accepted downloads stay accepted
  pub put_ok : store_ok ds ≡ true → 0x20 ≤ code → whole_columns c ≡ true → store_ok (put_in ds code c) ≡ true
  unfolding put_in
  put_ok ok low whole = store_all es (with_length ds p bytes ∙ n) (λ k l. eq_cases k p (new k l) (old k l))
    where
      p : ℕ
      p = place_for ds code

      bytes : List ℕ
      bytes = download_bytes code c

      es : List ℕ
      es = with_place ds p bytes

      n : length ds ≡ store_length
      n = store_length_lem ds ok

      -- the place that is written
      taken : p < places_in ds → place_ok es p ≡ true
      taken l =
          place_taken es p (download_written ds p code c l low whole)
          (ap (place es) (code_same ds p bytes l) ∙ place_with_same ds p bytes l (for_le ds code))

      new : (k : ℕ) → k < 16 → k ≡ p → place_ok es k ≡ true
      new k l e = ap (place_ok es) e ∙ taken (omega (arith, n))

      -- another one: where it holds the code, that is written
      old : (k : ℕ) → k < 16 → (k ≡ p → ⊥) → place_ok es k ≡ true
      old k l ne =
          place_kept ds ok p bytes k l ne
          (λ h e.
          let here = own ds ok k code l (sym e) (omega arith) in
          ne (sym (for_stored ds code (omega (arith, n)) ∙ here)))

-- ---- erase

module _ (ds : List ℕ) (c : ℕ) where
  -- any other code's download stays where it was, as it was
  pub erase_other : (x : ℕ) → (x ≡ c → ⊥) → 1 ≤ x → place (erased ds c) x ≡ place ds x
  unfolding erased
  erase_other x ne h =
      place_with_other ds (place ds c) free_bytes x (λ e. absurd (omega arith)) (λ l e. ne (sym e ∙ place_found ds c l))

  pub erase_other_stored : (x : ℕ) → (x ≡ c → ⊥) → 1 ≤ x → is_stored (erased ds c) x ≡ is_stored ds x
  erase_other_stored x ne h = rw (erase_other x ne h, erase-length ds c)

  pub erase_other_bytes : (x : ℕ) → (x ≡ c → ⊥) → is_stored ds x ≡ true → Same ds (erased ds c) (place ds x)
  unfolding erased
  erase_other_bytes x ne s r l =
      let there = ltb-true (place ds x) (places_in ds) s in
      with_other ds (place ds c) free_bytes _ (place ds x) r refl l there
      (λ e. ne (sym (place_found ds x there) ∙ ap (code_at ds) e ∙ place_found ds c (omega arith)))

  -- the place of a code that was stored is free: "erased room is used again"
  pub erase_room : is_stored ds c ≡ true → (x : ℕ) → is_dropped (erased ds c) x ≡ false
  unfolding is_dropped erased
  erase_room s x =
      let l = ltb-true (place ds c) (places_in ds) s in
      let es = with_place ds (place ds c) free_bytes in
      rw (stored_at es 0 (place ds c) (omega (arith, with_places ds (place ds c) free_bytes)) (code_same ds (place ds c) free_bytes l))
      (and-false (not (is_stored es x)))

  module _ (ok : store_ok ds ≡ true) where
    -- the code is not stored any more
    pub erase_none : 1 ≤ c → is_stored (erased ds c) c ≡ false
    unfolding erased
    erase_none h = stored_none es c none
      where
        p : ℕ
        p = place ds c

        es : List ℕ
        es = with_place ds p free_bytes

        none : (k : ℕ) → k < places_in es → code_at es k ≡ c → ⊥
        none k l e =
            let there : k < places_in ds = omega (arith, with_places ds p free_bytes) in
            eq_cases k p
            (λ q. absurd (omega (arith, sym (code_same ds p free_bytes (omega arith)) ∙ ap (code_at es) (sym q) ∙ e)))
            (λ ne.
            ne
            (sym
            (own ds ok k c (omega (arith, store_length_lem ds ok)) (sym (code_other ds p free_bytes k there ne) ∙ e) h)))

    -- accepted downloads stay accepted
    pub erase_ok : store_ok (erased ds c) ≡ true
    unfolding erased
    erase_ok = store_all es (with_length ds p free_bytes ∙ n) (λ k l. eq_cases k p (new k l) (old k l))
      where
        p : ℕ
        p = place ds c

        es : List ℕ
        es = with_place ds p free_bytes

        n : length ds ≡ store_length
        n = store_length_lem ds ok

        new : (k : ℕ) → k < 16 → k ≡ p → place_ok es k ≡ true
        new k l e = ap (place_ok es) e ∙ place_free es p (free_written ds p (omega (arith, n)))

        old : (k : ℕ) → k < 16 → (k ≡ p → ⊥) → place_ok es k ≡ true
        old k l ne = place_kept ds ok p free_bytes k l ne (λ h e. absurd (omega arith))

-- ---- erase all

pub none_ok : (ds : List ℕ) → length ds ≡ store_length → store_ok (all_erased ds) ≡ true
unfolding store_ok place_ok is_free
none_ok ds n = rw n
