-- The downloads in number 8's row: a clause holds if their test fails, and what their test gives if it passes. Assumes nothing.
use mathlib.Core.Path.{◌≡◌, refl, sym, ap, ◌∙◌}
use Rattle.std.specs.Prelude.{Option, None, Some}
use mathlib.Core.Bool.{Bool, true, false, cond, not, ◌&&◌, ◌||◌, true≢false}
use mathlib.Core.List.{List}
use mathlib.Core.Logic.{◌≢◌, ◌⊎◌, inl, inr, ⊎_elim}
use Prim.Native.Nat.{ℕ, ◌+◌, ◌*◌, ◌-◌, ◌<◌, ◌≤◌}
use native.Mathlib.Nat.{add-zero}
use native.Mathlib.Omega.{arith}
use lib.Dec.{leb, eqb}
use lib.ListN.{length, get_or}
use borrow.Author.Tests.{leb-false, eqb-true, eqb-false}
use Rattle.paper.specs.declared.Module.{Module}
use Rattle.paper.specs.declared.Batch.{Batch}
use Rattle.paper.specs.declared.Half.{Half}
use Rattle.paper.specs.declared.Half.TheVariants.{Nothing, Escape, Unit, Group, Actions, Images, Characters, Windows, Value, Rest, DownloadA, DownloadFrom, DownloadTo, GlyphWidth, GlyphByte, Low, High, ImageKind, ImageData, EnlargeX, EnlargeY, SelectA, WindowA, WindowB, EraseA, EraseCode}
use Rattle.paper.specs.declared.Held.{Held}
use Rattle.paper.specs.declared.State.{State}
use Rattle.paper.specs.Downloads.{place_length, store_length, code_at, width_at, column_at, place, is_stored, is_full}
use Rattle.paper.specs.Bounds.{is_free, download_ok, place_ok, store_ok, all_stored, note_ok, half_note_ok, define_ok}
use Rattle.laws_bytes.proofs.Tests.{by_test, both_of}
use Rattle.laws_state.proofs.Tests.{neither}
use Rattle.laws_downloads.proofs.Tests.{below_at, below_all}
use Rattle.laws_downloads.proofs.Places.{place_first, place_found}
use Rattle.laws_downloads.proofs.Stored.{download_code, held}
use Rattle.laws_number8.proofs.Tests.{fails, fails_after, fails_below}
use Rattle.laws_number8.specs.Row.{Taken, Defines, at_width, at_column, Missing, Breaks, places_missing, code_twice, code_low, width_other, column_unused, define_missing, note_missing, note_wrong}

-- ---- a clause holds if the test fails

-- a place that is not free is taken
taken : (ds : List ℕ) (k : ℕ) → k < 16 → is_free ds k ≡ false → Taken ds k
unfolding is_free
taken ds k l e =
    fails_below (λ j. eqb (get_or ds (place_length * k + j) 0) 0) place_length
    (λ j m q. record { last = l; byte = j; inside = m; some = eqb-false _ 0 q }) e

-- and so is one with a code
coded : (ds : List ℕ) (k : ℕ) → k < 16 → 0x20 ≤ code_at ds k → Taken ds k
coded ds k l h =
    record {
      last = l;
      byte = 0;
      inside = omega arith;
      some = λ q. some (ap (λ (a : ℕ). get_or ds a 0) (sym (add-zero (place_length * k))) ∙ q);
    }
  where
    some : code_at ds k ≢ 0
    some q = omega arith

module _ (g : Module) (s : State) (ds : List ℕ) where
  -- a place whose test fails
  place_out : length ds ≡ store_length → (k : ℕ) → k < 16 → place_ok ds k ≡ false → Breaks g s ds
  unfolding place_ok download_ok
  place_out n k l e =
      let p = neither (is_free ds k) _ e in
      let t = taken ds k l p.0 in
      fails_after (download_ok ds k)
      (fails (leb 0x20 (code_at ds k)) (λ q. code_low k t (leb-false 0x20 (code_at ds k) q))
      (λ q.
      let w = neither (eqb (width_at ds k) 7) _ q in
      let wide = eqb-false (width_at ds k) 7 w.0 in
      fails (eqb (width_at ds k) 5) (λ r. width_other k t (eqb-false (width_at ds k) 5 r) wide)
      (fails (eqb (column_at ds k 5) 0) (λ r. column_unused k t wide (inl (eqb-false (column_at ds k 5) 0 r)))
      (λ r. column_unused k t wide (inr (eqb-false (column_at ds k 6) 0 r))))
      w.1))
      (λ o q. twice o (eqb-false (place ds (code_at ds k)) k q))
      p.1
    where
      i : ℕ
      i = place ds (code_at ds k)

      twice : download_ok ds k ≡ true → i ≢ k → Breaks g s ds
      twice o ne = code_twice i k (coded ds i (omega (arith, first)) (rw same low)) (coded ds k l low) (omega (arith, first, ne)) same where
        low : 0x20 ≤ code_at ds k
        low = download_code ds k o

        first : i ≤ k
        first = place_first ds (code_at ds k) k (omega (arith, n)) refl

        same : code_at ds i ≡ code_at ds k
        same = place_found ds (code_at ds k) (omega (arith, n, first))

  -- one of the sixteen
  pub store_out : store_ok ds ≡ false → Breaks g s ds
  unfolding store_ok
  store_out =
      fails_after (eqb (length ds) store_length) (λ q. places_missing (eqb-false (length ds) store_length q))
      (λ n q. fails_below (place_ok ds) 16 (place_out (eqb-true (length ds) store_length n)) q)

  -- the note of a define
  note_out : (d : Batch) (n : Bool) → s.hold ≡ None → Defines s.half d n → note_ok ds d n ≡ false → Breaks g s ds
  unfolding note_ok all_stored
  note_out d n h i e = go (all_stored ds d.first d.code) refl n i e where
    go : (t : Bool) → all_stored ds d.first d.code ≡ t → (n : Bool) → Defines s.half d n
        → cond t (not n) (n && is_full ds) ≡ false → Breaks g s ds
    go true q true i e = note_wrong d h i (λ c m. all q c m) where
      all : all_stored ds d.first d.code ≡ true → (c : ℕ) → ¬ Missing ds d c
      all a c m =
          let there : d.first + (c - d.first) ≡ c = omega (arith, m.0) in
          true≢false (sym (rw there at (below_at (λ k. is_stored ds (d.first + k)) (d.code - d.first) a (c - d.first) (omega (arith, m.0, m.1)))) ∙ m.2)
    go true q false i e = absurd (true≢false e)
    go false q n i e =
        fails_below (λ k. is_stored ds (d.first + k)) (d.code - d.first)
        (λ k l u.
        let m : Missing ds d (d.first + k) = (omega arith, omega arith, u) in
        fails n (λ z. note_missing d (d.first + k) h (rw z at i) m) (λ z. define_missing d n (d.first + k) h i m z) e) q

  -- of what is half read
  half_out : (p : Half) → s.hold ≡ None → s.half ≡ p → half_note_ok ds p ≡ false → Breaks g s ds
  unfolding half_note_ok
  half_out Nothing h q e = absurd (true≢false e)
  half_out Escape h q e = absurd (true≢false e)
  half_out Unit h q e = absurd (true≢false e)
  half_out Group h q e = absurd (true≢false e)
  half_out Actions h q e = absurd (true≢false e)
  half_out Images h q e = absurd (true≢false e)
  half_out Characters h q e = absurd (true≢false e)
  half_out Windows h q e = absurd (true≢false e)
  half_out (Value key) h q e = absurd (true≢false e)
  half_out (Rest left) h q e = absurd (true≢false e)
  half_out DownloadA h q e = absurd (true≢false e)
  half_out DownloadFrom h q e = absurd (true≢false e)
  half_out (DownloadTo from) h q e = absurd (true≢false e)
  half_out (GlyphWidth d n) h q e = note_out d n h (rw q (at_width d n)) e
  half_out (GlyphByte d n c) h q e = note_out d n h (rw q (at_column d n c)) e
  half_out (Low w) h q e = absurd (true≢false e)
  half_out (High w low) h q e = absurd (true≢false e)
  half_out (ImageKind width height) h q e = absurd (true≢false e)
  half_out (ImageData width height column row) h q e = absurd (true≢false e)
  half_out EnlargeX h q e = absurd (true≢false e)
  half_out (EnlargeY x) h q e = absurd (true≢false e)
  half_out SelectA h q e = absurd (true≢false e)
  half_out WindowA h q e = absurd (true≢false e)
  half_out (WindowB a) h q e = absurd (true≢false e)
  half_out EraseA h q e = absurd (true≢false e)
  half_out (EraseCode a) h q e = absurd (true≢false e)

  -- outside a hold
  pub define_out : (h : Option Held) → s.hold ≡ h → (p : Half) → s.half ≡ p → define_ok ds h p ≡ false → Breaks g s ds
  unfolding define_ok
  define_out None h p q e = half_out p h q e
  define_out (Some x) h p q e = absurd (true≢false e)

-- ---- what the test gives if it passes

module _ (ds : List ℕ) (ok : store_ok ds ≡ true) (k : ℕ) (t : Taken ds k) where
  -- a place that is taken holds a download, of whose code it is the first place
  pub taken_holds : (download_ok ds k ≡ true) × (place ds (code_at ds k) ≡ k)
  unfolding is_free
  taken_holds =
      ⊎_elim (λ e. absurd (t.some (eqb-true _ 0 (below_at (λ j. eqb (get_or ds (place_length * k + j) 0) 0) place_length e t.byte t.inside))))
      (λ h. h) (held ds ok k t.last)

  pub taken_code : 0x20 ≤ code_at ds k
  taken_code = download_code ds k taken_holds.0

  pub taken_width : (eqb (width_at ds k) 7 || (eqb (width_at ds k) 5 && (eqb (column_at ds k 5) 0 && eqb (column_at ds k 6) 0))) ≡ true
  unfolding download_ok
  taken_width = (both_of (leb 0x20 (code_at ds k)) _ taken_holds.0).1

-- no code stands twice
pub once : (ds : List ℕ) → store_ok ds ≡ true → (i k : ℕ) → Taken ds i → Taken ds k → i < k → code_at ds i ≡ code_at ds k → ⊥
once ds ok i k a b l q =
    let z : i ≡ k = sym (taken_holds ds ok i a).1 ∙ ap (place ds) q ∙ (taken_holds ds ok k b).1 in omega arith

-- five columns have no sixth and no seventh
pub used : (ds : List ℕ) (k : ℕ) → (column_at ds k 5 ≢ 0) ⊎ (column_at ds k 6 ≢ 0)
    → ¬ ((eqb (column_at ds k 5) 0 && eqb (column_at ds k 6) 0) ≡ true)
used ds k (inl n) e = n (eqb-true (column_at ds k 5) 0 (both_of (eqb (column_at ds k 5) 0) _ e).0)
used ds k (inr n) e = n (eqb-true (column_at ds k 6) 0 (both_of (eqb (column_at ds k 5) 0) _ e).1)

-- the note of a define that is half read outside a hold
pub free_note : (s : State) (ds : List ℕ) → define_ok ds s.hold s.half ≡ true → s.hold ≡ None → {d : Batch} {n : Bool}
    → Defines s.half d n → note_ok ds d n ≡ true
unfolding define_ok half_note_ok
free_note s ds e h {d} {n} i = go s.half i (rw h at e) where
  go : (p : Half) → Defines p d n → half_note_ok ds p ≡ true → note_ok ds d n ≡ true
  go p (at_width d n) e = e
  go p (at_column d n c) e = e

module _ (ds : List ℕ) (d : Batch) (n : Bool) (note : note_ok ds d n ≡ true) where
  -- a code is missing: the note says so, and no place is free
  pub missing_full : (c : ℕ) → Missing ds d c → (n ≡ true) × (is_full ds ≡ true)
  unfolding note_ok all_stored
  missing_full c m = go (all_stored ds d.first d.code) refl note where
    there : d.first + (c - d.first) ≡ c
    there = omega (arith, m.0)

    go : (t : Bool) → all_stored ds d.first d.code ≡ t → cond t (not n) (n && is_full ds) ≡ true
        → (n ≡ true) × (is_full ds ≡ true)
    go true q e =
        let h = below_at (λ k. is_stored ds (d.first + k)) (d.code - d.first) q (c - d.first) (omega (arith, m.0, m.1)) in
        absurd (true≢false (sym (rw there at h) ∙ m.2))
    go false q e = both_of n (is_full ds) e

  -- none is: the note says so
  pub none_missing : ((c : ℕ) → ¬ Missing ds d c) → n ≡ false
  unfolding note_ok all_stored
  none_missing whole = off n (rw all at note) where
    off : (t : Bool) → not t ≡ true → t ≡ false
    off true e = sym e
    off false e = refl

    all : all_stored ds d.first d.code ≡ true
    all =
        below_all (λ k. is_stored ds (d.first + k)) (d.code - d.first)
        (λ k l.
        by_test (λ t. is_stored ds (d.first + k) ≡ t → t ≡ true) (is_stored ds (d.first + k)) (λ _ _. refl)
        (λ _ e. absurd (whole (d.first + k) (omega arith, omega arith, e))) refl)
