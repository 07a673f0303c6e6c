-- The half-read define: its note of a drop, from code to code. Assumes nothing.
use mathlib.Core.Path.{◌≡◌, refl, ap, ◌∙◌}
use mathlib.Core.Bool.{Bool, true, false, cond, not, ◌&&◌, ◌||◌, false≢true}
use mathlib.Core.List.{List}
use Prim.Native.Nat.{ℕ, suc, ◌+◌, ◌-◌, ◌≤◌}
use native.Mathlib.Omega.{arith}
use lib.Dec.{leb}
use borrow.Author.Tests.{leb-true}
use Rattle.paper.specs.declared.Batch.{Batch}
use Rattle.paper.specs.declared.Columns.{Columns}
use Rattle.paper.specs.Downloads.{is_stored, is_full, is_dropped, put_in}
use Rattle.paper.specs.Reading.{batch, next_code}
use Rattle.paper.specs.Bounds.{batch_ok, all_below, store_ok, all_stored, note_ok}
use Rattle.laws_bytes.proofs.Tests.{both_of}
use Rattle.laws_downloads.proofs.Tests.{below_same}
use Rattle.laws_downloads.proofs.Stored.{store_length_lem}
use Rattle.laws_downloads.proofs.Kept.{dropped_full, put_stored, put_other_stored, put_full}

-- ---- the codes read

-- one code more
all-next : (ds : List ℕ) (first code : ℕ) → first ≤ code
    → all_stored ds first (code + 1) ≡ (all_stored ds first code && is_stored ds code)
unfolding all_stored
all-next ds first code h =
    ap (all_below (λ k. is_stored ds (first + k))) step
    ∙ ap (λ (k : ℕ). all_below (λ j. is_stored ds (first + j)) (code - first) && is_stored ds k) here
  where
    step : code + 1 - first ≡ suc (code - first)
    step = omega arith

    here : first + (code - first) ≡ code
    here = omega arith

-- those before are stored or not as they were
all_put : (ds : List ℕ) (first code : ℕ) (c : Columns) → 1 ≤ first
    → all_stored (put_in ds code c) first code ≡ all_stored ds first code
unfolding all_stored
all_put ds first code c h =
    below_same (λ k. is_stored (put_in ds code c) (first + k)) (λ k. is_stored ds (first + k)) (code - first)
    (λ k l. put_other_stored ds code c (first + k) (λ e. absurd (omega arith)) (omega arith))

-- ---- the note

-- before a define's first code is read
pub fresh_note : (ds : List ℕ) (first last : ℕ) → note_ok ds (batch first first last) false ≡ true
unfolding note_ok all_stored
fresh_note ds first last = rw none
  where
    none : first - first ≡ 0
    none = omega arith

-- all stored (a), 16 stored before and after (f, h), the note (d), and whether the code is dropped (x)
note_next : (a f d x h : Bool) → (f ≡ true → h ≡ true) → (x ≡ true → f ≡ true) → cond a (not d) (d && f) ≡ true
    → cond (a && not x) (not (d || x)) ((d || x) && h) ≡ true
note_next true f true x h p q n = absurd (false≢true n)
note_next true f false true h p q n = p (q refl)
note_next true f false false h p q n = refl
note_next false f true x h p q n = p n
note_next false f false x h p q n = absurd (false≢true n)

batch_facts : (d : Batch) → batch_ok d ≡ true → (0x20 ≤ d.first) × (d.first ≤ d.code)
unfolding batch_ok
batch_facts d ok =
    let low = both_of (leb 0x20 d.first) _ ok in
    let on = both_of (leb d.first d.code) _ low.1 in
    (leb-true 0x20 d.first low.0, leb-true d.first d.code on.0)

-- a code's last column: it is stored or dropped, and the note tells of it
pub note_kept : (ds : List ℕ) (d : Batch) (n : Bool) (c : Columns) → store_ok ds ≡ true → batch_ok d ≡ true → note_ok ds d n ≡ true
    → note_ok (put_in ds d.code c) (next_code d) (n || is_dropped ds d.code) ≡ true
unfolding note_ok
note_kept ds d n c ok bok note =
    let b = batch_facts d bok in
    rw (
      all-next (put_in ds d.code c) d.first d.code b.1,
      all_put ds d.first d.code c (omega arith),
      put_stored ds d.code c (store_length_lem ds ok),
    )
    (note_next (all_stored ds d.first d.code) (is_full ds) n (is_dropped ds d.code)
    (is_full (put_in ds d.code c)) (put_full ds d.code c (omega arith)) (dropped_full ds d.code) note)

-- what the note says: "18 exactly if one of its codes was dropped"
pub note_says : (ds : List ℕ) (d : Batch) (n : Bool) → note_ok ds d n ≡ true → n ≡ not (all_stored ds d.first d.code)
unfolding note_ok
note_says ds d n = says (all_stored ds d.first d.code) n (is_full ds)
  where
    says : (a n f : Bool) → cond a (not n) (n && f) ≡ true → n ≡ not a
    says true true f h = absurd (false≢true h)
    says true false f h = refl
    says false true f h = refl
    says false false f h = absurd (false≢true h)
