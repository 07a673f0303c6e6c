-- The first place of a code, and what stands where after a place is set. Assumes nothing.
use mathlib.Core.Path.{◌≡◌, ap, ◌∙◌}
use mathlib.Core.Bool.{Bool, true, false}
use mathlib.Core.List.{List}
use Prim.Native.Nat.{ℕ, ◌+◌, ◌-◌, ◌≤◌, ◌<◌}
use native.Mathlib.Omega.{arith}
use lib.Dec.{eqb}
use borrow.Author.Tests.{eqb-true, eq-eqb, ne_eqb, lt-ltb, le-ltb}
use Rattle.paper.specs.Downloads.{places_in, code_at, seek, place, is_stored}
use Rattle.laws_memory.proofs.Tests.{lt_cases}
use Rattle.laws_downloads.proofs.Seek.{seek_here, seek_on, seek_end, seek-le, seek_found, seek_first, seek_is, seek-same}

-- place k holds the code
abbrev pub holds : List ℕ → ℕ → ℕ → Bool
holds ds c k = eqb (code_at ds k) c

-- ---- where a code is

module _ (ds : List ℕ) (c : ℕ) where
  pub place-le : place ds c ≤ places_in ds
  unfolding place
  place-le = omega (arith, seek-le (holds ds c) 0 (places_in ds))

  pub place_found : place ds c < places_in ds → code_at ds (place ds c) ≡ c
  unfolding place
  place_found l = eqb-true _ c (seek_found (holds ds c) 0 (places_in ds) (omega arith))

  pub place_first : (k : ℕ) → k < places_in ds → code_at ds k ≡ c → place ds c ≤ k
  unfolding place
  place_first k l e = seek_first (holds ds c) 0 (places_in ds) k (omega arith) (omega arith) (eq-eqb (code_at ds k) c e)

  -- a place that holds it is its place, if none before does
  pub place_is : (k : ℕ) → k < places_in ds → code_at ds k ≡ c → ((j : ℕ) → j < k → code_at ds j ≡ c → ⊥) → place ds c ≡ k
  unfolding place
  place_is k l e before =
      seek_is (holds ds c) 0 (places_in ds) k (omega arith) (omega arith) (eq-eqb (code_at ds k) c e) (λ j _ h. ne_eqb (code_at ds j) c (before j h))

  -- it is stored where a place holds it
  pub stored_at : (k : ℕ) → k < places_in ds → code_at ds k ≡ c → is_stored ds c ≡ true
  stored_at k l e = lt-ltb (place ds c) (places_in ds) (omega (arith, place_first k l e))

  -- and is not where none does
  pub stored_none : ((k : ℕ) → k < places_in ds → code_at ds k ≡ c → ⊥) → is_stored ds c ≡ false
  stored_none none = le-ltb (place ds c) (places_in ds) here
    where
      here : places_in ds ≤ place ds c
      here = lt_cases (place ds c) (places_in ds) (λ l. absurd (none (place ds c) l (place_found l))) (λ h. h)

  -- ---- the loop that looks for it, come to place k

  pub look_starts : place ds c ≡ seek (holds ds c) 0 (places_in ds - 0)
  unfolding place
  look_starts = ap (seek (holds ds c) 0) all
    where
      all : places_in ds ≡ places_in ds - 0
      all = omega arith

  module _ (k : ℕ) (inv : place ds c ≡ seek (holds ds c) k (places_in ds - k)) where
    pub look_here : k < places_in ds → code_at ds k ≡ c → place ds c ≡ k
    look_here l e = inv ∙ seek_here (holds ds c) k (places_in ds) l (eq-eqb (code_at ds k) c e)

    pub look_on : k < places_in ds → (code_at ds k ≡ c → ⊥) → place ds c ≡ seek (holds ds c) (k + 1) (places_in ds - (k + 1))
    look_on l e = inv ∙ seek_on (holds ds c) k (places_in ds) l (ne_eqb (code_at ds k) c e)

    pub look_ends : k ≡ places_in ds → place ds c ≡ places_in ds
    look_ends e = inv ∙ seek_end (holds ds c) k (places_in ds) e

-- lists with as many places that hold the same codes
pub place_same : (ds es : List ℕ) (c : ℕ) → places_in es ≡ places_in ds
    → ((k : ℕ) → k < places_in ds → holds es c k ≡ holds ds c k) → place es c ≡ place ds c
unfolding place
place_same ds es c n e =
    ap (seek (holds es c) 0) n ∙ seek-same (holds es c) (holds ds c) 0 (places_in ds) (λ k _ l. e k (omega arith))
