-- A code's place, or the number of places where none has it. Assumes nothing.
use mathlib.Core.Path.{◌≡◌, refl, sym, ap, subst, ◌∙◌}
use mathlib.Core.Bool.{Bool, true, false, cond}
use mathlib.Core.List.{List, ◌++◌}
use Prim.Native.Nat.{ℕ, ◌+◌, ◌-◌, ◌*◌, ◌/◌, ◌%◌, ◌≤◌, ◌<◌, min}
use native.Mathlib.Omega.{arith}
use lib.ListN.{length, get_or, take, drop, get_or-append}
use lib.Seq.{length-take-le}
use lib.Dec.{eqb}
use borrow.Author.Tests.{eq-eqb, ne_eqb, ltb-false}
use borrow.Rule.Slice.PartMut.{put_mid}
use Rattle.std.proofs.Common.{Option, Some, None, MatchOption, unwrap_or}
use Rattle.std.proofs.lemmas.Bool.{cond_both}
use Rattle.std.proofs.lemmas.List.{get_or-append_right, get_or-drop, get_or-take, length-append, length-drop}
use Rattle.paper.specs.Downloads.{places_in, place, is_stored, place_for, with_place}
use Rattle.laws_memory.proofs.Tests.{lt_cases}
use Rattle.laws_memory.proofs.Each.{each_by}
use Rattle.laws_downloads.proofs.Places.{place-le}

-- ---- a place that may be there

abbrev pub place_of : List ℕ → ℕ → Option ℕ
place_of ds c = cond (is_stored ds c) (Some (place ds c)) None

pub place_or : (ds : List ℕ) (c : ℕ) → unwrap_or (place_of ds c) (places_in ds) ≡ place ds c
place_or ds c =
    cond_both (is_stored ds c) (Some (place ds c)) None (λ o. unwrap_or o (places_in ds) ≡ place ds c) (λ e. refl)
    (λ e. omega (arith, place-le ds c, ltb-false (place ds c) (places_in ds) e))

-- its own, else the first free one
pub own_or_free : (ds : List ℕ) (c : ℕ) (own r : Option ℕ) → own ≡ place_of ds c
    → MatchOption own (r ≡ place_of ds 0) (λ k. r ≡ Some k) → unwrap_or r (places_in ds) ≡ place_for ds c
unfolding place_for
own_or_free ds c own r e h = go (is_stored ds c) (place ds c) e h
  where
    go : (t : Bool) (k : ℕ) → own ≡ cond t (Some k) None → MatchOption own (r ≡ place_of ds 0) (λ k. r ≡ Some k)
        → unwrap_or r (places_in ds) ≡ cond t k (place ds 0)
    go true k e h = ap (λ (o : Option ℕ). unwrap_or o (places_in ds)) (subst (λ (o : Option ℕ). MatchOption o (r ≡ place_of ds 0) (λ k. r ≡ Some k)) e h)
    go false k e h =
        ap (λ (o : Option ℕ). unwrap_or o (places_in ds)) (subst (λ (o : Option ℕ). MatchOption o (r ≡ place_of ds 0) (λ k. r ≡ Some k)) e h)
        ∙ place_or ds 0
