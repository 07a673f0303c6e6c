-- What stands where after a place is written: `withPlace` of the paper. Assumes nothing.
use mathlib.Core.Path.{◌≡◌, refl, sym, ap, ap₂, ◌∙◌}
use mathlib.Core.Bool.{cond}
use mathlib.Core.List.{List, ◌∷◌}
use Prim.Native.Nat.{ℕ, zero, suc, ◌+◌, ◌*◌, ◌/◌, ◌%◌, ◌≤◌, ◌<◌}
use native.Mathlib.Nat.{add-zero, add-suc, suc-add}
use native.Mathlib.Omega.{arith}
use lib.ListN.{length, get_or}
use lib.Dec.{eqb}
use borrow.Author.Tests.{eq-eqb, ne_eqb}
use Rattle.paper.specs.Panel.{bytes_from}
use Rattle.paper.specs.Downloads.{place_length, places_in, code_at, place, with_place}
use Rattle.laws_memory.proofs.Tests.{eq_cases}
use Rattle.laws_memory.proofs.Each.{length-each, get_or-each, each_by}
use Rattle.laws_downloads.proofs.Places.{holds, place_first, place_is, place_same}

module _ (ds : List ℕ) (k : ℕ) (bytes : List ℕ) where
  -- what stands at an address afterwards
  abbrev after : ℕ → ℕ → ℕ
  after a b = cond (eqb (a / place_length) k) (get_or bytes (a % place_length) 0) b

  -- ---- bytes

  pub with_length : length (with_place ds k bytes) ≡ length ds
  unfolding with_place
  with_length = length-each after ds

  pub with_places : places_in (with_place ds k bytes) ≡ places_in ds
  with_places = ap (λ (n : ℕ). n / place_length) with_length

  -- byte r of a place, at address a: the new one there, the old one elsewhere
  pub with_same : (a r : ℕ) → a ≡ place_length * k + r → r < place_length → k < places_in ds
      → get_or (with_place ds k bytes) a 0 ≡ get_or bytes r 0
  unfolding with_place
  with_same a r e h l = get_or-each after ds a (omega arith) ∙ rw (here, there, eq-eqb k k refl)
    where
      here : a / place_length ≡ k
      here = omega arith

      there : a % place_length ≡ r
      there = omega arith

  pub with_other : (a j r : ℕ) → a ≡ place_length * j + r → r < place_length → j < places_in ds → (j ≡ k → ⊥)
      → get_or (with_place ds k bytes) a 0 ≡ get_or ds a 0
  unfolding with_place
  with_other a j r e h l ne = get_or-each after ds a (omega arith) ∙ rw (here, ne_eqb j k ne)
    where
      here : a / place_length ≡ j
      here = omega arith

  -- after the last place there is nothing to write
  pub with_beyond : place_length * places_in ds ≡ length ds → places_in ds ≤ k → with_place ds k bytes ≡ ds
  unfolding with_place
  with_beyond n h =
      sym (each_by after ds ds refl (λ a l. rw (ne_eqb (a / place_length) k (λ e. absurd (omega arith)))))

  -- ---- codes

  pub code_same : k < places_in ds → code_at (with_place ds k bytes) k ≡ get_or bytes 0 0
  code_same l = with_same (place_length * k) 0 (omega arith) (omega arith) l

  pub code_other : (j : ℕ) → j < places_in ds → (j ≡ k → ⊥) → code_at (with_place ds k bytes) j ≡ code_at ds j
  code_other j l ne = with_other (place_length * j) j 0 (omega arith) (omega arith) l ne

  -- a code that is not written, and that the place did not hold, stays where it was
  pub place_with_other : (x : ℕ) → (get_or bytes 0 0 ≡ x → ⊥) → (k < places_in ds → code_at ds k ≡ x → ⊥)
      → place (with_place ds k bytes) x ≡ place ds x
  place_with_other x new old = place_same ds (with_place ds k bytes) x with_places same
    where
      same : (j : ℕ) → j < places_in ds → holds (with_place ds k bytes) x j ≡ holds ds x j
      same j l =
          eq_cases j k
          (λ e.
          let h : k < places_in ds = omega arith in
          rw (e, code_same h, ne_eqb (get_or bytes 0 0) x new, ne_eqb (code_at ds k) x (old h)))
          (λ ne. rw (code_other j l ne))

  -- the code that is written is found there, where it did not stand before
  pub place_with_same : k < places_in ds → k ≤ place ds (get_or bytes 0 0) → place (with_place ds k bytes) (get_or bytes 0 0) ≡ k
  place_with_same l h =
      place_is (with_place ds k bytes) (get_or bytes 0 0) k (omega (arith, with_places)) (code_same l)
      (λ j b e.
      absurd
      (omega (
        arith,
        place_first ds (get_or bytes 0 0) j (omega arith) (sym (code_other j (omega arith) (λ q. absurd (omega arith))) ∙ e),
      )))

-- ---- columns

-- bytes that agree, from a place of each list on
pub bytes_same : (n : ℕ) (l m : List ℕ) (i j : ℕ) → ((r : ℕ) → r < n → get_or l (i + r) 0 ≡ get_or m (j + r) 0)
    → bytes_from n i l ≡ bytes_from n j m
bytes_same zero l m i j h = refl
bytes_same (suc n) l m i j h =
    ap₂ (λ (b : ℕ) (bs : List ℕ). b ∷ bs)
    (ap (λ (a : ℕ). get_or l a 0) (sym (add-zero i)) ∙ h 0 (omega arith) ∙ ap (λ (a : ℕ). get_or m a 0) (add-zero j))
    (bytes_same n l m (suc i) (suc j)
    (λ r b.
    ap (λ (a : ℕ). get_or l a 0) (suc-add i r ∙ sym (add-suc i r))
    ∙ h (suc r) (omega arith)
    ∙ ap (λ (a : ℕ). get_or m a 0) (add-suc j r ∙ sym (suc-add j r))))
