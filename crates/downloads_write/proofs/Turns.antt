-- The loop that writes a place, byte by byte. Assumes nothing.
use mathlib.Core.Path.{◌≡◌, refl, sym, ap, ◌∙◌}
use mathlib.Core.Bool.{Bool, true, cond, ◌&&◌, and-false}
use mathlib.Core.List.{List}
use Prim.Native.Nat.{ℕ, ◌+◌, ◌-◌, ◌*◌, ◌/◌, ◌%◌, ◌≤◌, ◌<◌, min}
use native.Mathlib.Omega.{arith}
use lib.ListN.{length, get_or, set, length-set, get_or-replicate, length-replicate}
use lib.Seq.{get_or-set_same, get_or-set_other, ext_get_or}
use lib.Dec.{eqb, ltb}
use borrow.Author.Tests.{lt-ltb, le-ltb, eq-eqb, ne_eqb}
use Rattle.paper.specs.Panel.{each}
use Rattle.paper.specs.Downloads.{place_length, with_place, all_erased}
use Rattle.laws_memory.proofs.Tests.{lt_cases, eq_cases}
use Rattle.laws_memory.proofs.Each.{length-each, get_or-each, each_by, each_same}

-- ---- a place, come to byte r

module _ (k : ℕ) (bytes : List ℕ) where
  -- an address that is written
  abbrev is_done : ℕ → ℕ → Bool
  is_done r a = ltb (a % place_length) r && eqb (a / place_length) k

  abbrev after : ℕ → ℕ → ℕ → ℕ
  after r a b = cond (is_done r a) (get_or bytes (a % place_length) 0) b

  abbrev pub partly : ℕ → List ℕ → List ℕ
  partly r ds = each (after r) ds

  -- a turn writes one address
  done_here : (r a : ℕ) → a % place_length ≡ r → a / place_length ≡ k → is_done (r + 1) a ≡ true
  done_here r a p q = rw (lt-ltb (a % place_length) (r + 1) (omega arith), eq-eqb (a / place_length) k q)

  done_elsewhere : (r a : ℕ) → (a ≡ place_length * k + r → ⊥) → is_done r a ≡ is_done (r + 1) a
  done_elsewhere r a ne =
      eq_cases (a / place_length) k
      (λ q.
      lt_cases (a % place_length) r
      (λ l. rw (lt-ltb (a % place_length) r l, lt-ltb (a % place_length) (r + 1) (omega arith)))
      (λ l.
      rw (
        le-ltb (a % place_length) r l,
        le-ltb (a % place_length) (r + 1) (lt_cases r (a % place_length) (λ h. omega arith) (λ h. absurd (ne (omega arith)))),
      )))
      (λ q. rw (ne_eqb (a / place_length) k q, and-false (ltb (a % place_length) r), and-false (ltb (a % place_length) (r + 1))))

  module _ (ds : List ℕ) where
    pub partly_starts : ds ≡ partly 0 ds
    partly_starts = each_by (after 0) ds ds refl (λ a l. rw (le-ltb (a % place_length) 0 (omega arith)))

    pub partly_length : (m : List ℕ) (r : ℕ) → m ≡ partly r ds → length m ≡ length ds
    partly_length m r e = ap length e ∙ length-each (after r) ds

    pub partly_on : (m : List ℕ) (r : ℕ) → m ≡ partly r ds → r < place_length → place_length * k + r < length ds
        → set m (place_length * k + r) (get_or bytes r 0) ≡ partly (r + 1) ds
    partly_on m r e h l = each_by (after (r + 1)) ds (set m at byte) (length-set m at byte ∙ n) turn
      where
        at : ℕ
        at = place_length * k + r

        byte : ℕ
        byte = get_or bytes r 0

        n : length m ≡ length ds
        n = partly_length m r e

        column : (a : ℕ) → a ≡ at → a % place_length ≡ r
        column a q = omega arith

        turn : (a : ℕ) → a < length ds → get_or (set m at byte) a 0 ≡ after (r + 1) a (get_or ds a 0)
        turn a b =
            eq_cases a at
            (λ q.
            ap (λ (i : ℕ). get_or (set m at byte) i 0) q
            ∙ get_or-set_same m at byte 0 (omega (arith, n))
            ∙ sym (rw (done_here r a (column a q) (omega arith)) (ap (λ (i : ℕ). get_or bytes i 0) (column a q))))
            (λ ne.
            get_or-set_other m at a byte 0 ne
            ∙ ap (λ (x : List ℕ). get_or x a 0) e
            ∙ get_or-each (after r) ds a b
            ∙ ap (λ (t : Bool). cond t (get_or bytes (a % place_length) 0) (get_or ds a 0)) (done_elsewhere r a ne))

    -- past the list's end there is nothing to write
    pub partly_past : (m : List ℕ) (r : ℕ) → m ≡ partly r ds → length ds ≤ place_length * k + r → m ≡ partly (r + 1) ds
    partly_past m r e h =
        e
        ∙ each_same (after r) (after (r + 1)) ds
        (λ a l. ap (λ (t : Bool). cond t (get_or bytes (a % place_length) 0) (get_or ds a 0)) (done_elsewhere r a (λ q. omega arith)))

    -- it has come to the place's end, or to the list's
    pub partly_ends : (m : List ℕ) (r : ℕ) → m ≡ partly r ds → min place_length (length ds - place_length * k) ≤ r
        → m ≡ with_place ds k bytes
    unfolding with_place
    partly_ends m r e h =
        e
        ∙ each_same (after r) (λ a b. cond (eqb (a / place_length) k) (get_or bytes (a % place_length) 0) b) ds
        (λ a l. ap (λ (t : Bool). cond t (get_or bytes (a % place_length) 0) (get_or ds a 0)) (all a l))
      where
        all : (a : ℕ) → a < length ds → is_done r a ≡ eqb (a / place_length) k
        all a l =
            eq_cases (a / place_length) k (λ q. rw (lt-ltb (a % place_length) r (omega arith)))
            (λ q. rw (ne_eqb (a / place_length) k q) (and-false (ltb (a % place_length) r)))
