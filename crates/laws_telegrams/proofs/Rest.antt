-- The rest of a piece alone is searched as it is in the whole piece, its places counted from its own start. Assumes nothing.
use mathlib.Core.Path.{◌≡◌, refl, sym, ap, ◌∙◌}
use mathlib.Core.Bool.{Bool, true, false, cond}
use mathlib.Core.List.{List}
use Prim.Native.Nat.{ℕ, zero, suc, ◌+◌, ◌-◌}
use native.Mathlib.Omega.{arith}
use native.Mathlib.Nat.{add-zero}
use lib.ListN.{length, get_or, drop, length-drop}
use lib.Seq.{get_or-drop, drop-drop}
use lib.Dec.{leb, ltb}
use borrow.Author.Tests.{leb-true, ltb-true, le-leb, lt-ltb}
use Rattle.paper.specs.declared.Received.{Received}
use Rattle.paper.specs.declared.Refusal.TheVariants.{NoTelegram}
use Rattle.paper.specs.Numbers.{refusal_number}
use Rattle.paper.specs.Calls.{is_accepted}
use Rattle.paper.specs.Telegrams.{count_at, after_at, framed, good, first_of, first_good, ours, found_at, nothing, searched, search_from}
use Rattle.laws_telegrams.specs.Places.{further}
use Rattle.laws_telegrams.proofs.Search.{enough}

same_test : (s t : Bool) → (s ≡ true → t ≡ true) → (t ≡ true → s ≡ true) → s ≡ t
same_test true t f g = sym (f refl)
same_test false true f g = g refl
same_test false false f g = refl

-- ---- one place

module _ (piece : List ℕ) (q p : ℕ) where
  moved : (i j : ℕ) → q + i ≡ j → get_or (drop q piece) i 0 ≡ get_or piece j 0
  moved i j e = get_or-drop q piece i 0 ∙ ap (λ (k : ℕ). get_or piece k 0) e

  moved-ltb : (i j : ℕ) → q + i ≡ j → ltb i (length (drop q piece)) ≡ ltb j (length piece)
  moved-ltb i j e =
      rw length-drop
      (same_test (ltb i (length piece - q)) (ltb j (length piece))
      (λ t. let f = ltb-true i (length piece - q) t in lt-ltb j (length piece) (omega arith))
      (λ t. let f = ltb-true j (length piece) t in lt-ltb i (length piece - q) (omega arith)))

  moved-leb : leb (length (drop q piece)) p ≡ leb (length piece) (q + p)
  moved-leb =
      rw length-drop
      (same_test (leb (length piece - q) p) (leb (length piece) (q + p))
      (λ t. let f = leb-true (length piece - q) p t in le-leb (length piece) (q + p) (omega arith))
      (λ t. let f = leb-true (length piece) (q + p) t in le-leb (length piece - q) p (omega arith)))

  moved_count : count_at (drop q piece) p ≡ count_at piece (q + p)
  moved_count = moved (p + 2) (q + p + 2) (omega arith)

  moved-after : q + after_at (drop q piece) p ≡ after_at piece (q + p)
  moved-after = omega (arith, moved_count)

  moved-framed : framed (drop q piece) p ≡ framed piece (q + p)
  unfolding framed
  moved-framed =
      let n = count_at piece (q + p) in
      rw (moved_count, moved p (q + p) refl, moved-ltb (p + n + 4) (q + p + n + 4) (omega arith), moved (p + n + 3) (q + p + n + 3) (omega arith))

  moved-good : good (drop q piece) p ≡ good piece (q + p)
  unfolding good
  moved-good =
      let n = count_at piece (q + p) in
      rw (moved-framed, moved_count, drop-drop p q piece, moved (p + n + 4) (q + p + n + 4) (omega arith))

  moved-ours : (address : ℕ) → ours address (drop q piece) p ≡ ours address piece (q + p)
  moved-ours address = rw (moved (p + 1) (q + p + 1) (omega arith))

  moved-found : further q (found_at (drop q piece) p) ≡ found_at piece (q + p)
  moved-found = let a : q + (p + 3) ≡ q + p + 3 = omega arith in rw (moved-after, moved_count, a)

-- ---- the search

-- what is found, counted in the whole; nothing stays nothing
abbrev pub counted : ℕ → Received → Received
counted q f = cond (is_accepted f.refusal) (further q f) f

module _ (piece : List ℕ) (q : ℕ) where
  moved_of : (n p : ℕ) → q + first_of n (drop q piece) p ≡ first_of n piece (q + p)
  unfolding first_of
  moved_of zero p = refl
  moved_of (suc n) p =
      let e : q + (p + 1) ≡ q + p + 1 = omega arith in
      let r = rw e at (moved_of n (p + 1)) in rw (moved-good piece q p) (go (good piece (q + p)) (first_of n (drop q piece) (p + 1)) r)
    where
      go : (t : Bool) (a : ℕ) {b : ℕ} → q + a ≡ b → q + cond t p a ≡ cond t (q + p) b
      go true a e = refl
      go false a e = e

  moved_first : (p : ℕ) → q + first_good (drop q piece) p ≡ first_good piece (q + p)
  unfolding first_good
  moved_first p =
      let e : length piece - q - p ≡ length piece - (q + p) = omega arith in
      rw (length-drop q piece, e) (moved_of (length piece - (q + p)) p)

  moved_search : (address n p : ℕ) → counted q (searched n address (drop q piece) p) ≡ searched n address piece (q + p)
  unfolding searched is_accepted refusal_number
  moved_search address zero p = refl
  moved_search address (suc n) p =
      let f = first_good (drop q piece) p in
      let r = rw (moved-after piece q f) at (moved_search address n (after_at (drop q piece) f)) in
      rw (sym (moved_first p), moved-leb piece q f, moved-ours piece q f address)
      (go (leb (length piece) (q + f)) (ours address piece (q + f)) (found_at (drop q piece) f) (searched n address (drop q piece) (after_at (drop q piece) f))
      (moved-found piece q f) r)
    where
      go : (t u : Bool) (a c : Received) {b d : Received} → counted q a ≡ b → counted q c ≡ d
          → counted q (cond t (nothing NoTelegram) (cond u a c)) ≡ cond t (nothing NoTelegram) (cond u b d)
      go true u a c e h = refl
      go false true a c e h = e
      go false false a c e h = h

  pub rest_searched : (address : ℕ) → counted q (search_from address (drop q piece) 0) ≡ search_from address piece q
  unfolding search_from
  rest_searched address =
      moved_search address (length (drop q piece)) 0
      ∙ rw (length-drop q piece, add-zero q) (enough address piece (length piece - q) (length piece) q (omega arith) (omega arith))
