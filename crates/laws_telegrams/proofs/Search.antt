-- The search, from one place to the next. Assumes nothing.
use mathlib.Core.Path.{◌≡◌, refl, sym, ◌∙◌}
use mathlib.Core.Bool.{true, false, cond}
use mathlib.Core.List.{List}
use Prim.Native.Nat.{ℕ, zero, suc, ◌+◌, ◌-◌, ◌<◌, ◌≤◌}
use native.Mathlib.Omega.{arith}
use native.Mathlib.Numerals.{add-one}
use lib.ListN.{length}
use lib.Dec.{ltb}
use borrow.Author.Tests.{ltb-true, ltb-false, le-leb, lt-leb}
use Rattle.paper.specs.declared.Refusal.TheVariants.{NoTelegram}
use Rattle.paper.specs.Telegrams.{after_at, good, first_of, first_good, ours, found_at, nothing, searched, search_from}
use Rattle.laws_bytes.proofs.Tests.{by_test}
use Rattle.laws_telegrams.proofs.Good.{good-framed}

-- ---- the first place of a good one

module _ (piece : List ℕ) where
  module _ (p : ℕ) where
    pub first_end : length piece ≤ p → first_good piece p ≡ p
    unfolding first_good first_of
    first_end h = let z : length piece - p ≡ 0 = omega arith in rw z

    pub first_here : good piece p ≡ true → first_good piece p ≡ p
    unfolding first_good first_of
    first_here g =
        let f = good-framed piece p g in
        let z : length piece - p ≡ suc (length piece - (p + 1)) = omega (arith, add-one (length piece - (p + 1))) in rw (z, g)

    pub first_on : p < length piece → good piece p ≡ false → first_good piece p ≡ first_good piece (p + 1)
    unfolding first_good first_of
    first_on l g =
        let z : length piece - p ≡ suc (length piece - (p + 1)) = omega (arith, add-one (length piece - (p + 1))) in rw (z, g)

  -- it lies no earlier, and has a good one unless it lies past the end
  of_from : (n p : ℕ) → p ≤ first_of n piece p
  unfolding first_of
  of_from zero p = omega arith
  of_from (suc n) p =
      by_test (λ t. p ≤ cond t p (first_of n piece (p + 1))) (good piece p) (λ _. omega arith) (λ _. let i = of_from n (p + 1) in omega arith)

  of_good : (n p : ℕ) → length piece ≤ n + p → first_of n piece p < length piece → good piece (first_of n piece p) ≡ true
  unfolding first_of
  of_good zero p h = λ l. absurd (omega arith)
  of_good (suc n) p h =
      by_test (λ t. cond t p (first_of n piece (p + 1)) < length piece → good piece (cond t p (first_of n piece (p + 1))) ≡ true) (good piece p)
      (λ e _. e) (λ _. of_good n (p + 1) (omega arith))

  pub first_from : (p : ℕ) → p ≤ first_good piece p
  unfolding first_good
  first_from p = of_from (length piece - p) p

  pub first_good_lem : (p : ℕ) → first_good piece p < length piece → good piece (first_good piece p) ≡ true
  unfolding first_good
  first_good_lem p = of_good (length piece - p) p (omega arith)

  first_again : (p : ℕ) → first_good piece (first_good piece p) ≡ first_good piece p
  first_again p =
      by_test (λ _. first_good piece (first_good piece p) ≡ first_good piece p) (ltb (first_good piece p) (length piece))
      (λ e. first_here (first_good piece p) (first_good_lem p (ltb-true _ _ e)))
      (λ e. first_end (first_good piece p) (ltb-false _ _ e))

-- ---- the search

module _ (address : ℕ) (piece : List ℕ) where
  -- more turns than places make no difference
  pub enough : (n m p : ℕ) → length piece ≤ n + p → length piece ≤ m + p → searched n address piece p ≡ searched m address piece p
  unfolding searched
  enough zero zero p h k = refl
  enough zero (suc m) p h k = rw (first_end piece p (omega arith), le-leb (length piece) p (omega arith))
  enough (suc n) zero p h k = rw (first_end piece p (omega arith), le-leb (length piece) p (omega arith))
  enough (suc n) (suc m) p h k =
      let i = first_from piece p in
      rw (enough n m (after_at piece (first_good piece p)) (omega arith) (omega arith))

  module _ (p : ℕ) where
    turn : search_from address piece p ≡ searched (suc (length piece)) address piece p
    unfolding search_from
    turn = enough (length piece) (suc (length piece)) p (omega arith) (omega arith)

    pub search_end : length piece ≤ p → search_from address piece p ≡ nothing NoTelegram
    unfolding searched
    search_end h = turn ∙ rw (first_end piece p h, le-leb (length piece) p h)

    pub search_found : good piece p ≡ true → ours address piece p ≡ true → search_from address piece p ≡ found_at piece p
    unfolding searched
    search_found g o =
        let f = good-framed piece p g in turn ∙ rw (first_here piece p g, lt-leb (length piece) p (omega arith), o)

    pub search_passed : good piece p ≡ true → ours address piece p ≡ false → search_from address piece p ≡ search_from address piece (after_at piece p)
    unfolding searched search_from
    search_passed g o =
        let f = good-framed piece p g in turn ∙ rw (first_here piece p g, lt-leb (length piece) p (omega arith), o)

  -- from a place to the first good one
  pub search_first : (p : ℕ) → search_from address piece p ≡ search_from address piece (first_good piece p)
  unfolding searched
  search_first p = turn p ∙ sym (turn (first_good piece p) ∙ rw (first_again piece p))

  pub search_on : (p : ℕ) → good piece p ≡ false → search_from address piece p ≡ search_from address piece (p + 1)
  unfolding searched
  search_on p g =
      by_test (λ _. search_from address piece p ≡ search_from address piece (p + 1)) (ltb p (length piece))
      (λ e. turn p ∙ sym (turn (p + 1) ∙ rw (sym (first_on piece p (ltb-true _ _ e) g))))
      (λ e. let l = ltb-false p (length piece) e in search_end p l ∙ sym (search_end (p + 1) (omega arith)))
