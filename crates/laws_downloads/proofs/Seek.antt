-- The first number of which a test holds: `seek` of the paper, over any test. Assumes nothing.
use mathlib.Core.Path.{◌≡◌, refl, sym, ap, ◌∙◌}
use mathlib.Core.Bool.{Bool, true, false, cond, false≢true}
use Prim.Native.Nat.{ℕ, zero, suc, ◌+◌, ◌-◌, ◌≤◌, ◌<◌}
use native.Mathlib.Omega.{arith}
use native.Mathlib.Numerals.{add-one}
use Rattle.paper.specs.Downloads.{seek}
use Rattle.laws_memory.proofs.Tests.{lt_cases, eq_cases}
use Rattle.laws_bytes.proofs.Tests.{by_test}

module _ (f : ℕ → Bool) where
  -- ---- the loop that seeks below n, come to k

  one_more : (k n : ℕ) → k < n → n - k ≡ suc (n - suc k)
  one_more k n l = omega arith

  -- here it is
  pub seek_here : (k n : ℕ) → k < n → f k ≡ true → seek f k (n - k) ≡ k
  seek_here k n l h = rw (one_more k n l, h)

  -- it is further on
  pub seek_on : (k n : ℕ) → k < n → f k ≡ false → seek f k (n - k) ≡ seek f (k + 1) (n - (k + 1))
  seek_on k n l h = rw (one_more k n l, h, add-one)

  -- all are passed
  pub seek_end : (k n : ℕ) → k ≡ n → seek f k (n - k) ≡ n
  seek_end k n e = ap (seek f k) none ∙ e
    where
      none : n - k ≡ 0
      none = omega arith

  -- ---- where it is

  pub seek_from : (k n : ℕ) → k ≤ seek f k n
  seek_from k zero = omega arith
  seek_from k (suc n) =
      by_test (λ t. k ≤ cond t k (seek f (suc k) n)) (f k) (λ h. omega arith) (λ h. omega (arith, seek_from (suc k) n))

  pub seek-le : (k n : ℕ) → seek f k n ≤ k + n
  seek-le k zero = omega arith
  seek-le k (suc n) =
      by_test (λ t. cond t k (seek f (suc k) n) ≤ k + suc n) (f k) (λ h. omega arith)
      (λ h. omega (arith, seek-le (suc k) n))

  -- the test holds there
  pub seek_found : (k n : ℕ) → seek f k n < k + n → f (seek f k n) ≡ true
  seek_found k zero = λ l. absurd (omega arith)
  seek_found k (suc n) =
      by_test (λ t. cond t k (seek f (suc k) n) < k + suc n → f (cond t k (seek f (suc k) n)) ≡ true) (f k) (λ h l. h)
      (λ h l. seek_found (suc k) n (omega arith))

  -- and nowhere before
  pub seek_first : (k n j : ℕ) → k ≤ j → j < k + n → f j ≡ true → seek f k n ≤ j
  seek_first k zero j a b h = absurd (omega arith)
  seek_first k (suc n) j a b h =
      by_test (λ t. f k ≡ t → cond t k (seek f (suc k) n) ≤ j) (f k) (λ _ _. a)
      (λ _ e.
      eq_cases k j (λ q. absurd (false≢true (sym e ∙ ap f q ∙ h)))
      (λ q. seek_first (suc k) n j (omega arith) (omega arith) h))
      refl

  -- so a number that passes, and none before it does, is the one
  pub seek_is : (k n j : ℕ) → k ≤ j → j < k + n → f j ≡ true → ((i : ℕ) → k ≤ i → i < j → f i ≡ false) → seek f k n ≡ j
  seek_is k n j a b h before =
      lt_cases (seek f k n) j
      (λ l.
      absurd
      (false≢true
      (sym (before (seek f k n) (seek_from k n) l) ∙ seek_found k n (omega arith))))
      (λ l. omega (arith, seek_first k n j a b h))

-- tests that agree on the numbers sought give the same
pub seek-same : (f h : ℕ → Bool) (k n : ℕ) → ((j : ℕ) → k ≤ j → j < k + n → f j ≡ h j) → seek f k n ≡ seek h k n
seek-same f h k zero e = refl
seek-same f h k (suc n) e =
    rw (e k (omega arith) (omega arith), seek-same f h (suc k) n (λ j a b. e j (omega arith) (omega arith)))
