-- Tests as facts, and the test of each number below a bound. Assumes nothing.
use mathlib.Core.Path.{◌≡◌, refl, sym, ap, ap₂, ◌∙◌}
use mathlib.Core.Bool.{Bool, true, false, not, ◌&&◌, ◌||◌}
use mathlib.Core.Logic.{◌⊎◌, inl, inr}
use Prim.Native.Nat.{ℕ, zero, suc, ◌+◌, ◌<◌}
use native.Mathlib.Omega.{arith}
use native.Mathlib.Numerals.{add-one}
use lib.Dec.{leb, ltb}
use borrow.Author.Tests.{ltb-true, ltb-false, le-leb, lt-leb}
use Rattle.paper.specs.Bounds.{all_below}
use Rattle.laws_bytes.proofs.Tests.{by_test, both_of}

-- ---- one test

-- one of two tests
pub either_of : (s t : Bool) → (s || t) ≡ true → (s ≡ true) ⊎ (t ≡ true)
either_of true t h = inl refl
either_of false t h = inr h

pub not-ltb : (a b : ℕ) → not (ltb a b) ≡ leb b a
not-ltb a b =
    by_test (λ t. not t ≡ leb b a) (ltb a b) (λ h. sym (lt-leb b a (ltb-true a b h)))
    (λ h. sym (le-leb b a (ltb-false a b h)))

-- ---- each number below a bound

module _ (f : ℕ → Bool) where
  -- the test at one of them
  pub below_at : (n : ℕ) → all_below f n ≡ true → (k : ℕ) → k < n → f k ≡ true
  below_at zero h k l = absurd (omega arith)
  below_at (suc n) h k l =
      let parts = both_of (all_below f n) (f n) h in
      by_test (λ t. f k ≡ true) (ltb k n) (λ e. below_at n parts.0 k (ltb-true k n e))
      (λ e. ap f (omega (arith, ltb-false k n e)) ∙ parts.1)

  -- and back
  pub below_all : (n : ℕ) → ((k : ℕ) → k < n → f k ≡ true) → all_below f n ≡ true
  below_all zero h = refl
  below_all (suc n) h = rw (below_all n (λ k l. h k (omega arith)), h n (omega arith))

  -- one at which the test fails
  pub below_not : (n k : ℕ) → k < n → f k ≡ false → all_below f n ≡ false
  below_not n k l h =
      by_test (λ t. all_below f n ≡ t → t ≡ false) (all_below f n) (λ _ e. sym (below_at n e k l) ∙ h) (λ _ _. refl) refl

  -- the loop that tests them: one more, and all of them
  pub below_next : {a b : Bool} (k : ℕ) → a ≡ all_below f k → b ≡ f k → (a && b) ≡ all_below f (k + 1)
  below_next k p q = rw add-one (ap₂ (λ (x y : Bool). x && y) p q)

  pub below_end : {a : Bool} (k n : ℕ) → a ≡ all_below f k → k ≡ n → a ≡ all_below f n
  below_end k n p q = p ∙ ap (all_below f) q

  -- tests that agree
  pub below_same : (h : ℕ → Bool) (n : ℕ) → ((k : ℕ) → k < n → f k ≡ h k) → all_below f n ≡ all_below h n
  below_same h zero e = refl
  below_same h (suc n) e = rw (below_same h n (λ k l. e k (omega arith)), e n (omega arith))
