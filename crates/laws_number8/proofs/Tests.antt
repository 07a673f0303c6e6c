-- Tests that fail: which of their parts does. Assumes nothing.
use mathlib.Core.Path.{◌≡◌, refl, sym, ◌∙◌}
use mathlib.Core.Bool.{Bool, true, false, ◌&&◌, true≢false}
use mathlib.Core.Logic.{◌⊎◌, inl, inr}
use Prim.Native.Nat.{ℕ, zero, suc, ◌<◌}
use native.Mathlib.Omega.{arith}
use lib.Dec.{leb}
use borrow.Author.Tests.{leb-false}
use Rattle.paper.specs.Reading.{between}
use Rattle.paper.specs.Bounds.{all_below}

-- one part of a test fails
pub fails : {P : Type 0} (a : Bool) {b : Bool} → (a ≡ false → P) → (b ≡ false → P) → (a && b) ≡ false → P
fails true f h e = h e
fails false f h e = f refl

-- two tests of which one fails do not both pass
pub not_both : {s t : Bool} → (s && t) ≡ false → s ≡ true → t ≡ true → ⊥
not_both e p q = true≢false (sym (rw (p, q)) ∙ e)

-- a number that does not lie between two
pub not-between : (lo hi n : ℕ) → between lo hi n ≡ false → (n < lo) ⊎ (hi < n)
not-between lo hi n = fails (leb lo n) (λ e. inl (leb-false lo n e)) (λ e. inr (leb-false n hi e))

-- the first part fails, or it passes and the second fails
pub fails_after : {P : Type 0} (a : Bool) {b : Bool} → (a ≡ false → P) → (a ≡ true → b ≡ false → P) → (a && b) ≡ false → P
fails_after true f h e = h refl e
fails_after false f h e = f refl

-- a test of every number below n fails of one
pub fails_below : {P : Type 0} (f : ℕ → Bool) (n : ℕ) → ((k : ℕ) → k < n → f k ≡ false → P) → all_below f n ≡ false → P
fails_below f zero h e = absurd (true≢false e)
fails_below f (suc n) h e =
    fails (all_below f n) (λ q. fails_below f n (λ k l. h k (omega arith)) q) (λ q. h n (omega arith) q) e
