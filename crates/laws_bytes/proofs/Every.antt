-- A rule of every number below a bound, by one test that is computed. Assumes nothing.
use mathlib.Core.Path.{◌≡◌, sym, subst}
use mathlib.Core.Bool.{Bool, true, ◌&&◌, and-eq-true_iff}
use mathlib.Core.Logic.{⊎_elim}
use Prim.Native.Nat.{ℕ, zero, suc, ◌<◌}
use native.Mathlib.Nat.{le_of_suc-le-suc, not-suc-le-zero, eq-or-lt_of_le}

-- the test passes at each number below k
abbrev pub below : (ℕ → Bool) → ℕ → Bool
below f zero = true
below f (suc k) = f k && below f k

-- so it passes at any one of them
pub all : (f : ℕ → Bool) (k : ℕ) → below f k ≡ true → (n : ℕ) → n < k → f n ≡ true
all f zero t n h = absurd (not-suc-le-zero h)
all f (suc k) t n h =
    let both = (and-eq-true_iff (f k) (below f k)).0 t in
    ⊎_elim (λ e. subst (λ (i : ℕ). f i ≡ true) (sym e) both.0) (λ l. all f k both.1 n l)
    (eq-or-lt_of_le (le_of_suc-le-suc h))
