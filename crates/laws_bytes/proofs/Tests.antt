-- Tests, one alone or of several parts, and the facts that they stand for. Assumes nothing.
use mathlib.Core.Path.{◌≡◌, refl}
use mathlib.Core.Bool.{Bool, true, false, ◌&&◌, and-eq-true_iff}
use Prim.Native.Nat.{ℕ, ◌≤◌}
use lib.Dec.{leb}
use borrow.Author.Tests.{leb-true, le-leb}
use Rattle.paper.specs.Reading.{between}

-- by the two values of a test, each with what it says
pub by_test : (P : Bool → Type 0) (t : Bool) → (t ≡ true → P true) → (t ≡ false → P false) → P t
by_test P true yes_then no_then = yes_then refl
by_test P false yes_then no_then = no_then refl

-- a test that can't pass fails
pub never : (t : Bool) → ¬ (t ≡ true) → t ≡ false
never true n = absurd (n refl)
never false n = refl

-- the two parts of a test
pub both_of : (s t : Bool) → (s && t) ≡ true → (s ≡ true) × (t ≡ true)
both_of s t = (and-eq-true_iff s t).0

-- a number that lies between two
pub between_facts : (lo hi n : ℕ) → between lo hi n ≡ true → (lo ≤ n) × (n ≤ hi)
between_facts lo hi n h = let f = both_of (leb lo n) (leb n hi) h in (leb-true lo n f.0, leb-true n hi f.1)

-- and back
pub between_true : (lo hi n : ℕ) → lo ≤ n → n ≤ hi → between lo hi n ≡ true
between_true lo hi n l h = rw (le-leb lo n l, le-leb n hi h)
