-- What an outcome counts as, by its number alone. Assumes nothing.
use mathlib.Core.Path.{◌≡◌, refl}
use mathlib.Core.Bool.{Bool, true, false, cond}
use Prim.Native.Nat.{ℕ, ◌+◌, ◌≤◌}
use native.Mathlib.Omega.{arith}
use lib.Dec.{leb, eqb}
use borrow.Author.Tests.{eqb-true, ne_eqb, le-leb, lt-leb}
use Rattle.paper.specs.declared.Outcome.{Outcome}
use Rattle.paper.specs.Numbers.{outcome_number, carried_by, answered_by}

-- "Each byte finishes at most one [command]."
pub one_at_most : (o : Outcome) → carried_by o + answered_by o ≤ 1
unfolding carried_by answered_by
one_at_most o = at_most (outcome_number o) (eqb (outcome_number o) 10) refl where
  one : (t : Bool) → 0 + cond t 1 0 ≤ 1
  one true = omega arith
  one false = omega arith

  at_most : (n : ℕ) (t : Bool) → eqb n 10 ≡ t → cond t 1 0 + cond (leb 11 n) 1 0 ≤ 1
  at_most n true e = let ten = eqb-true n 10 e in rw (lt-leb 11 n (omega arith)) (omega arith)
  at_most n false e = one (leb 11 n)

-- an outcome that is no 9 and no 10 is "answered 11 to 17", or 18 or 19
pub counts_as : (o : Outcome) → 11 ≤ outcome_number o → (carried_by o ≡ 0) × (answered_by o ≡ 1)
unfolding carried_by answered_by
counts_as o l = rw (ne_eqb (outcome_number o) 10 (omega arith), le-leb 11 (outcome_number o) l) (refl, refl)
