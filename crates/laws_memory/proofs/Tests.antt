-- Tests and the facts that they stand for, and what `cond` picks by them. Assumes nothing.
use mathlib.Core.Path.{◌≡◌, refl, sym}
use mathlib.Core.Bool.{Bool, true, false, cond, ◌&&◌, false≢true}
use Prim.Native.Nat.{ℕ, ◌+◌, ◌<◌, ◌≤◌}
use lib.Dec.{T, leb, ltb, eqb, leb→le, ltb→lt, le→leb, lt→ltb}
use borrow.Author.Tests.{ltb-true, ltb-false, eqb-true, eqb-false}
use Rattle.paper.specs.Strokes.{among}

-- ---- by cases

pub test_cases : (t : Bool) {P : Type 0} → (T t → P) → ((T t → ⊥) → P) → P
test_cases true yes_then no_then = yes_then tt
test_cases false yes_then no_then = no_then (λ z. z)

pub lt_cases : (a b : ℕ) {P : Type 0} → (a < b → P) → (b ≤ a → P) → P
lt_cases a b {P} below above = go (ltb a b) refl
  where
    go : (t : Bool) → ltb a b ≡ t → P
    go true e = below (ltb-true a b e)
    go false e = above (ltb-false a b e)

pub eq_cases : (a b : ℕ) {P : Type 0} → (a ≡ b → P) → ((a ≡ b → ⊥) → P) → P
eq_cases a b {P} same other = go (eqb a b) refl
  where
    go : (t : Bool) → eqb a b ≡ t → P
    go true e = same (eqb-true a b e)
    go false e = other (eqb-false a b e)

-- ---- tests as equations

pub is_false : (t : Bool) → (T t → ⊥) → t ≡ false
is_false true h = absurd (h tt)
is_false false h = refl

pub not_both : (t : Bool) → t ≡ false → T t → ⊥
not_both true e h = absurd (false≢true (sym e))
not_both false e h = h

-- ---- what `cond` picks

module _ {A : Type 0} where
  pub cond_yes : (t : Bool) (u v : A) → T t → cond t u v ≡ u
  cond_yes true u v h = refl
  cond_yes false u v h = absurd h

  pub cond_no : (t : Bool) (u v : A) → (T t → ⊥) → cond t u v ≡ v
  cond_no true u v h = absurd (h tt)
  cond_no false u v h = refl

  -- what holds of either, each under its test, holds of what is picked
  pub cond_cases : (P : A → Type 0) (t : Bool) {u v : A} → (T t → P u) → ((T t → ⊥) → P v) → P (cond t u v)
  cond_cases P true yes_then no_then = yes_then tt
  cond_cases P false yes_then no_then = no_then (λ z. z)

-- ---- both of two tests

pub and_true : (p q : Bool) → p ≡ true → q ≡ true → (p && q) ≡ true
and_true true q h k = k
and_true false q h k = h

pub and_parts : (p q : Bool) → (p && q) ≡ true → (p ≡ true) × (q ≡ true)
and_parts true q h = (refl, h)
and_parts false q h = absurd (false≢true h)

pub and_i : (p q : Bool) → T p → T q → T (p && q)
and_i true q h k = k
and_i false q h k = h

pub and_0 : (p q : Bool) → T (p && q) → T p
and_0 true q h = tt
and_0 false q h = h

pub and_1 : (p q : Bool) → T (p && q) → T q
and_1 true q h = h
and_1 false q h = absurd h

-- ---- x is one of the n numbers from lo

abbrev pub Among : ℕ → ℕ → ℕ → Type 0
Among lo n x = (lo ≤ x) × (x < lo + n)

pub among_facts : (lo n x : ℕ) → T (among lo n x) → Among lo n x
among_facts lo n x t =
    (leb→le lo x (and_0 (leb lo x) (ltb x (lo + n)) t), ltb→lt x (lo + n) (and_1 (leb lo x) (ltb x (lo + n)) t))

pub among_test : (lo n x : ℕ) → Among lo n x → T (among lo n x)
among_test lo n x f = and_i (leb lo x) (ltb x (lo + n)) (le→leb lo x f.0) (lt→ltb x (lo + n) f.1)
