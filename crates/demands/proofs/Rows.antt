-- Rows of a table tested in order: the number of the first that holds is given exactly when it holds and none before it does.
-- Assumes nothing.
use mathlib.Core.Path.{◌≡◌, refl}
use mathlib.Core.Logic.{◌↔◌, ◌≢◌}
use mathlib.Core.Bool.{Bool, true, false, cond, not, true≢false, false≢true}
use mathlib.Core.List.{List}
use Prim.Native.Nat.{ℕ}
use lib.Dec.{eqb}
use lib.ListN.{length}
use borrow.Author.Tests.{eqb-true, eqb-false, eq-eqb, ne_eqb, not-true, not-false}
use Rattle.paper.specs.Calls.{is_not}

-- ---- a row, and what is tested after it

module _ {A : Type 0} (number : A → ℕ) (i : ℕ) where
  -- no row that is tested gives the number
  pub never : (t : Bool) (r q : A) → eqb (number r) i ≡ false → number q ≢ i → number (cond t r q) ≢ i
  never true r q n k = eqb-false (number r) i n
  never false r q n k = k

  -- a row's number, which none after it gives, is given exactly when the row holds
  pub here : (t : Bool) (r q : A) {Yes : Type 0} → number r ≡ i → number q ≢ i → ((t ≡ true) ↔ Yes)
      → (number (cond t r q) ≡ i) ↔ Yes
  here true r q e n d = (λ _. d.0 refl, λ _. e)
  here false r q e n d = (λ h. absurd (n h), λ y. absurd (false≢true (d.1 y)))

  -- another number is given exactly when the row does not hold and what is tested after it gives the number
  pub later : (t : Bool) (r q : A) {No P : Type 0} → eqb (number r) i ≡ false → ((t ≡ false) ↔ No) → ((number q ≡ i) ↔ P)
      → (number (cond t r q) ≡ i) ↔ (No × P)
  later true r q n d p = (λ h. absurd (eqb-false (number r) i n h), λ x. absurd (true≢false (d.1 x.0)))
  later false r q n d p = (λ h. (d.0 refl, p.0 h), λ x. p.1 x.1)

  -- if nothing is tested after it, exactly when the row does not hold
  pub otherwise : (t : Bool) (r q : A) {No : Type 0} → eqb (number r) i ≡ false → number q ≡ i → ((t ≡ false) ↔ No)
      → (number (cond t r q) ≡ i) ↔ No
  otherwise true r q n e d = (λ h. absurd (eqb-false (number r) i n h), λ y. absurd (true≢false (d.1 y)))
  otherwise false r q n e d = (λ h. d.0 refl, λ y. e)

-- ---- what tests say

pub not_yes : (t : Bool) → (not t ≡ true) ↔ (t ≡ false)
not_yes t = (not-true t, λ e. rw e)

pub not_no : (t : Bool) → (not t ≡ false) ↔ (t ≡ true)
not_no t = (not-false t, λ e. rw e)

-- a list is not as long as asked, and is
module _ (n : ℕ) (l : List ℕ) where
  pub length_wrong : (is_not n l ≡ true) ↔ (length l ≢ n)
  length_wrong = (λ e. eqb-false (length l) n (not-true (eqb (length l) n) e), λ h. rw (ne_eqb (length l) n h))

  pub length_right : (is_not n l ≡ false) ↔ (length l ≡ n)
  length_right = (λ e. eqb-true (length l) n (not-false (eqb (length l) n) e), λ h. rw (eq-eqb (length l) n h))
