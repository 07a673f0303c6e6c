-- Places and bytes that are all zeros. Assumes nothing.
use mathlib.Core.Path.{◌≡◌, refl, sym, ap, ◌∙◌}
use mathlib.Core.Bool.{Bool, true, false, ◌&&◌, and-true}
use mathlib.Core.List.{List, [], ◌∷◌}
use Prim.Native.Nat.{ℕ, zero, suc, ◌+◌, ◌*◌}
use native.Mathlib.Omega.{arith}
use native.Mathlib.Nat.{add-zero, add-suc}
use lib.ListN.{length, get_or}
use lib.Dec.{eqb}
use Rattle.std.specs.List.{fold, list_all}
use Rattle.paper.specs.Downloads.{store_length}
use Rattle.paper.specs.Bounds.{all_below, is_free}
use Rattle.downloads.proofs.Listed.{all_tested}
use Rattle.accept_store.specs.Tests.{all_free}

-- a fold that goes on to the end tests the same
pub fold_tested : (p : ℕ → Bool) (b : Bool) (xs : List ℕ) → fold (λ a x. a && p x) b xs ≡ (b && list_all p xs)
fold_tested p b [] = sym (and-true b)
fold_tested p b (x ∷ xs) = fold_tested p (b && p x) xs ∙ joined b (p x) (list_all p xs)
  where
    joined : (a b c : Bool) → ((a && b) && c) ≡ (a && (b && c))
    joined true b c = refl
    joined false b c = refl

-- m numbers below a bound, and then n more
below_more : (f : ℕ → Bool) (m n : ℕ) → all_below f (m + n) ≡ (all_below f m && all_below (λ j. f (m + j)) n)
below_more f m zero = ap (all_below f) (add-zero m) ∙ sym (and-true (all_below f m))
below_more f m (suc n) =
    ap (all_below f) (add-suc m n)
    ∙ ap (λ (b : Bool). b && f (m + n)) (below_more f m n)
    ∙ joined (all_below f m) (all_below (λ j. f (m + j)) n) (f (m + n))
  where
    joined : (a b c : Bool) → ((a && b) && c) ≡ (a && (b && c))
    joined true b c = refl
    joined false b c = refl

-- n places of nine
below_places : (f : ℕ → Bool) (n : ℕ) → all_below (λ k. all_below (λ j. f (9 * k + j)) 9) n ≡ all_below f (9 * n)
below_places f zero = refl
below_places f (suc n) =
    let one_more : 9 * n + 9 ≡ 9 * suc n = omega arith in
    ap (λ (b : Bool). b && all_below (λ j. f (9 * n + j)) 9) (below_places f n)
    ∙ sym (below_more f (9 * n) 9)
    ∙ ap (all_below f) one_more

-- all bytes are 0 where every place is free
pub zeros_free : (ds : List ℕ) → length ds ≡ store_length → list_all (λ b. eqb b 0) ds ≡ all_free ds
unfolding is_free
zeros_free ds e =
    all_tested (λ b. eqb b 0) ds
    ∙ ap (all_below (λ a. eqb (get_or ds a 0) 0)) e
    ∙ sym (below_places (λ a. eqb (get_or ds a 0) 0) 16)
