-- A test of each item of a list, and of a range, as the paper's test of each number below a bound. Assumes nothing.
use mathlib.Core.Path.{◌≡◌, refl, sym, ap, ap₂, ◌∙◌}
use mathlib.Core.Bool.{Bool, ◌&&◌}
use mathlib.Core.List.{List}
use Prim.Native.Nat.{ℕ, zero, suc, ◌+◌, ◌≤◌}
use native.Mathlib.Omega.{arith}
use native.Mathlib.Nat.{zero-add}
use lib.ListN.{length, get_or, take, drop}
use lib.Seq.{take_all}
use Rattle.std.specs.List.{list_all, range_with_len}
use Rattle.std.proofs.lemmas.List.{get_or-drop, length-drop}
use Rattle.std.proofs.lemmas.List.Folds.{list_all_more}
use Rattle.std.proofs.lemmas.List.FromFn.{length-range_with_len, get_or-range_with_len}
use Rattle.paper.specs.Bounds.{all_below}
use Rattle.laws_downloads.proofs.Tests.{below_same}

module _ (p : ℕ → Bool) where
  -- n items from place i on
  pub part_tested : (xs : List ℕ) (i n : ℕ) → i + n ≤ length xs
      → list_all p (take n (drop i xs)) ≡ all_below (λ j. p (get_or xs (i + j) 0)) n
  part_tested xs i zero h = refl
  part_tested xs i (suc n) h =
      let one : suc n ≡ n + 1 = omega arith in
      ap (λ (k : ℕ). list_all p (take k (drop i xs))) one
      ∙ list_all_more p (drop i xs) n 0 (omega (arith, length-drop i xs))
      ∙ ap₂ ◌&&◌ (part_tested xs i n (omega arith)) (ap p (get_or-drop i xs n 0))

  -- all of them
  pub all_tested : (xs : List ℕ) → list_all p xs ≡ all_below (λ j. p (get_or xs j 0)) (length xs)
  all_tested xs =
      ap (list_all p) (sym (take_all (length xs) xs (omega arith)))
      ∙ part_tested xs 0 (length xs) (omega arith)
      ∙ below_same (λ j. p (get_or xs (0 + j) 0)) (λ j. p (get_or xs j 0)) (length xs)
      (λ k l. ap (λ (i : ℕ). p (get_or xs i 0)) (zero-add k))

  -- n numbers from a on
  pub range_tested : (a n : ℕ) → list_all p (range_with_len a n) ≡ all_below (λ k. p (a + k)) n
  range_tested a n =
      all_tested (range_with_len a n)
      ∙ ap (all_below (λ j. p (get_or (range_with_len a n) j 0))) (length-range_with_len a n)
      ∙ below_same (λ j. p (get_or (range_with_len a n) j 0)) (λ k. p (a + k)) n (λ k l. ap p (get_or-range_with_len a n k 0 l))
