-- A list changed byte by byte, each by its address: `each` of the paper. Assumes nothing.
use mathlib.Core.Path.{◌≡◌, refl, sym, ap, ◌∙◌}
use mathlib.Core.List.{List, [], ◌∷◌}
use Prim.Native.Nat.{ℕ, zero, suc, ◌+◌, ◌<◌}
use native.Mathlib.Nat.{add-zero, zero-add, add-suc, suc-add, le_of_suc-le-suc, not-suc-le-zero}
use native.Mathlib.Omega.{arith}
use lib.ListN.{length, get_or, get_or-eq_default}
use lib.Seq.{ext_get_or}
use Rattle.paper.specs.Panel.{each_from, each}
use Rattle.laws_memory.specs.Rectangles.{Bytes}
use Rattle.laws_memory.proofs.Tests.{lt_cases}

length_from : (f : ℕ → ℕ → ℕ) (i : ℕ) (m : List ℕ) → length (each_from f i m) ≡ length m
length_from f i [] = refl
length_from f i (b ∷ m) = ap suc (length_from f (suc i) m)

get_or-from : (f : ℕ → ℕ → ℕ) (i : ℕ) (m : List ℕ) (a : ℕ) → a < length m
    → get_or (each_from f i m) a 0 ≡ f (i + a) (get_or m a 0)
get_or-from f i [] a h = absurd (not-suc-le-zero h)
get_or-from f i (b ∷ m) zero h = ap (λ (t : ℕ). f t b) (sym (add-zero i))
get_or-from f i (b ∷ m) (suc a) h =
    get_or-from f (suc i) m a (le_of_suc-le-suc h) ∙ ap (λ (t : ℕ). f t (get_or m a 0)) (suc-add i a ∙ sym (add-suc i a))

module _ (f : ℕ → ℕ → ℕ) (m : List ℕ) where
  pub length-each : length (each f m) ≡ length m
  length-each = length_from f 0 m

  -- what stands at an address afterwards
  pub get_or-each : (a : ℕ) → a < length m → get_or (each f m) a 0 ≡ f a (get_or m a 0)
  get_or-each a h = get_or-from f 0 m a h ∙ ap (λ (t : ℕ). f t (get_or m a 0)) (zero-add a)

  -- a list as long that has at each address what f gives there is `each f`
  pub each_by : (l : List ℕ) → length l ≡ length m → ((a : ℕ) → a < length m → get_or l a 0 ≡ f a (get_or m a 0))
      → l ≡ each f m
  each_by l e h =
      ext_get_or 0 l (each f m) (e ∙ sym length-each)
      (λ a k. let k' : a < length m = omega arith in h a k' ∙ sym (get_or-each a k'))

-- functions that agree at each address give the same list
pub each_same : (f h : ℕ → ℕ → ℕ) (m : List ℕ)
    → ((a : ℕ) → a < length m → f a (get_or m a 0) ≡ h a (get_or m a 0)) → each f m ≡ each h m
each_same f h m e = each_by h m (each f m) (length-each f m) (λ a k. get_or-each f m a k ∙ e a k)

-- one change after another, as one
pub each_join : (f h k : ℕ → ℕ → ℕ) (m : List ℕ)
    → ((a : ℕ) → a < length m → f a (h a (get_or m a 0)) ≡ k a (get_or m a 0)) → each f (each h m) ≡ each k m
each_join f h k m e =
    each_by k m (each f (each h m)) (length-each f (each h m) ∙ length-each h m)
    (λ a l. get_or-each f (each h m) a (omega (arith, length-each h m)) ∙ ap (f a) (get_or-each h m a l) ∙ e a l)

-- bytes stay bytes
pub each-bytes : (f : ℕ → ℕ → ℕ) (m : List ℕ) → ((a b : ℕ) → b < 256 → f a b < 256) → Bytes m → Bytes (each f m)
each-bytes f m hf hm a =
    lt_cases a (length m) (λ l. rw (get_or-each f m a l) (hf a (get_or m a 0) (hm a)))
    (λ l. rw (get_or-eq_default (each f m) 0 {n = a} (omega (arith, length-each f m))) (omega arith))
