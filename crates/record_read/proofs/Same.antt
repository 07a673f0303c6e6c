-- Whether two lists are the same. Assumes nothing.
use Prim.Native.Nat.{ℕ, zero, suc, ◌+◌, ◌-◌, ◌≤◌}
use mathlib.Core.Path.{◌≡◌, refl, sym, ap, ap₂, ◌∙◌}
use mathlib.Core.List.{List, [], ◌∷◌, ◌++◌}
use mathlib.Core.Bool.{Bool, true, ◌&&◌, and_assoc, and-true, false≢true}
use lib.ListN.{length, get_or, take, drop}
use lib.Pointwise.{pointwise}
use Rattle.std.specs.Prelude.{nat_eq}
use lib.Dec.{eqb}
use lib.Seq.{drop-cons}
use native.Mathlib.Omega.{arith}
use borrow.Author.Tests.{eq-eqb, eqb-true}
use Rattle.paper.specs.Panel.{bytes_from}
use Rattle.laws_bytes.proofs.Tests.{both_of}
use Rattle.record_read.specs.Record.{same}

-- ---- a list and a part of another

-- std's equality of bytes is the same test
pointwise-same : (a b : List ℕ) → pointwise nat_eq a b ≡ same a b
pointwise-same [] [] = refl
pointwise-same [] (y ∷ b) = refl
pointwise-same (x ∷ a) [] = refl
pointwise-same (x ∷ a) (y ∷ b) = ap (λ (t : Bool). nat_eq x y && t) (pointwise-same a b)

-- a part by its bytes
part_from : (n i : ℕ) (l : List ℕ) → i + n ≤ length l → take n (drop i l) ≡ bytes_from n i l
part_from zero i l h = refl
part_from (suc n) i l h =
    rw (drop-cons l i 0 (omega arith)) (ap (λ (t : List ℕ). get_or l i 0 ∷ t) (part_from n (suc i) l (omega arith)))

pub same_part : (a l : List ℕ) (at : ℕ) → at + length a ≤ length l
    → pointwise nat_eq a (take (at + length a - at) (drop at l)) ≡ same a (bytes_from (length a) at l)
same_part a l at h =
    let n : at + length a - at ≡ length a = omega arith in
    rw (n, part_from (length a) at l h) (pointwise-same a (bytes_from (length a) at l))

-- ---- it is equality

pub same_self : (l : List ℕ) → same l l ≡ true
same_self [] = refl
same_self (x ∷ l) = rw (eq-eqb x x refl) (same_self l)

pub same-eq : (l m : List ℕ) → same l m ≡ true → l ≡ m
same-eq [] [] e = refl
same-eq [] (y ∷ m) e = absurd (false≢true e)
same-eq (x ∷ l) [] e = absurd (false≢true e)
same-eq (x ∷ l) (y ∷ m) e =
    let f = both_of (eqb x y) (same l m) e in
    ap₂ ◌∷◌ (eqb-true x y f.0) (same-eq l m f.1)

-- ---- part by part

same_parts : (a c b d : List ℕ) → length a ≡ length c → same (a ++ b) (c ++ d) ≡ (same a c && same b d)
same_parts [] [] b d e = refl
same_parts [] (y ∷ c) b d e = absurd (omega arith)
same_parts (x ∷ a) [] b d e = absurd (omega arith)
same_parts (x ∷ a) (y ∷ c) b d e =
    ap (λ (t : Bool). eqb x y && t) (same_parts a c b d (omega arith)) ∙ sym (and_assoc (eqb x y) (same a c) (same b d))

-- what both begin with and what both end with decide nothing
pub same-between : (a b b' c c' d : List ℕ) → length b ≡ length b' → length c ≡ length c'
    → same (a ++ (b ++ (c ++ d))) (a ++ (b' ++ (c' ++ d))) ≡ (same b b' && same c c')
same-between a b b' c c' d e f =
    rw (
      same_parts a a (b ++ (c ++ d)) (b' ++ (c' ++ d)) refl,
      same_self a,
      same_parts b b' (c ++ d) (c' ++ d) e,
      same_parts c c' d d f,
      same_self d,
      and-true,
    )
