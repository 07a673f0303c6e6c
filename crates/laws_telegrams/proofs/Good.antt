-- What is asked of a good telegram, fact by fact, and the exclusive or, byte by byte. Assumes nothing.
use mathlib.Core.Path.{◌≡◌, refl}
use mathlib.Core.Bool.{true, false, ◌&&◌, and-true}
use mathlib.Core.List.{List, [], ◌∷◌, ◌++◌}
use Prim.Native.Nat.{ℕ, ◌+◌, ◌<◌, ◌≤◌}
use native.Mathlib.Omega.{arith}
use native.Mathlib.Numerals.{add-one}
use lib.ListN.{length, get_or, drop, length-drop}
use lib.Seq.{take-suc, get_or-drop}
use lib.Dec.{leb, ltb, eqb}
use lib.Bits.{bit_xor}
use borrow.Author.Tests.{leb-true, ltb-true, eqb-true, lt-ltb, eq-eqb}
use Rattle.paper.specs.Telegrams.{part, folded, count_at, check_at, framed, good}
use Rattle.laws_bytes.proofs.Tests.{never, both_of}

pub record Framed (piece : List ℕ) (p : ℕ) : Type 0 where
  pub starts : get_or piece p 0 ≡ 0x02
  pub some : 1 ≤ count_at piece p
  pub few : count_at piece p ≤ 0x80
  pub inside : check_at piece p < length piece
  pub ends : get_or piece (p + count_at piece p + 3) 0 ≡ 0x03

module _ (piece : List ℕ) (p : ℕ) where
  pub framed_facts : framed piece p ≡ true → Framed piece p
  unfolding framed
  framed_facts h =
      let a = both_of (eqb (get_or piece p 0) 0x02) _ h in
      let b = both_of (leb 1 (count_at piece p)) _ a.1 in
      let d = both_of (leb (count_at piece p) 0x80) _ b.1 in
      let e = both_of (ltb (check_at piece p) (length piece)) _ d.1 in
      record {
        starts = eqb-true _ _ a.0;
        some = leb-true _ _ b.0;
        few = leb-true _ _ d.0;
        inside = ltb-true _ _ e.0;
        ends = eqb-true _ _ e.1;
      }

  pub unframed : (Framed piece p → ⊥) → framed piece p ≡ false
  unframed h = never (framed piece p) (λ t. h (framed_facts t))

  -- what is left to ask where the other bytes are known
  pub framed_by : get_or piece p 0 ≡ 0x02 → check_at piece p < length piece → get_or piece (p + count_at piece p + 3) 0 ≡ 0x03
      → framed piece p ≡ (leb 1 (count_at piece p) && leb (count_at piece p) 0x80)
  unfolding framed
  framed_by e l f = rw (eq-eqb _ _ e, lt-ltb _ _ l, eq-eqb _ _ f, and-true (leb (count_at piece p) 0x80))

  pub good-framed : good piece p ≡ true → Framed piece p
  unfolding good
  good-framed h = framed_facts (both_of (framed piece p) _ h).0

  pub not-framed : framed piece p ≡ false → good piece p ≡ false
  unfolding good
  not-framed h = rw h

  pub sum_right : framed piece p ≡ true → folded 0 (part piece p (count_at piece p + 4)) ≡ get_or piece (check_at piece p) 0 → good piece p ≡ true
  unfolding good
  sum_right f e = rw (f, eq-eqb _ _ e)

  pub sum_wrong : (folded 0 (part piece p (count_at piece p + 4)) ≡ get_or piece (check_at piece p) 0 → ⊥) → good piece p ≡ false
  unfolding good
  sum_wrong n = never (good piece p) (λ t. n (eqb-true _ _ (both_of (framed piece p) _ t).1))

-- ---- the exclusive or

folded_snoc : (s : ℕ) (bs : List ℕ) (b : ℕ) → folded s (bs ++ (b ∷ [])) ≡ bit_xor (folded s bs) b
folded_snoc s [] b = refl
folded_snoc s (x ∷ bs) b = folded_snoc (bit_xor s x) bs b

-- one byte more
pub folded_more : (piece : List ℕ) (p k s : ℕ) → p + k < length piece → s ≡ folded 0 (part piece p k)
    → bit_xor s (get_or piece (p + k) 0) ≡ folded 0 (part piece p (k + 1))
folded_more piece p k s h e =
    let i : k < length (drop p piece) = rw length-drop (omega arith) in
    rw (add-one k, take-suc (drop p piece) k 0 i, get_or-drop p piece k 0, folded_snoc, e)
