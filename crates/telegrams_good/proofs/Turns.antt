-- What holds at a place where a telegram's bytes are, whenever `next` is about to fold the byte at k into the sum, and how it goes on.
-- Assumes nothing.
use mathlib.Core.Path.{◌≡◌, refl, sym, ap, ◌∙◌}
use mathlib.Core.Bool.{true, false, true≢false}
use mathlib.Core.List.{List}
use Prim.Native.Nat.{ℕ, zero, suc, ◌+◌, ◌-◌, ◌<◌, ◌≤◌}
use native.Mathlib.Omega.{arith}
use lib.ListN.{length, get_or}
use lib.Bits.{bit_xor}
use lib.Dec.{ltb}
use borrow.Author.Tests.{ltb-true, ltb-false}
use Rattle.std.proofs.Common.{Option, Some, None, IfSome, IfNone, MatchOption}
use Rattle.paper.specs.Telegrams.{part, folded, count_at, check_at, framed, good, first_good}
use Rattle.laws_bytes.proofs.Tests.{by_test}
use Rattle.laws_telegrams.proofs.Good.{Framed, framed_facts, not-framed, sum_right, sum_wrong, folded_more}
use Rattle.laws_telegrams.proofs.Search.{first_here, first_on, first_from, first_good_lem}
use Rattle.telegrams_good.specs.Frames.{Frames}

-- ---- the places at which no telegram's bytes are

-- what looking at one after another finds
pub framed_first : (piece : List ℕ) (p : ℕ) (r : Option ℕ)
    → MatchOption r ((k : ℕ) → p ≤ k → k < length piece → framed piece k ≡ false)
    (λ i. (p ≤ i) × (i < length piece) × (framed piece i ≡ true) × ((k : ℕ) → p ≤ k → k < i → framed piece k ≡ false))
    → IfSome r (λ i. (i < length piece) × Frames piece p i) × IfNone r ((k : ℕ) → p ≤ k → k < length piece → framed piece k ≡ false)
framed_first piece p None h = (tt, h)
framed_first piece p (Some i) h =
    ((h.1, record { from = h.0; before = λ q l u. let e = h.1 in let x : q < length piece = omega arith in (x, h.3 q l u); there = λ _. h.2 }), tt)

-- from p to before r there is none: to one place more, and to a place that is framed
module _ (piece : List ℕ) {p r : ℕ} (b : (q : ℕ) → p ≤ q → q < r → framed piece q ≡ false) where
  pub one_passed : framed piece r ≡ false → (q : ℕ) → p ≤ q → q < r + 1 → framed piece q ≡ false
  one_passed n q l h =
      by_test (λ _. framed piece q ≡ false) (ltb q r) (λ t. b q l (ltb-true q r t))
      (λ t. let g = ltb-false q r t in let e : q ≡ r = omega arith in rw e n)

  pub framed_there : p ≤ r → r < length piece → framed piece r ≡ true → (r < length piece) × Frames piece p r
  framed_there l h e =
      (h, record { from = l; before = λ q f u. let x : q < length piece = omega arith in (x, b q f u); there = λ _. e })

-- none of them has a good telegram
pub passed : {piece : List ℕ} {p r : ℕ} → Frames piece p r → first_good piece p ≡ first_good piece r
passed {piece} {p} {r} b = go (r - p) p (omega arith) (omega arith)
  where
    go : (n q : ℕ) → p ≤ q → q + n ≡ r → first_good piece q ≡ first_good piece r
    go zero q l e = let h : q ≡ r = omega arith in rw h
    go (suc n) q l e =
        let h = b.before q l (omega arith) in
        first_on piece q h.0 (not-framed piece q h.1) ∙ go n (q + 1) (omega arith) (omega arith)

-- where no place from p on is framed, none has a good telegram
pub none_left : (piece : List ℕ) (p : ℕ) → ((q : ℕ) → p ≤ q → q < length piece → framed piece q ≡ false) → length piece ≤ first_good piece p
none_left piece p h =
    by_test (λ _. length piece ≤ first_good piece p) (ltb (first_good piece p) (length piece))
    (λ t. let l = ltb-true _ _ t in
    absurd (true≢false (sym (first_good_lem piece p l) ∙ not-framed piece _ (h (first_good piece p) (first_from piece p) l))))
    (λ t. ltb-false _ _ t)

-- ---- the two loops of `next`

-- the place that was found, or none; the first good place from there on is the one from `start` on
pub record Comes (piece : List ℕ) (start : ℕ) (found : Option ℕ) : Type 0 where
  pub there : IfSome found (λ p. (p < length piece) × (framed piece p ≡ true) × (first_good piece p ≡ first_good piece start))
  pub nowhere : IfNone found (length piece ≤ first_good piece start)

pub comes : (piece : List ℕ) (start p : ℕ) (found : Option ℕ) → IfSome found (λ i. (i < length piece) × Frames piece p i)
    → IfNone found ((q : ℕ) → p ≤ q → q < length piece → framed piece q ≡ false) → first_good piece p ≡ first_good piece start → Comes piece start found
comes piece start p None s n e = record { there = tt; nowhere = let h = none_left piece p n in omega (arith, e) }
comes piece start p (Some i) s n e = record { there = (s.0, s.1.there s.0, sym (passed s.1) ∙ e); nowhere = tt }

pub here : {piece : List ℕ} {start place : ℕ} {found : Option ℕ} → Comes piece start found → found ≡ Some place
    → (place < length piece) × (framed piece place ≡ true) × (first_good piece place ≡ first_good piece start)
here c e = rw e at c.there

-- the places that are left
pub places_left : List ℕ → Option ℕ → ℕ
places_left piece None = 0
places_left piece (Some p) = length piece - p

pub fewer : (piece : List ℕ) (p : ℕ) (found : Option ℕ) → IfSome found (λ i. (i < length piece) × Frames piece (p + 1) i) → p < length piece
    → places_left piece found < places_left piece (Some p)
unfolding places_left
fewer piece p None s l = omega arith
fewer piece p (Some i) s l = let h = s.0 in let f = s.1.from in omega arith

-- a telegram's bytes lie there
pub framed_here : {piece : List ℕ} {start place : ℕ} {found : Option ℕ} → Comes piece start found → found ≡ Some place → Framed piece place
framed_here {piece} {start} {place} c e = framed_facts piece place (here c e).1

-- there, with k of the bytes from 02h to 03h in the sum; the first good place from here on is the one from `start` on
pub record Turn (piece : List ℕ) (start place size sum k : ℕ) : Type 0 where
  pub same : first_good piece place ≡ first_good piece start
  pub framed_so : framed piece place ≡ true
  pub size_is : size ≡ count_at piece place + 4
  pub upto : k ≤ size
  pub sum_is : sum ≡ folded 0 (part piece place k)
  -- all folded, and still here
  pub passed_so : k ≡ size → good piece place ≡ false

pub first_turn : {piece : List ℕ} {start place size : ℕ} {found : Option ℕ} → Comes piece start found → found ≡ Some place
    → size ≡ count_at piece place + 4 → Turn piece start place size 0 0
first_turn c e h =
    record {
      same = (here c e).2;
      framed_so = (here c e).1;
      size_is = h;
      upto = omega arith;
      sum_is = refl;
      passed_so = λ z. absurd (omega (arith, h, z));
    }

module _ {piece : List ℕ} {start place size sum k : ℕ} (t : Turn piece start place size sum k) where
  pub ahead : place + size < length piece
  ahead = let f = framed_facts piece place t.framed_so in omega (arith, t.size_is, f.inside)

  pub some_left : (k ≡ size → ⊥) → k < size
  some_left n = by_test (λ _. k < size) (ltb k size) (λ e. ltb-true k size e) (λ e. absurd (n (omega (arith, ltb-false k size e, t.upto))))

  -- no telegram stands there: on to the places behind it
  pub next_place : k ≡ size → first_good piece (place + 1) ≡ first_good piece start
  next_place e = sym (first_on piece place (omega (arith, ahead)) (t.passed_so e)) ∙ t.same

  module _ (h : k < size) where
    next_sum : bit_xor sum (get_or piece (place + k) 0) ≡ folded 0 (part piece place (k + 1))
    next_sum = folded_more piece place k sum (omega (arith, ahead)) t.sum_is

    -- the check byte decides after the last of them
    module _ (last : k + 1 ≡ size) where
      whole_sum : bit_xor sum (get_or piece (place + k) 0) ≡ folded 0 (part piece place (count_at piece place + 4))
      whole_sum = next_sum ∙ ap (λ (n : ℕ). folded 0 (part piece place n)) (last ∙ t.size_is)

      check_byte : get_or piece (place + size) 0 ≡ get_or piece (check_at piece place) 0
      check_byte = ap (λ (i : ℕ). get_or piece i 0) (omega (arith, t.size_is))

      pub found_here : bit_xor sum (get_or piece (place + k) 0) ≡ get_or piece (place + size) 0
          → (place ≡ first_good piece start) × (good piece place ≡ true)
      found_here e =
          let g = sum_right piece place t.framed_so (sym whole_sum ∙ e ∙ check_byte) in (sym (first_here piece place g) ∙ t.same, g)

      pub bad_here : (bit_xor sum (get_or piece (place + k) 0) ≡ get_or piece (place + size) 0 → ⊥) → good piece place ≡ false
      bad_here n = sum_wrong piece place (λ e. n (whole_sum ∙ e ∙ sym check_byte))

    pub next_turn : (k + 1 ≡ size → good piece place ≡ false) → Turn piece start place size (bit_xor sum (get_or piece (place + k) 0)) (k + 1)
    next_turn p =
        record { same = t.same; framed_so = t.framed_so; size_is = t.size_is; upto = omega arith; sum_is = next_sum; passed_so = p }
