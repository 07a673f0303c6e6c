-- What is found is the telegram at the first place that has one, and lies in the piece; 20 and 21 are given exactly when order 4 says so.
-- Assumes nothing.
use mathlib.Core.Path.{◌≡◌, refl, sym, subst, ◌∙◌}
use mathlib.Core.Bool.{true, false, cond, true≢false}
use mathlib.Core.List.{List, []}
use mathlib.Core.Logic.{◌⊎◌, inl, inr, ⊎_elim}
use Prim.Native.Nat.{ℕ, zero, suc, ◌+◌, ◌<◌, ◌≤◌}
use native.Mathlib.Omega.{arith}
use lib.Dec.{leb}
use lib.ListN.{length, get_or, length-drop}
use lib.Seq.{length-take-le}
use borrow.Author.Tests.{leb-true, leb-false}
use Rattle.paper.specs.declared.Refusal.TheVariants.{NoSuchAddress, NoTelegram}
use Rattle.paper.specs.Numbers.{refusal_number}
use Rattle.paper.specs.Telegrams.{after_at, good, ours, found_at, nothing, search_from, receive_call}
use Rattle.laws_bytes.proofs.Tests.{by_test}
use Rattle.laws_telegrams.specs.Places.{tried, Stands, First, ReceiveAnswers, Lies}
use Rattle.laws_telegrams.proofs.Good.{good-framed}
use Rattle.laws_telegrams.proofs.Search.{search_end, search_found, search_passed, search_on}

-- ---- the places that are tried lie one behind the other

module _ (piece : List ℕ) where
  pub tried_past : (k : ℕ) → good piece (tried piece k) ≡ true → tried piece (suc k) ≡ after_at piece (tried piece k)
  unfolding tried
  tried_past k g = rw g

  tried_on : (k : ℕ) → good piece (tried piece k) ≡ false → tried piece (suc k) ≡ tried piece k + 1
  unfolding tried
  tried_on k g = rw g

  pub tried-next : (k : ℕ) → tried piece k < tried piece (suc k)
  tried-next k =
      by_test (λ _. tried piece k < tried piece (suc k)) (good piece (tried piece k))
      (λ g. let e = tried_past k g in omega arith) (λ g. let e = tried_on k g in omega arith)

  pub tried_up : (i j : ℕ) → i ≤ j → tried piece i ≤ tried piece j
  tried_up i zero l = let e : i ≡ 0 = omega arith in rw e (omega arith)
  tried_up i (suc j) l =
      by_test (λ _. tried piece i ≤ tried piece (suc j)) (leb i j)
      (λ e. let a = tried_up i j (leb-true i j e) in let b = tried-next j in omega arith)
      (λ e. let f = leb-false i j e in let q : i ≡ suc j = omega arith in rw q (omega arith))

-- ---- the search from a place that is tried

module _ (address : ℕ) (piece : List ℕ) where
  -- a telegram for the address stands at the place tried as number k
  pub record Hit (k : ℕ) : Type 0 where
    pub is_good : good piece (tried piece k) ≡ true
    pub is_ours : ours address piece (tried piece k) ≡ true

  pub hit_inside : (k : ℕ) → Hit k → tried piece k < length piece
  hit_inside k h = let f = good-framed piece (tried piece k) h.is_good in omega arith

  pub record NoneFrom (k : ℕ) : Type 0 where
    pub searches : search_from address piece (tried piece k) ≡ nothing NoTelegram
    pub none : (i : ℕ) → k ≤ i → Hit i → ⊥

  pub record FirstFrom (k : ℕ) : Type 0 where
    pub at : ℕ
    pub late : k ≤ at
    pub hit : Hit at
    pub searches : search_from address piece (tried piece k) ≡ found_at piece (tried piece at)
    pub first : (i : ℕ) → k ≤ i → Hit i → at ≤ i

  abbrev Comes : ℕ → Type 0
  Comes k = NoneFrom k ⊎ FirstFrom k

  -- no telegram for the address stands there: the search goes on from the place tried next
  module _ (k : ℕ) (e : search_from address piece (tried piece k) ≡ search_from address piece (tried piece (suc k))) (n : Hit k → ⊥) where
    later : (i : ℕ) → k ≤ i → Hit i → suc k ≤ i
    later i l h =
        by_test (λ _. suc k ≤ i) (leb i k) (λ t. let b = leb-true i k t in let q : i ≡ k = omega arith in absurd (n (subst Hit q h)))
        (λ t. leb-false i k t)

    goes_on : Comes (suc k) → Comes k
    goes_on =
        ⊎_elim
        (λ r. inl (record { searches = e ∙ r.searches; none = λ i l h. r.none i (later i l h) h }))
        (λ r. inr (record {
          at = r.at;
          late = let l = r.late in omega arith;
          hit = r.hit;
          searches = e ∙ r.searches;
          first = λ i l h. r.first i (later i l h) h;
        }))

  comes : (n k : ℕ) → length piece ≤ n + tried piece k → Comes k
  comes zero k h =
      inl (record {
        searches = search_end address piece (tried piece k) (omega arith);
        none = λ i l t. let a = tried_up piece k i l in let b = hit_inside i t in omega arith;
      })
  comes (suc n) k h =
      let up = tried-next piece k in
      let rest = comes n (suc k) (omega arith) in
      by_test (λ _. Comes k) (good piece (tried piece k))
      (λ g. by_test (λ _. Comes k) (ours address piece (tried piece k))
      (λ o. inr (record {
        at = k;
        late = omega arith;
        hit = record { is_good = g; is_ours = o };
        searches = search_found address piece (tried piece k) g o;
        first = λ i l _. l;
      }))
      (λ o. goes_on k (rw (tried_past piece k g) (search_passed address piece (tried piece k) g o))
      (λ t. true≢false (sym t.is_ours ∙ o)) rest))
      (λ g. goes_on k (rw (tried_on piece k g) (search_on address piece (tried piece k) g))
      (λ t. true≢false (sym t.is_good ∙ g)) rest)

  pub from_tried : (k : ℕ) → Comes k
  from_tried k = comes (length piece) k (omega arith)

  -- ---- places by number, and places

  pub hit_of : (p : ℕ) (s : Stands address piece p) → Hit s.counts.0
  hit_of p s = record { is_good = rw s.counts.1 s.is_good; is_ours = rw s.counts.1 s.is_ours }

  pub stands_at : (k : ℕ) → Hit k → Stands address piece (tried piece k)
  stands_at k h = record { counts = (k, refl); is_good = h.is_good; is_ours = h.is_ours }

  first_of : FirstFrom 0 → First address piece (search_from address piece 0)
  unfolding tried
  first_of r =
      record {
        place = tried piece r.at;
        stands = stands_at r.at r.hit;
        no_earlier = λ p s. let u = tried_up piece r.at s.counts.0 (r.first s.counts.0 (omega arith) (hit_of p s)) in omega (arith, s.counts.1);
        is_found = r.searches;
      }

  pub searched_so : ((search_from address piece 0 ≡ nothing NoTelegram) × ((p : ℕ) → Stands address piece p → ⊥))
      ⊎ First address piece (search_from address piece 0)
  unfolding tried
  searched_so =
      ⊎_elim (λ r. inl (r.searches, λ p s. r.none s.counts.0 (omega arith) (hit_of p s))) (λ r. inr (first_of r)) (from_tried 0)

-- ---- what one call answers

pub answers_so : (piece : List ℕ) (address : ℕ)
    → ((15 < address) × (receive_call piece address ≡ nothing NoSuchAddress))
    ⊎ ((address ≤ 15) × (((receive_call piece address ≡ nothing NoTelegram) × ((p : ℕ) → Stands address piece p → ⊥))
    ⊎ First address piece (receive_call piece address)))
unfolding receive_call
answers_so piece address =
    by_test
    (λ t. ((15 < address) × (cond t (search_from address piece 0) (nothing NoSuchAddress) ≡ nothing NoSuchAddress))
    ⊎ ((address ≤ 15) × (((cond t (search_from address piece 0) (nothing NoSuchAddress) ≡ nothing NoTelegram) × ((p : ℕ) → Stands address piece p → ⊥))
    ⊎ First address piece (cond t (search_from address piece 0) (nothing NoSuchAddress)))))
    (leb address 15)
    (λ t. inr (leb-true address 15 t, searched_so address piece))
    (λ t. inl (leb-false address 15 t, refl))

module _ (piece : List ℕ) (address : ℕ) where
  abbrev number : ℕ
  number = refusal_number (receive_call piece address).refusal

  answers_20 : 15 < address → receive_call piece address ≡ nothing NoSuchAddress → ReceiveAnswers piece address
  unfolding refusal_number
  answers_20 l e =
      let n : number ≡ 20 = rw e in
      record {
        number_20 = (λ _. l, λ _. n);
        number_21 = (λ h. absurd (omega (arith, n, h)), λ a. absurd (omega (arith, l, a.0)));
        number_0 = (λ h. absurd (omega (arith, n, h)), λ a. absurd (omega (arith, l, a.0)));
        found = λ h. absurd (omega (arith, n, h));
        empty = λ _. rw e (refl, refl);
      }

  answers_21 : address ≤ 15 → receive_call piece address ≡ nothing NoTelegram → ((p : ℕ) → Stands address piece p → ⊥) → ReceiveAnswers piece address
  unfolding refusal_number
  answers_21 l e none =
      let n : number ≡ 21 = rw e in
      record {
        number_20 = (λ h. absurd (omega (arith, n, h)), λ a. absurd (omega (arith, l, a)));
        number_21 = (λ _. (l, none), λ _. n);
        number_0 = (λ h. absurd (omega (arith, n, h)), λ a. absurd (none a.1.0 a.1.1));
        found = λ h. absurd (omega (arith, n, h));
        empty = λ _. rw e (refl, refl);
      }

  answers_0 : address ≤ 15 → First address piece (receive_call piece address) → ReceiveAnswers piece address
  unfolding refusal_number
  answers_0 l f =
      let n : number ≡ 0 = rw f.is_found in
      record {
        number_20 = (λ h. absurd (omega (arith, n, h)), λ a. absurd (omega (arith, l, a)));
        number_21 = (λ h. absurd (omega (arith, n, h)), λ a. absurd (a.1 f.place f.stands));
        number_0 = (λ _. (l, (f.place, f.stands)), λ _. n);
        found = λ _. f;
        empty = λ h. absurd (h n);
      }

  pub receive_answers : ReceiveAnswers piece address
  receive_answers =
      ⊎_elim (λ r. answers_20 r.0 r.1)
      (λ r. ⊎_elim (λ s. answers_21 r.0 s.0 s.1) (λ f. answers_0 r.0 f) r.1)
      (answers_so piece address)

-- ---- what is found lies in the piece

pub lies_at : (piece : List ℕ) (p : ℕ) → good piece p ≡ true → Lies piece (found_at piece p)
lies_at piece p g =
    let f = good-framed piece p g in
    let l : p + 3 + get_or piece (p + 2) 0 ≡ p + get_or piece (p + 2) 0 + 3 = omega arith in
    record {
      place = p;
      begins = f.starts;
      first = refl;
      ends = rw l f.ends;
      after = omega arith;
      inside = omega arith;
      as_many = length-take-le _ _ (rw (length-drop (p + 3) piece) (omega arith));
      some = f.some;
      few = f.few;
    }

-- what a call has found
pub found_lies : (piece : List ℕ) (address : ℕ) → refusal_number (receive_call piece address).refusal ≡ 0 → Lies piece (receive_call piece address)
found_lies piece address e =
    let f = (receive_answers piece address).found e in rw f.is_found (lies_at piece f.place f.stands.is_good)

pub found_inside : (piece : List ℕ) (address : ℕ) → (receive_call piece address).first + (receive_call piece address).count ≤ length piece
found_inside piece address =
    ⊎_elim (λ r. rw r.1 (omega arith))
    (λ r. ⊎_elim (λ n. rw n.0 (omega arith))
    (λ s. let l = lies_at piece s.place s.stands.is_good in rw s.is_found (omega (arith, l.inside, l.after))) r.1)
    (answers_so piece address)
