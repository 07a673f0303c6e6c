-- One call after another, each from the place after what the one before found, reads the telegrams of the piece for the address, in order and
-- none twice. Assumes nothing.
use mathlib.Core.Path.{◌≡◌, refl, sym, ap, subst, ◌∙◌}
use mathlib.Core.Bool.{Bool, true, false, cond, true≢false}
use mathlib.Core.List.{List, [], ◌∷◌}
use mathlib.Core.Logic.{inl, inr, ⊎_elim}
use Prim.Native.Nat.{ℕ, zero, suc, ◌+◌, ◌<◌, ◌≤◌}
use native.Mathlib.Omega.{arith}
use lib.Dec.{leb}
use lib.ListN.{length, drop}
use borrow.Author.Tests.{leb-true, leb-false, le-leb}
use Rattle.paper.specs.declared.Received.{Received}
use Rattle.paper.specs.declared.Refusal.TheVariants.{Accepted, NoTelegram}
use Rattle.paper.specs.Numbers.{refusal_number}
use Rattle.paper.specs.Calls.{is_accepted}
use Rattle.paper.specs.Telegrams.{found_at, nothing, search_from, receive_call, data_of}
use Rattle.laws_bytes.proofs.Tests.{by_test}
use Rattle.laws_telegrams.specs.Places.{tried, further, read_by, read_all, InOrder, Among, ReadsAll}
use Rattle.laws_telegrams.proofs.Places.{Hit, FirstFrom, from_tried, hit_of, hit_inside, stands_at, tried_past, tried-next, tried_up, lies_at}
use Rattle.laws_telegrams.proofs.Rest.{counted, rest_searched}

-- what a call on the rest found, by what it comes to in the whole
is_taken : (q : ℕ) (f : Received) {first count after : ℕ} → counted q f ≡ record { refusal = Accepted; first = first; count = count; after = after }
    → (is_accepted f.refusal ≡ true) × (further q f ≡ record { refusal = Accepted; first = first; count = count; after = after })
unfolding is_accepted refusal_number
is_taken q f {first} {count} {after} e =
    by_test
    (λ t. is_accepted f.refusal ≡ t → cond t (further q f) f ≡ record { refusal = Accepted; first = first; count = count; after = after }
    → (is_accepted f.refusal ≡ true) × (further q f ≡ record { refusal = Accepted; first = first; count = count; after = after }))
    (is_accepted f.refusal) (λ _ i h. (i, h))
    (λ _ i h. let y : is_accepted f.refusal ≡ true = rw (ap (λ (x : Received). x.refusal) h) in absurd (true≢false (sym y ∙ i)))
    refl e

is_none : (q : ℕ) (f : Received) → counted q f ≡ nothing NoTelegram → is_accepted f.refusal ≡ false
unfolding is_accepted refusal_number
is_none q f e =
    by_test (λ t. is_accepted f.refusal ≡ t → cond t (further q f) f ≡ nothing NoTelegram → t ≡ false) (is_accepted f.refusal)
    (λ _ i h. sym i ∙ rw (ap (λ (x : Received). x.refusal) h))
    (λ _ _ _. refl)
    refl e

module _ (address : ℕ) (a : address ≤ 15) (piece : List ℕ) where
  abbrev called : ℕ → Received
  called k = receive_call (drop (tried piece k) piece) address

  called_so : (k : ℕ) → counted (tried piece k) (called k) ≡ search_from address piece (tried piece k)
  unfolding receive_call
  called_so k = rw (le-leb address 15 a) (rest_searched piece (tried piece k) address)

  -- from a place that is tried, n calls read these
  record ReadsFrom (k : ℕ) (fs : List Received) : Type 0 where
    pub in_order : InOrder (tried piece k) fs
    pub each : (f : Received) → Among f fs → (i : ℕ) × Hit address piece i × (f ≡ found_at piece (tried piece i))
    pub all : (i : ℕ) → k ≤ i → Hit address piece i → Among (found_at piece (tried piece i)) fs

  reads_none : (k : ℕ) → ((i : ℕ) → k ≤ i → Hit address piece i → ⊥) → ReadsFrom k []
  reads_none k n = record { in_order = tt; each = λ f m. absurd m; all = λ i l h. absurd (n i l h) }

  -- the one found first, and those behind it
  reads_more : (k : ℕ) (r : FirstFrom address piece k) (fs : List Received) → ReadsFrom (suc r.at) fs
      → ReadsFrom k (found_at piece (tried piece r.at) ∷ fs)
  reads_more k r fs b =
      let up = tried_up piece k r.at r.late in
      record {
        in_order = (omega arith, rw (sym (tried_past piece r.at r.hit.is_good)) b.in_order);
        each = λ f. ⊎_elim (λ e. (r.at, r.hit, e)) (b.each f);
        all = λ i l h. by_test (λ _. Among (found_at piece (tried piece i)) (found_at piece (tried piece r.at) ∷ fs)) (leb i r.at)
            (λ t. let x = leb-true i r.at t in let y = r.first i l h in let e : i ≡ r.at = omega arith in inl (rw e))
            (λ t. inr (b.all i (leb-false i r.at t) h));
      }

  -- a call that finds one, and one that finds none
  read_taken : (n p : ℕ) {g : Received} → is_accepted (receive_call (drop p piece) address).refusal ≡ true
      → further p (receive_call (drop p piece) address) ≡ g → read_by (suc n) address piece p ≡ g ∷ read_by n address piece g.after
  unfolding read_by
  read_taken n p h e =
      let f = receive_call (drop p piece) address in
      ap (λ (t : Bool). cond t (further p f ∷ read_by n address piece (p + f.after)) []) h
      ∙ ap (λ (x : Received). x ∷ read_by n address piece x.after) e

  read_none : (n p : ℕ) → is_accepted (receive_call (drop p piece) address).refusal ≡ false → read_by (suc n) address piece p ≡ []
  unfolding read_by
  read_none n p h =
      let f = receive_call (drop p piece) address in
      ap (λ (t : Bool). cond t (further p f ∷ read_by n address piece (p + f.after)) []) h

  read_nobody : (p : ℕ) → read_by zero address piece p ≡ []
  unfolding read_by
  read_nobody p = refl

  -- the place after the one found first is tried next
  read_on : (n k : ℕ) (r : FirstFrom address piece k)
      → read_by (suc n) address piece (tried piece k) ≡ found_at piece (tried piece r.at) ∷ read_by n address piece (tried piece (suc r.at))
  read_on n k r =
      let c = is_taken (tried piece k) (called k) (called_so k ∙ r.searches) in
      read_taken n (tried piece k) c.0 c.1
      ∙ ap (λ (p : ℕ). found_at piece (tried piece r.at) ∷ read_by n address piece p) (sym (tried_past piece r.at r.hit.is_good))

  reads : (n k : ℕ) → length piece ≤ n + tried piece k → ReadsFrom k (read_by n address piece (tried piece k))
  reads zero k h =
      subst (ReadsFrom k) (sym (read_nobody (tried piece k)))
      (reads_none k (λ i l t. let u = tried_up piece k i l in let b = hit_inside address piece i t in omega arith))
  reads (suc n) k h =
      ⊎_elim
      (λ r. subst (ReadsFrom k) (sym (read_none n (tried piece k) (is_none (tried piece k) (called k) (called_so k ∙ r.searches))))
      (reads_none k r.none))
      (λ r. let up = tried_up piece k r.at r.late in
      let on = tried-next piece r.at in
      subst (ReadsFrom k) (sym (read_on n k r)) (reads_more k r _ (reads n (suc r.at) (omega arith))))
      (from_tried address piece k)

  pub reads_all : ReadsAll address piece
  unfolding read_all tried
  reads_all =
      let r = reads (length piece) 0 (omega arith) in
      record {
        in_order = r.in_order;
        each_stands = λ f m. let e = r.each f m in (tried piece e.0, stands_at address piece e.0 e.1, e.2);
        all_read = λ p s. rw s.counts.1 at (r.all s.counts.0 (omega arith) (hit_of address piece p s));
      }

-- another address reads nothing
read_nothing : (address : ℕ) → leb address 15 ≡ false → (n : ℕ) (piece : List ℕ) (p : ℕ) → read_by n address piece p ≡ []
unfolding read_by receive_call is_accepted refusal_number
read_nothing address t zero piece p = refl
read_nothing address t (suc n) piece p = rw t

-- what is read has some data
pub data_some : (address : ℕ) (piece : List ℕ) (f : Received) → Among f (read_all address piece) → 0 < length (data_of piece f)
unfolding read_all
data_some address piece f =
    by_test (λ _. Among f (read_all address piece) → 0 < length (data_of piece f)) (leb address 15)
    (λ t m. let e = (reads_all address (leb-true address 15 t) piece).each_stands f m in
    let l = lies_at piece e.0 e.1.is_good in rw e.2 (omega (arith, l.as_many, l.some)))
    (λ t m. absurd (subst (Among f) (read_nothing address t (length piece) piece 0) m))
