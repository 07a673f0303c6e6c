-- Demand 1 for each of the five calls. Assumes nothing.
use mathlib.Core.Path.{◌≡◌, refl, sym, ap, ◌∙◌}
use mathlib.Core.Logic.Iff
use mathlib.Core.Logic.{◌↔◌, ◌≢◌}
use mathlib.Core.Bool.{Bool, true, false, cond, not}
use mathlib.Core.List.{List, [], ◌∷◌}
use Prim.Native.Nat.{ℕ}
use lib.Dec.{eqb}
use lib.ListN.{length}
use borrow.Author.Tests.{eqb-true, eqb-false, eq-eqb, ne_eqb}
use Rattle.paper.specs.declared.Module.{Module}
use Rattle.paper.specs.declared.Refusal.{Refusal}
use Rattle.paper.specs.declared.Refusal.TheVariants.{Accepted, MemoryLength, FontLength, GlassLength, NoSuchWindow, UndefinedWindow, HeldAlready, NotHeld, BrokenState}
use Rattle.paper.specs.declared.State.{State}
use Rattle.paper.specs.declared.Answer.{Answer}
use Rattle.paper.specs.Panel.{memory_length, glass_length, font_length}
use Rattle.paper.specs.Downloads.{all_erased}
use Rattle.paper.specs.Numbers.{refusal_number, outcome_number}
use Rattle.paper.specs.Reading.{between}
use Rattle.paper.specs.Settings.{window_at, is_defined}
use Rattle.paper.specs.Bounds.{accepted}
use Rattle.paper.specs.Carry.{is_held}
use Rattle.paper.specs.Calls.{is_not, is_accepted, Starting, start_refusal, start_call, Feeding, feed_refusal, fed_nothing, feed_call, hold_refusal, hold_call, release_refusal, release_call, Refreshing, refresh_refusal, refresh_call}
use Rattle.laws_state.proofs.Tests.{by_cond}
use Rattle.laws_state.proofs.Joined.{run_refusal}
use Rattle.demands.specs.Demands.{one_of, StartAnswers, FeedAnswers, HoldAnswers, ReleaseAnswers, RefreshAnswers}
use Rattle.demands.proofs.Rows.{here, later, otherwise, never, not_yes, not_no, length_wrong, length_right}

-- ---- a call answers by its refusal

-- one that is not refused answers so, and any other gives its refusal's number
answers_by : {A : Type 0} (f : A → Refusal) (r : Refusal) (a b : A) → f a ≡ Accepted → f b ≡ r
    → refusal_number (f (cond (is_accepted r) a b)) ≡ refusal_number r
unfolding is_accepted refusal_number
answers_by f r a b p q = go (eqb (refusal_number r) 0) refl where
  go : (t : Bool) → eqb (refusal_number r) 0 ≡ t → refusal_number (f (cond t a b)) ≡ refusal_number r
  go true e = ap refusal_number p ∙ sym (eqb-true (refusal_number r) 0 e)
  go false e = ap refusal_number q

-- 0 is a call that is not refused
is_taken : (r : Refusal) → refusal_number r ≡ 0 → is_accepted r ≡ true
unfolding is_accepted
is_taken r e = eq-eqb (refusal_number r) 0 e

-- any other number is one that is
is_refused : (r : Refusal) → refusal_number r ≢ 0 → is_accepted r ≡ false
unfolding is_accepted
is_refused r n = ne_eqb (refusal_number r) 0 n

-- what its refusal's number says, a call's answer says
says : {a b : ℕ} {P : Type 0} → a ≡ b → (i : ℕ) → ((b ≡ i) ↔ P) → (a ≡ i) ↔ P
says e i h = rw e h

-- the numbers that a call may give are those of its rows, by a row and what is tested after it
listed : (ns : List ℕ) (t : Bool) (r q : Refusal) → one_of ns (refusal_number r) ≡ true → one_of ns (refusal_number q) ≡ true
    → one_of ns (refusal_number (cond t r q)) ≡ true
listed ns true r q a b = a
listed ns false r q a b = b

-- a number other than 0 is not that of a call that is not refused
last : (i : ℕ) → eqb 0 i ≡ false → refusal_number Accepted ≢ i
unfolding refusal_number
last i n = eqb-false 0 i n

-- ---- start

module _ (g : Module) (m ds : List ℕ) where
  start_refusal_lem : refusal_number (start_call g m ds).answer.refusal ≡ refusal_number (start_refusal g m)
  unfolding start_call
  start_refusal_lem = answers_by (λ (q : Starting). q.answer.refusal) (start_refusal g m) _ _ refl refl

  pub start_answers : StartAnswers g m ds
  unfolding start_refusal start_call refusal_number
  start_answers =
      let r = start_refusal_lem in
      let n = memory_length g in
      let a = is_not n m in
      record {
        listed = rw r (listed (0 ∷ 1 ∷ []) a MemoryLength Accepted refl refl);
        number_1 = says r 1 (here refusal_number 1 a MemoryLength Accepted refl (last 1 refl) (length_wrong n m));
        number_0 = says r 0 (otherwise refusal_number 0 a MemoryLength Accepted refl refl (length_right n m));
        refused = λ e. rw (is_refused (start_refusal g m) (rw r at e)) (refl, refl);
        taken = λ e. rw (is_taken (start_refusal g m) (rw r at e)) (refl, refl);
        downloads = by_cond (λ (q : Starting). q.store ≡ all_erased ds) (is_accepted (start_refusal g m)) (λ _. refl) (λ _. refl);
      }

-- ---- two lists are lent, then the state is tested: 1, the number of w, 8

module _ (n : ℕ) (m : List ℕ) (k : ℕ) (l : List ℕ) (ok : Bool) (w : Refusal) where
  abbrev from_state : Refusal
  from_state = cond (not ok) BrokenState Accepted

  abbrev from_second : Refusal
  from_second = cond (is_not k l) w from_state

  abbrev from_first : Refusal
  from_first = cond (is_not n m) MemoryLength from_second

  lent_listed : (ns : List ℕ) → one_of ns 0 ≡ true → one_of ns 1 ≡ true → one_of ns (refusal_number w) ≡ true → one_of ns 8 ≡ true
      → one_of ns (refusal_number from_first) ≡ true
  unfolding refusal_number
  lent_listed ns has_0 has_1 has_w has_8 =
      listed ns (is_not n m) MemoryLength from_second has_1
      (listed ns (is_not k l) w from_state has_w (listed ns (not ok) BrokenState Accepted has_8 has_0))

  lent_1 : eqb (refusal_number w) 1 ≡ false → (refusal_number from_first ≡ 1) ↔ (length m ≢ n)
  unfolding refusal_number
  lent_1 e =
      here refusal_number 1 (is_not n m) MemoryLength from_second refl
      (never refusal_number 1 (is_not k l) w from_state e
      (never refusal_number 1 (not ok) BrokenState Accepted refl (last 1 refl)))
      (length_wrong n m)

  lent_w : (i : ℕ) → refusal_number w ≡ i → eqb 1 i ≡ false → eqb 8 i ≡ false → eqb 0 i ≡ false
      → (refusal_number from_first ≡ i) ↔ ((length m ≡ n) × (length l ≢ k))
  unfolding refusal_number
  lent_w i e not_1 not_8 not_0 =
      later refusal_number i (is_not n m) MemoryLength from_second not_1 (length_right n m)
      (here refusal_number i (is_not k l) w from_state e
      (never refusal_number i (not ok) BrokenState Accepted not_8 (last i not_0)) (length_wrong k l))

  lent_8 : eqb (refusal_number w) 8 ≡ false
      → (refusal_number from_first ≡ 8) ↔ ((length m ≡ n) × ((length l ≡ k) × (ok ≡ false)))
  unfolding refusal_number
  lent_8 e =
      later refusal_number 8 (is_not n m) MemoryLength from_second refl (length_right n m)
      (later refusal_number 8 (is_not k l) w from_state e (length_right k l)
      (here refusal_number 8 (not ok) BrokenState Accepted refl (last 8 refl) (not_yes ok)))

  lent_0 : eqb (refusal_number w) 0 ≡ false
      → (refusal_number from_first ≡ 0) ↔ ((length m ≡ n) × ((length l ≡ k) × (ok ≡ true)))
  unfolding refusal_number
  lent_0 e =
      later refusal_number 0 (is_not n m) MemoryLength from_second refl (length_right n m)
      (later refusal_number 0 (is_not k l) w from_state e (length_right k l)
      (otherwise refusal_number 0 (not ok) BrokenState Accepted refl refl (not_no ok)))

-- ---- feed

module _ (g : Module) (font : List ℕ) (s : State) (ds m bytes : List ℕ) where
  feed_refusal_lem : refusal_number (feed_call g font s ds m bytes).answer.refusal ≡ refusal_number (feed_refusal g font s ds m)
  unfolding feed_call
  feed_refusal_lem =
      answers_by (λ (q : Feeding). q.answer.refusal) (feed_refusal g font s ds m) _ _
      (run_refusal g font (fed_nothing Accepted s ds m) bytes) refl

  pub feed_answers : FeedAnswers g font s ds m bytes
  unfolding feed_refusal feed_call refusal_number outcome_number
  feed_answers =
      let r = feed_refusal_lem in
      let n = memory_length g in
      let ok = accepted g s ds in
      record {
        listed = rw r (lent_listed n m (font_length g) font ok FontLength (0 ∷ 1 ∷ 2 ∷ 8 ∷ []) refl refl refl refl);
        number_1 = says r 1 (lent_1 n m (font_length g) font ok FontLength refl);
        number_2 = says r 2 (lent_w n m (font_length g) font ok FontLength 2 refl refl refl refl);
        number_8 = says r 8 (lent_8 n m (font_length g) font ok FontLength refl);
        number_0 = says r 0 (lent_0 n m (font_length g) font ok FontLength refl);
        refused = λ e.
            rw (is_refused (feed_refusal g font s ds m) (rw r at e))
            (record { state = refl; downloads = refl; mem = refl; carried = refl; answered = refl; outcome = refl });
      }

-- ---- refresh

module _ (g : Module) (s : State) (ds m glass : List ℕ) where
  refresh_refusal_lem : refusal_number (refresh_call g s ds m glass).answer.refusal ≡ refusal_number (refresh_refusal g s ds m glass)
  unfolding refresh_call
  refresh_refusal_lem =
      answers_by (λ (q : Refreshing). q.answer.refusal) (refresh_refusal g s ds m glass) _ _ refl refl

  pub refresh_answers : RefreshAnswers g s ds m glass
  unfolding refresh_refusal refresh_call refusal_number
  refresh_answers =
      let r = refresh_refusal_lem in
      let n = memory_length g in
      let k = glass_length g in
      let ok = accepted g s ds in
      record {
        listed = rw r (lent_listed n m k glass ok GlassLength (0 ∷ 1 ∷ 3 ∷ 8 ∷ []) refl refl refl refl);
        number_1 = says r 1 (lent_1 n m k glass ok GlassLength refl);
        number_3 = says r 3 (lent_w n m k glass ok GlassLength 3 refl refl refl refl);
        number_8 = says r 8 (lent_8 n m k glass ok GlassLength refl);
        number_0 = says r 0 (lent_0 n m k glass ok GlassLength refl);
        refused = λ e. rw (is_refused (refresh_refusal g s ds m glass) (rw r at e)) (refl, refl, refl);
        taken = λ e. rw (is_taken (refresh_refusal g s ds m glass) (rw r at e)) (refl, refl, refl);
      }

-- ---- hold

module _ (g : Module) (s : State) (ds : List ℕ) (k : ℕ) where
  hold_refusal_lem : refusal_number (hold_call g s ds k).refusal ≡ refusal_number (hold_refusal g s ds k)
  unfolding hold_call
  hold_refusal_lem = answers_by (λ (q : Answer). q.refusal) (hold_refusal g s ds k) _ _ refl refl

  pub hold_answers : HoldAnswers g s ds k
  unfolding hold_refusal hold_call refusal_number
  hold_answers =
      let r = hold_refusal_lem in
      let ok = accepted g s ds in
      let held = is_held s.hold in
      let named = between 1 4 k in
      let defined = is_defined (window_at s.windows k) in
      let from_5 : Refusal = cond (not defined) UndefinedWindow Accepted in
      let from_4 : Refusal = cond (not named) NoSuchWindow from_5 in
      let from_6 : Refusal = cond held HeldAlready from_4 in
      let never_5 : (i : ℕ) → eqb 5 i ≡ false → eqb 0 i ≡ false → refusal_number from_5 ≢ i =
      λ i a b. never refusal_number i (not defined) UndefinedWindow Accepted a (last i b) in
      let ns : List ℕ = 0 ∷ 8 ∷ 6 ∷ 4 ∷ 5 ∷ [] in
      record {
        listed =
            rw r
            (listed ns (not ok) BrokenState from_6 refl
            (listed ns held HeldAlready from_4 refl
            (listed ns (not named) NoSuchWindow from_5 refl
            (listed ns (not defined) UndefinedWindow Accepted refl refl))));
        number_8 =
            says r 8
            (here refusal_number 8 (not ok) BrokenState from_6 refl
            (never refusal_number 8 held HeldAlready from_4 refl
            (never refusal_number 8 (not named) NoSuchWindow from_5 refl (never_5 8 refl refl))) (not_yes ok));
        number_6 =
            says r 6
            (later refusal_number 6 (not ok) BrokenState from_6 refl (not_no ok)
            (here refusal_number 6 held HeldAlready from_4 refl
            (never refusal_number 6 (not named) NoSuchWindow from_5 refl (never_5 6 refl refl)) Iff.rfl));
        number_4 =
            says r 4
            (later refusal_number 4 (not ok) BrokenState from_6 refl (not_no ok)
            (later refusal_number 4 held HeldAlready from_4 refl Iff.rfl
            (here refusal_number 4 (not named) NoSuchWindow from_5 refl (never_5 4 refl refl) (not_yes named))));
        number_5 =
            says r 5
            (later refusal_number 5 (not ok) BrokenState from_6 refl (not_no ok)
            (later refusal_number 5 held HeldAlready from_4 refl Iff.rfl
            (later refusal_number 5 (not named) NoSuchWindow from_5 refl (not_no named)
            (here refusal_number 5 (not defined) UndefinedWindow Accepted refl (last 5 refl) (not_yes defined)))));
        number_0 =
            says r 0
            (later refusal_number 0 (not ok) BrokenState from_6 refl (not_no ok)
            (later refusal_number 0 held HeldAlready from_4 refl Iff.rfl
            (later refusal_number 0 (not named) NoSuchWindow from_5 refl (not_no named)
            (otherwise refusal_number 0 (not defined) UndefinedWindow Accepted refl refl (not_no defined)))));
        refused = λ e. rw (is_refused (hold_refusal g s ds k) (rw r at e));
        taken = λ e. rw (is_taken (hold_refusal g s ds k) (rw r at e));
      }

-- ---- release

module _ (g : Module) (s : State) (ds : List ℕ) where
  release_refusal_lem : refusal_number (release_call g s ds).refusal ≡ refusal_number (release_refusal g s ds)
  unfolding release_call
  release_refusal_lem = answers_by (λ (q : Answer). q.refusal) (release_refusal g s ds) _ _ refl refl

  pub release_answers : ReleaseAnswers g s ds
  unfolding release_refusal release_call refusal_number
  release_answers =
      let r = release_refusal_lem in
      let ok = accepted g s ds in
      let held = is_held s.hold in
      let from_7 : Refusal = cond (not held) NotHeld Accepted in
      let ns : List ℕ = 0 ∷ 8 ∷ 7 ∷ [] in
      record {
        listed =
            rw r (listed ns (not ok) BrokenState from_7 refl (listed ns (not held) NotHeld Accepted refl refl));
        number_8 =
            says r 8
            (here refusal_number 8 (not ok) BrokenState from_7 refl
            (never refusal_number 8 (not held) NotHeld Accepted refl (last 8 refl)) (not_yes ok));
        number_7 =
            says r 7
            (later refusal_number 7 (not ok) BrokenState from_7 refl (not_no ok)
            (here refusal_number 7 (not held) NotHeld Accepted refl (last 7 refl) (not_yes held)));
        number_0 =
            says r 0
            (later refusal_number 0 (not ok) BrokenState from_7 refl (not_no ok)
            (otherwise refusal_number 0 (not held) NotHeld Accepted refl refl (not_no held)));
        refused = λ e. rw (is_refused (release_refusal g s ds) (rw r at e));
        taken = λ e. rw (is_taken (release_refusal g s ds) (rw r at e));
      }
