-- Demands 1 and 2 for each of the five C calls, carried over from document 01's calls. Assumes nothing.
use mathlib.Core.Path.{◌≡◌, refl, sym, ap, ap₂, ◌∙◌}
use mathlib.Core.Logic.Iff
use mathlib.Core.Logic.{◌↔◌, ◌≢◌}
use mathlib.Core.Bool.{Bool, true, false, cond, or-true, true≢false}
use mathlib.Core.List.{List, [], ◌∷◌}
use Prim.Native.Nat.{ℕ}
use native.Mathlib.Omega.{arith}
use lib.Dec.{eqb}
use lib.ListN.{length}
use borrow.Author.Tests.{eq-eqb, ne_eqb}
use Rattle.paper.specs.declared.State.{State}
use Rattle.paper.specs.Panel.{panel, memory_length, font_length}
use Rattle.paper.specs.Downloads.{all_erased}
use Rattle.paper.specs.Strokes.{apply_all, refreshed, shown_all}
use Rattle.paper.specs.Settings.{initial_state}
use Rattle.paper.specs.Bounds.{accepted}
use Rattle.paper.specs.Cells.{erase_stroke}
use Rattle.paper.specs.Calls.{is_not, started, feed_call, held_by, released, emptied}
use Rattle.laws_state.proofs.Tests.{by_cond}
use Rattle.demands.specs.Events.{state_record}
use Rattle.demands.specs.Demands.{one_of, start_number, feed_number, hold_number, release_number, refresh_number}
use Rattle.demands.proofs.Rows.{here, later, length_wrong, length_right}
use Rattle.demands.proofs.Demands.{demand_1_start, demand_1_feed, demand_1_hold, demand_1_release, demand_1_refresh}
use Rattle.record_bytes.specs.Bytes.{record_length, record_of}
use Rattle.record_read.specs.Record.{state_in, store_in}
use Rattle.face.specs.Face.{record_after, StartingC, start_c, FeedingC, feed_c, CallingC, hold_c, release_c, RefreshingC, refresh_c}
use Rattle.face.proofs.Laws.{feed_stands}
use Rattle.demands_c.specs.Demands.{StartAnswersC, NothingFedC, FeedAnswersC, HoldAnswersC, ReleaseAnswersC, RefreshAnswersC, PieceFedC}
use Rattle.demands_c.proofs.Records.{panel-rows, record_long, no_state}

-- ---- a call's answer is 100 or document 01's

-- a part of what a test picks
picked : {A B : Type 0} (f : A → B) (t : Bool) (a b : A) → f (cond t a b) ≡ cond t (f a) (f b)
picked f true a b = refl
picked f false a b = refl

-- a number of a list is none that the list has not
not_listed : (ns : List ℕ) (p i : ℕ) → one_of ns p ≡ true → one_of ns i ≡ false → p ≢ i
not_listed ns p i is none e = true≢false (sym is ∙ ap (one_of ns) e ∙ none)

-- n is a call's answer and p the number that document 01's call gives, one of ns
module _ (l : List ℕ) {n : ℕ} (p : ℕ) (e : n ≡ cond (is_not record_length l) 100 p) where
  row : (i : ℕ) {P : Type 0} → eqb 100 i ≡ false → ((p ≡ i) ↔ P) → (n ≡ i) ↔ ((length l ≡ record_length) × P)
  row i other h = rw e (later (λ (k : ℕ). k) i (is_not record_length l) 100 p other (length_right record_length l) h)

  module _ (ns : List ℕ) (is : one_of ns p ≡ true) where
    row_100 : one_of ns 100 ≡ false → (n ≡ 100) ↔ (length l ≢ record_length)
    row_100 none =
        rw e (here (λ (k : ℕ). k) 100 (is_not record_length l) 100 p refl (not_listed ns p 100 is none) (length_wrong record_length l))

    all_listed : one_of (100 ∷ ns) n ≡ true
    all_listed =
        rw e
        (by_cond (λ (k : ℕ). one_of (100 ∷ ns) k ≡ true) (is_not record_length l) (λ _. refl) (λ _. rw is (or-true (eqb p 100))))

-- the record that a call leaves
module _ (n : ℕ) (s : State) (ds l : List ℕ) where
  left_alone : n ≢ 0 → record_after n s ds l ≡ l
  unfolding record_after
  left_alone h = rw (ne_eqb n 0 h)

  written : n ≡ 0 → record_after n s ds l ≡ record_of s ds
  unfolding record_after
  written h = rw (eq-eqb n 0 h)

-- ---- start

module _ (l m : List ℕ) where
  start_number_lem : (start_c panel l m).answer ≡ cond (is_not record_length l) 100 (start_number panel m (store_in l))
  unfolding start_c
  start_number_lem = picked (λ (q : StartingC). q.answer) (is_not record_length l) _ _

  pub start_answers_c : StartAnswersC l m
  unfolding start_c panel
  start_answers_c =
      let a = demand_1_start m (store_in l) in
      let p = start_number panel m (store_in l) in
      let e = start_number_lem in
      let t = is_not record_length l in
      record {
        listed = all_listed l p e (0 ∷ 1 ∷ []) a.listed;
        number_100 = row_100 l p e (0 ∷ 1 ∷ []) a.listed refl;
        number_1 = row l p e 1 refl a.number_1;
        number_0 = row l p e 0 refl a.number_0;
        wrong =
            by_cond (λ (q : StartingC). q.answer ≡ 100 → (q.state ≡ l) × (q.mem ≡ m)) t (λ _ _. (refl, refl))
            (λ _ h. absurd (not_listed (0 ∷ 1 ∷ []) p 100 a.listed refl h));
        refused =
            by_cond (λ (q : StartingC). q.answer ≡ 1 → (q.state ≡ record_of (initial_state panel) (all_erased (store_in l))) × (q.mem ≡ m)) t
            (λ _ h. absurd (omega arith))
            (λ _ h. let r = a.refused (λ z. omega arith) in (ap₂ record_of r.0 a.downloads, r.1));
        taken =
            by_cond
            (λ (q : StartingC).
            q.answer ≡ 0 → (q.state ≡ record_of (started panel) (all_erased (store_in l))) × (q.mem ≡ apply_all panel m (erase_stroke panel ∷ []))) t
            (λ _ h. absurd (omega arith))
            (λ _ h. let r = a.taken h in (ap₂ record_of r.0 a.downloads, r.1));
      }

-- ---- feed

module _ (l m font bytes : List ℕ) where
  feed_number_lem : (feed_c panel l m font bytes).answer.answer ≡ cond (is_not record_length l) 100 (feed_number panel font (state_in l) (store_in l) m bytes)
  unfolding feed_c
  feed_number_lem = picked (λ (q : FeedingC). q.answer.answer) (is_not record_length l) _ _

  pub feed_answers_c : FeedAnswersC l m font bytes
  unfolding feed_c panel
  feed_answers_c =
      let a = demand_1_feed font (state_in l) (store_in l) m bytes in
      let p = feed_number panel font (state_in l) (store_in l) m bytes in
      let e = feed_number_lem in
      let ns : List ℕ = 0 ∷ 1 ∷ 2 ∷ 8 ∷ [] in
      record {
        listed = all_listed l p e ns a.listed;
        number_100 = row_100 l p e ns a.listed refl;
        number_1 = row l p e 1 refl a.number_1;
        number_2 = row l p e 2 refl a.number_2;
        number_8 = row l p e 8 refl (Iff.trans a.number_8 (Iff.and Iff.rfl (Iff.and Iff.rfl (no_state l))));
        number_0 = row l p e 0 refl a.number_0;
        refused =
            by_cond (λ (q : FeedingC). q.answer.answer ≢ 0 → NothingFedC l m q) (is_not record_length l)
            (λ _ _. record { state = refl; mem = refl; carried = refl; answered = refl; outcome = refl })
            (λ _ n.
            let r = a.refused n in
            record {
              state = left_alone p _ _ l n;
              mem = r.mem;
              carried = r.carried;
              answered = r.answered;
              outcome = r.outcome;
            });
      }

-- ---- hold

module _ (l : List ℕ) (k : ℕ) where
  hold_number_lem : (hold_c panel l k).answer ≡ cond (is_not record_length l) 100 (hold_number panel (state_in l) (store_in l) k)
  unfolding hold_c
  hold_number_lem = picked (λ (q : CallingC). q.answer) (is_not record_length l) _ _

  pub hold_answers_c : HoldAnswersC l k
  unfolding hold_c
  hold_answers_c =
      let a = demand_1_hold (state_in l) (store_in l) k in
      let p = hold_number panel (state_in l) (store_in l) k in
      let e = hold_number_lem in
      let ns : List ℕ = 0 ∷ 8 ∷ 6 ∷ 4 ∷ 5 ∷ [] in
      record {
        listed = all_listed l p e ns a.listed;
        number_100 = row_100 l p e ns a.listed refl;
        number_8 = row l p e 8 refl (Iff.trans a.number_8 (no_state l));
        number_6 = row l p e 6 refl a.number_6;
        number_4 = row l p e 4 refl a.number_4;
        number_5 = row l p e 5 refl a.number_5;
        number_0 = row l p e 0 refl a.number_0;
        refused =
            by_cond (λ (q : CallingC). q.answer ≢ 0 → q.state ≡ l) (is_not record_length l) (λ _ _. refl) (λ _ n. left_alone p _ _ l n);
        taken =
            by_cond (λ (q : CallingC). q.answer ≡ 0 → q.state ≡ record_of (held_by (state_in l) k) (store_in l)) (is_not record_length l)
            (λ _ h. absurd (omega arith)) (λ _ h. written p _ _ l h ∙ ap (λ (s : State). record_of s (store_in l)) (a.taken h));
      }

-- ---- release

module _ (l : List ℕ) where
  release_number_lem : (release_c panel l).answer ≡ cond (is_not record_length l) 100 (release_number panel (state_in l) (store_in l))
  unfolding release_c
  release_number_lem = picked (λ (q : CallingC). q.answer) (is_not record_length l) _ _

  pub release_answers_c : ReleaseAnswersC l
  unfolding release_c
  release_answers_c =
      let a = demand_1_release (state_in l) (store_in l) in
      let p = release_number panel (state_in l) (store_in l) in
      let e = release_number_lem in
      let ns : List ℕ = 0 ∷ 8 ∷ 7 ∷ [] in
      record {
        listed = all_listed l p e ns a.listed;
        number_100 = row_100 l p e ns a.listed refl;
        number_8 = row l p e 8 refl (Iff.trans a.number_8 (no_state l));
        number_7 = row l p e 7 refl a.number_7;
        number_0 = row l p e 0 refl a.number_0;
        refused =
            by_cond (λ (q : CallingC). q.answer ≢ 0 → q.state ≡ l) (is_not record_length l) (λ _ _. refl) (λ _ n. left_alone p _ _ l n);
        taken =
            by_cond (λ (q : CallingC). q.answer ≡ 0 → q.state ≡ record_of (released (state_in l)) (store_in l)) (is_not record_length l)
            (λ _ h. absurd (omega arith)) (λ _ h. written p _ _ l h ∙ ap (λ (s : State). record_of s (store_in l)) (a.taken h));
      }

-- ---- refresh

module _ (l m glass : List ℕ) where
  refresh_number_lem : (refresh_c panel l m glass).answer.answer ≡ cond (is_not record_length l) 100 (refresh_number panel (state_in l) (store_in l) m glass)
  unfolding refresh_c
  refresh_number_lem = picked (λ (q : RefreshingC). q.answer.answer) (is_not record_length l) _ _

  pub refresh_answers_c : RefreshAnswersC l m glass
  unfolding refresh_c panel
  refresh_answers_c =
      let a = demand_1_refresh (state_in l) (store_in l) m glass in
      let p = refresh_number panel (state_in l) (store_in l) m glass in
      let e = refresh_number_lem in
      let ns : List ℕ = 0 ∷ 1 ∷ 3 ∷ 8 ∷ [] in
      record {
        listed = all_listed l p e ns a.listed;
        number_100 = row_100 l p e ns a.listed refl;
        number_1 = row l p e 1 refl a.number_1;
        number_3 = row l p e 3 refl a.number_3;
        number_8 = row l p e 8 refl (Iff.trans a.number_8 (Iff.and Iff.rfl (Iff.and Iff.rfl (no_state l))));
        number_0 = row l p e 0 refl a.number_0;
        refused =
            by_cond
            (λ (q : RefreshingC). q.answer.answer ≢ 0 → (q.state ≡ l) × (q.answer.moved ≡ 0) × (q.glass ≡ glass))
            (is_not record_length l) (λ _ _. (refl, refl, refl))
            (λ _ n. let r = a.refused n in (left_alone p _ _ l n, r.1, r.2));
        taken =
            by_cond
            (λ (q : RefreshingC).
            q.answer.answer ≡ 0
            → (q.state ≡ record_of (emptied panel (state_in l)) (store_in l))
            × (q.answer.moved ≡ shown_all panel (state_in l).spans)
            × (q.glass ≡ refreshed panel m (state_in l).spans glass))
            (is_not record_length l) (λ _ h. absurd (omega arith))
            (λ _ h. let r = a.taken h in (written p _ _ l h ∙ ap (λ (s : State). record_of s (store_in l)) r.0, r.1, r.2));
      }

-- ---- a feed that is not refused

pub piece_fed_c : (l m font bytes : List ℕ) → length m ≡ memory_length panel → length font ≡ font_length panel → accepted panel (state_in l) (store_in l) ≡ true
    → PieceFedC (feed_call panel font (state_in l) (store_in l) m bytes) (feed_c panel l m font bytes)
unfolding feed_c panel
piece_fed_c l m font bytes memory fonts ok =
    let size = record_long l ok in
    let n = (demand_1_feed font (state_in l) (store_in l) m bytes).number_0.1 (memory, (fonts, ok)) in
    let stands = rw (eq-eqb (length l) record_length size) at (feed_stands panel panel-rows l size m font bytes) in
    rw (eq-eqb (length l) record_length size)
    (record {
      answer = n;
      outcome = refl;
      carried = refl;
      answered = refl;
      mem = refl;
      state = written _ _ _ l n;
      stands = ap₂ state_record stands.state stands.store;
    })
