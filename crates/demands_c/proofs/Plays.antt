-- Demand 3 from C: a play of C calls is the play of document 01's calls, and is served as that is. Assumes nothing.
use mathlib.Core.Path.{◌≡◌, refl, sym, ap, ap₂, subst, subst₂, ◌∙◌}
use mathlib.Core.List.{List, [], ◌∷◌, ◌++◌, map}
use Prim.Native.Nat.{ℕ, zero, suc, ◌+◌}
use lib.Dec.{eqb}
use lib.ListN.{length, replicate, length-drop}
use native.Mathlib.Omega.{arith}
use borrow.Author.Tests.{eq-eqb}
use Rattle.paper.specs.declared.Settings.{Settings}
use Rattle.paper.specs.declared.Span.{Span}
use Rattle.paper.specs.declared.Refusal.TheVariants.{Accepted}
use Rattle.paper.specs.declared.State.{State}
use Rattle.paper.specs.Panel.{panel}
use Rattle.paper.specs.Numbers.{refusal_number}
use Rattle.paper.specs.Settings.{with_spans}
use Rattle.paper.specs.Calls.{is_accepted, Feeding, fed_nothing, feed_refusal, feed_call, Refreshing, refresh_call}
use Rattle.laws_state.specs.Guest.{Guest, OnlyInside}
use Rattle.laws_state.proofs.Tests.{by_cond}
use Rattle.laws_state.proofs.Downloads.{store_run_length}
use Rattle.demands.specs.Events.{Event, piece, refresh, joined, StateRecord, state_record, fed_then, refreshed_then, followed, play, spans_since, visible}
use Rattle.demands.specs.Demands.{InStep, CopiedOnly}
use Rattle.demands.proofs.Events.{rested, fed_first}
use Rattle.demands.proofs.Demands.{demand_3}
use Rattle.record_bytes.specs.Bytes.{state_length, record_length}
use Rattle.record_write.proofs.Laid.{record_length_lem}
use Rattle.record_read.specs.Record.{state_in, store_in}
use Rattle.face.specs.Face.{record_after, FeedingC, feeding_c, feed_c, RefreshingC, refreshing_c, refresh_c}
use Rattle.face.proofs.Laws.{Stands, feed_stands, refresh_stands}
use Rattle.demands_c.specs.Plays.{record_in, play_c, SamePlay}
use Rattle.demands_c.specs.Demands.{ServedC}
use Rattle.demands_c.proofs.Records.{panel-rows, record_long}

-- ---- one call on a record of the right length

-- a call leaves as many bytes of downloads as there were
pub record_size : (n : ℕ) (s : State) (ds l : List ℕ) → length l ≡ record_length → length ds ≡ length (store_in l)
    → length (record_after n s ds l) ≡ record_length
unfolding record_after
record_size n s ds l h e =
    by_cond (λ (r : List ℕ). length r ≡ record_length) (eqb n 0)
    (λ _. record_length_lem s ds (e ∙ omega (arith, h, length-drop state_length l))) (λ _. h)

feed_store_size : (font : List ℕ) (s : State) (ds m bytes : List ℕ) → length (feed_call panel font s ds m bytes).store ≡ length ds
unfolding feed_call
feed_store_size font s ds m bytes =
    by_cond (λ (f : Feeding). length f.store ≡ length ds) (is_accepted (feed_refusal panel font s ds m))
    (λ _. store_run_length panel font (fed_nothing Accepted s ds m) bytes) (λ _. refl)

module _ (l : List ℕ) (h : length l ≡ record_length) where
  pub feed_is : (m font bytes : List ℕ) → feed_c panel l m font bytes ≡ feeding_c l (feed_call panel font (state_in l) (store_in l) m bytes)
  unfolding feed_c
  feed_is m font bytes = rw (eq-eqb (length l) record_length h)

  pub feed_size : (m font bytes : List ℕ) → length (feed_c panel l m font bytes).state ≡ record_length
  feed_size m font bytes =
      ap (λ (f : FeedingC). length f.state) (feed_is m font bytes)
      ∙ record_size _ (feed_call panel font (state_in l) (store_in l) m bytes).answer.state _ l h
      (feed_store_size font (state_in l) (store_in l) m bytes)

  pub refresh_is : (m glass : List ℕ) → refresh_c panel l m glass ≡ refreshing_c l (refresh_call panel (state_in l) (store_in l) m glass)
  unfolding refresh_c
  refresh_is m glass = rw (eq-eqb (length l) record_length h)

  pub refresh_size : (m glass : List ℕ) → length (refresh_c panel l m glass).state ≡ record_length
  refresh_size m glass =
      ap (λ (r : RefreshingC). length r.state) (refresh_is m glass)
      ∙ record_size _ (refresh_call panel (state_in l) (store_in l) m glass).answer.state (store_in l) l h refl

-- the record stands for what it is said to stand for
pub stands_for : {l : List ℕ} {s : State} {ds : List ℕ} → Stands l s ds → record_in l ≡ state_record s ds
stands_for z = ap₂ state_record z.state z.store

-- ---- calls in a row

module _ (font : List ℕ) where
  -- THE INDUCTION: every call leaves the record, memory and glass that document 01's call leaves
  pub same-play : (events : List Event) (l m glass : List ℕ) → length l ≡ record_length
      → SamePlay (play panel font (state_in l) (store_in l) m glass events) (play_c font l m glass events)
  same-play [] l m glass h =
      record {
        size = h;
        state = refl;
        mem = refl;
        glass = refl;
        carried = refl;
        answered = refl;
        moved = refl;
        answers = refl;
      }
  same-play (piece bs ∷ es) l m glass h =
      let f = feed_c panel l m font bs in
      let e = feed_is l h m font bs in
      let rest =
      subst₂
      (λ (q : StateRecord) (n : List ℕ). SamePlay (play panel font q.state q.downloads n glass es) (play_c font f.state f.mem glass es))
      (stands_for (feed_stands panel panel-rows l h m font bs)) (ap (λ (q : FeedingC). q.mem) e)
      (same-play es f.state f.mem glass (feed_size l h m font bs)) in
      record {
        size = rest.size;
        state = rest.state;
        mem = rest.mem;
        glass = rest.glass;
        carried = ap₂ ◌+◌ (ap (λ (q : FeedingC). q.answer.carried) e) rest.carried;
        answered = ap₂ ◌+◌ (ap (λ (q : FeedingC). q.answer.answered) e) rest.answered;
        moved = rest.moved;
        answers = ap₂ ◌∷◌ (ap (λ (q : FeedingC). q.answer.answer) e) rest.answers;
      }
  same-play (refresh ∷ es) l m glass h =
      let r = refresh_c panel l m glass in
      let e = refresh_is l h m glass in
      let rest =
      subst₂
      (λ (q : StateRecord) (n : List ℕ). SamePlay (play panel font q.state q.downloads m n es) (play_c font r.state m r.glass es))
      (stands_for (refresh_stands panel panel-rows l h m glass)) (ap (λ (q : RefreshingC). q.glass) e)
      (same-play es r.state m r.glass (refresh_size l h m glass)) in
      record {
        size = rest.size;
        state = rest.state;
        mem = rest.mem;
        glass = rest.glass;
        carried = rest.carried;
        answered = rest.answered;
        moved = ap₂ ◌∷◌ (ap (λ (q : RefreshingC). q.answer.moved) e) rest.moved;
        answers = ap₂ ◌∷◌ (ap (λ (q : RefreshingC). q.answer.answer) e) rest.answers;
      }

  -- a longer play passes through its beginning
  pub passes_c : (a b : List Event) (l m glass : List ℕ)
      → let p = play_c font l m glass a in
      play_c font l m glass (a ++ b) ≡ followed p (play_c font p.state p.mem p.glass b)
  passes_c [] b l m glass = rested l m glass (play_c font l m glass b)
  passes_c (piece bs ∷ a) b l m glass =
      let f = feed_c panel l m font bs in
      let p = play_c font f.state f.mem glass a in
      ap (fed_then f.answer.answer f.answer.carried f.answer.answered) (passes_c a b f.state f.mem glass)
      ∙ fed_first f.answer.answer f.answer.carried f.answer.answered p
      (play_c font p.state p.mem p.glass b)
  passes_c (refresh ∷ a) b l m glass =
      let r = refresh_c panel l m glass in
      ap (refreshed_then r.answer.answer r.answer.moved) (passes_c a b r.state m r.glass)

-- ---- the demand

-- lists that are equal
copied-same : (ps : List Span) {m n was old is new : List ℕ} → m ≡ n → was ≡ old → is ≡ new → CopiedOnly panel ps n old new
    → CopiedOnly panel ps m was is
copied-same ps p q r c = rw (p, q, r) c

-- the numbers of calls that are not refused
all_taken : (n : ℕ) → map refusal_number (replicate n Accepted) ≡ replicate n 0
unfolding refusal_number
all_taken zero = refl
all_taken (suc n) = ap (λ (ns : List ℕ). 0 ∷ ns) (all_taken n)

module _ (font : List ℕ) (k back : ℕ) (v : Settings) (l m glass : List ℕ) (i : InStep panel font k back v (state_in l) (store_in l) m glass) where
  -- document 01's play is served, and this is it
  pub served_c : (events : List Event)
      → ServedC font k back v l m glass events (play_c font l m glass events) (feed_c panel l m font (joined events))
      (play_c font l m glass (events ++ refresh ∷ []))
  unfolding panel
  served_c events =
      let size = record_long l i.holding.accepts in
      let served = demand_3 font k back v (state_in l) (store_in l) m glass i events in
      let same = same-play font events l m glass size in
      let state = ap (λ (q : StateRecord). q.state) same.state in
      let one = feed_is l size m font (joined events) in
      record {
        answers = same.answers ∙ ap (map refusal_number) served.refusals ∙ all_taken (length events);
        mem = same.mem ∙ served.mem ∙ sym (ap (λ (f : FeedingC). f.mem) one);
        carried = same.carried ∙ served.carried ∙ sym (ap (λ (f : FeedingC). f.answer.carried) one);
        answered = same.answered ∙ served.answered ∙ sym (ap (λ (f : FeedingC). f.answer.answered) one);
        state =
            state
            ∙ served.state
            ∙ ap (λ (s : State). with_spans s (spans_since panel font (record_in l) [] events))
            (sym (feed_stands panel panel-rows l size m font (joined events)).state);
        outside = subst (OnlyInside panel k (state_in l) m) (sym same.mem) served.outside;
        guest = subst (Guest k back v (state_in l)) (sym state) served.guest;
        downloads = ap (λ (q : StateRecord). q.downloads) same.state ∙ served.downloads;
        shows =
            (same-play font (events ++ refresh ∷ []) l m glass size).glass
            ∙ served.shows
            ∙ ap (visible panel) (sym same.mem);
        each = λ before after e.
            let at = served.each before after e in
            let b = same-play font before l m glass size in
            let p = play_c font l m glass before in
            let r = refresh_is p.state b.size p.mem p.glass in
            let paper : refresh_call panel (state_in p.state) (store_in p.state) p.mem p.glass
            ≡ (let q = play panel font (state_in l) (store_in l) m glass before in
            refresh_call panel q.state.state q.state.downloads q.mem q.glass) =
            ap (λ (q : StateRecord). refresh_call panel q.state q.downloads p.mem p.glass) b.state ∙ rw (b.mem, b.glass) in
            let moved =
            ap (λ (t : RefreshingC). t.answer.moved) r ∙ ap (λ (t : Refreshing). t.answer.moved) paper in
            record {
              place = rw e (passes_c font before (refresh ∷ after) l m glass);
              only =
                  copied-same _ b.mem b.glass
                  (ap (λ (t : RefreshingC). t.glass) r ∙ ap (λ (t : Refreshing). t.glass) paper)
                  at.only;
              number = moved ∙ at.number;
              sum = moved ∙ at.sum;
            };
        moved = same.moved ∙ served.moved;
        most = λ n. rw same.moved (served.most n);
      }
