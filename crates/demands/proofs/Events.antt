-- Demand 3, by induction over the events: what pieces and refreshes in any order come to. Assumes nothing.
use mathlib.Core.Path.{◌≡◌, refl, sym, ap, subst, subst₂, ◌∙◌}
use mathlib.Core.Bool.{true}
use mathlib.Core.List.{List, [], ◌∷◌, ◌++◌}
use Prim.Native.Nat.{ℕ, zero, suc, ◌+◌, ◌≤◌}
use native.Mathlib.Nat.{add_assoc, zero-add, mul-le-mul_left}
use native.Mathlib.Omega.{arith}
use lib.ListN.{length, get_or, replicate, length-replicate}
use lib.Seq.{length-take-le, get_or-take}
use borrow.Author.Tests.{eq-eqb}
use Rattle.paper.specs.declared.Module.{Module}
use Rattle.paper.specs.declared.Settings.{Settings}
use Rattle.paper.specs.declared.Span.{Span}
use Rattle.paper.specs.declared.Refusal.{Refusal}
use Rattle.paper.specs.declared.Refusal.TheVariants.{Accepted}
use Rattle.paper.specs.declared.State.{State}
use Rattle.paper.specs.Panel.{memory_length, glass_length, font_length}
use Rattle.paper.specs.Strokes.{Stroke, no_span, no_spans, apply_all, mark_all, refreshed, shown_all}
use Rattle.paper.specs.Settings.{with_spans}
use Rattle.paper.specs.Bounds.{accepted}
use Rattle.paper.specs.Numbers.{refusal_number}
use Rattle.paper.specs.Calls.{is_accepted, Feeding, feeding, run, feed_refusal, fed_nothing, feed_call, Refreshing, refreshing, refresh_refusal, emptied, refresh_call, held_by, hold_call}
use Rattle.laws_state.specs.Room.{Usable}
use Rattle.laws_state.specs.Sized.{Sized}
use Rattle.laws_state.specs.Guest.{Guest, OnlyInside}
use Rattle.laws_state.specs.Joined.{Joined}
use Rattle.laws_state.proofs.Tests.{by_cond}
use Rattle.laws_state.proofs.Records.{run-accepted}
use Rattle.laws_state.proofs.Calls.{held-accepted, emptied-accepted, feed_keeps}
use Rattle.laws_state.proofs.Refusals.{feed_given, feed_taken}
use Rattle.laws_state.proofs.Joined.{feed_runs, run_refusal}
use Rattle.laws_state.proofs.Pieces.{pieces_joined}
use Rattle.laws_state.proofs.Held.{feed_guest, feed_outside, feed_downloads}
use Rattle.laws_memory.proofs.Spans.{marks_append, marks_length}
use Rattle.laws_memory.proofs.Strokes.{apply_length}
use Rattle.laws_memory.proofs.Glass.{covered, covered_facts, covered_test, refreshed-length, refreshed_in, refreshed_out, shown_most}
use Rattle.laws_memory.proofs.Tests.{not_both}
use Rattle.laws_glass.specs.Synced.{Synced}
use Rattle.laws_glass.proofs.Glass.{strokes_synced, refreshed_shows, refreshed-synced}
use Rattle.demands.specs.Events.{Event, piece, refresh, joined, StateRecord, state_record, Play, resting, fed_then, refreshed_then, followed, play, onwards, strokes_of, spans_since, owed, visible}
use Rattle.demands.specs.Demands.{hold_number, InStep, RefreshedAt, Served}
use Rattle.demands.proofs.Calls.{hold_answers}
use Rattle.demands.proofs.Unseen.{kept, run-same, run_kept, run_mem, run_spans}
use Rattle.demands.proofs.Counts.{spanned_shown}

-- ---- a play that goes on from another

module _ {S A : Type 0} where
  -- nothing before it
  pub rested : (s : S) (m glass : List ℕ) (p : Play S A) → p ≡ followed (resting s m glass) p
  rested s m glass p = rw (zero-add p.carried, zero-add p.answered)

  -- a feed before both
  pub fed_first : (r : A) (c n : ℕ) (p q : Play S A) → fed_then r c n (followed p q) ≡ followed (fed_then r c n p) q
  fed_first r c n p q = rw (add_assoc c p.carried q.carried, add_assoc n p.answered q.answered)

-- ---- refreshes

module _ (g : Module) where
  -- a refresh that is not refused
  refresh_runs : (s : State) (ds m glass : List ℕ) → length m ≡ memory_length g → length glass ≡ glass_length g
      → accepted g s ds ≡ true
      → refresh_call g s ds m glass ≡ refreshing Accepted (emptied g s) (shown_all g s.spans) (refreshed g m s.spans glass)
  unfolding refresh_call refresh_refusal is_accepted refusal_number
  refresh_runs s ds m glass l z k = rw (eq-eqb (length m) (memory_length g) l, eq-eqb (length glass) (glass_length g) z, k)

  -- as many spans as rows
  span_count : (since : List Stroke) → length (mark_all (no_spans g) since) ≡ g.rows
  span_count since = marks_length (no_spans g) since ∙ length-replicate g.rows no_span

  module _ (font : List ℕ) where
    -- A LONGER PLAY PASSES THROUGH ITS BEGINNING
    pub passes : (a b : List Event) (s : State) (ds m glass : List ℕ)
        → let p = play g font s ds m glass a in
        play g font s ds m glass (a ++ b) ≡ followed p (play g font p.state.state p.state.downloads p.mem p.glass b)
    passes [] b s ds m glass = rested (state_record s ds) m glass (play g font s ds m glass b)
    passes (piece bs ∷ a) b s ds m glass =
        let f = feed_call g font s ds m bs in
        let p = play g font f.answer.state f.store f.mem glass a in
        ap (fed_then f.answer.refusal f.answer.carried f.answer.answered)
        (passes a b f.answer.state f.store f.mem glass)
        ∙ fed_first f.answer.refusal f.answer.carried f.answer.answered p
        (play g font p.state.state p.state.downloads p.mem p.glass b)
    passes (refresh ∷ a) b s ds m glass =
        let r = refresh_call g s ds m glass in
        ap (refreshed_then r.answer.refusal r.answer.moved) (passes a b r.answer.state ds m r.glass)

    -- as many spans as rows, after any events
    since_count : (events : List Event) (q : StateRecord) (since : List Stroke)
        → length (spans_since g font q since events) ≡ g.rows
    since_count [] q since = span_count since
    since_count (piece bs ∷ es) q since = since_count es (onwards g font q bs) (since ++ strokes_of g font q bs)
    since_count (refresh ∷ es) q since = since_count es q []

    -- no refresh owes more than the glass has
    owed_most : (events : List Event) (q : StateRecord) (since : List Stroke) (i : ℕ)
        → get_or (owed g font q since events) i 0 ≤ glass_length g
    owed_most [] q since i = omega arith
    owed_most (piece bs ∷ es) q since i = owed_most es (onwards g font q bs) (since ++ strokes_of g font q bs) i
    owed_most (refresh ∷ es) q since zero = rw (span_count since) at (shown_most g (mark_all (no_spans g) since))
    owed_most (refresh ∷ es) q since (suc i) = owed_most es q [] i

-- the glass is no larger than the memory
glass_fits : (g : Module) → Usable g → (m : List ℕ) → length m ≡ memory_length g → glass_length g ≤ length m
glass_fits g u m l = omega (arith, l, mul-le-mul_left g.rows u.visible_part)

-- a glass that equals the visible memory is in step with it, whatever the spans
shows_synced : (g : Module) (m glass : List ℕ) (ps : List Span) → glass ≡ visible g m → Synced g m glass ps
shows_synced g m glass ps e a l out = ap (λ (n : List ℕ). get_or n a 0) e ∙ get_or-take (glass_length g) m a 0 l

-- the spans are nothing of a guest's
guest_spans : (k back : ℕ) (v : Settings) (s r : State) (ps : List Span) → Guest k back v s r → Guest k back v s (with_spans r ps)
guest_spans k back v s r ps a =
    record {
      hold = a.hold;
      selected = a.selected;
      base = a.base;
      others = a.others;
      left = a.left;
      top = a.top;
      width = a.width;
      height = a.height;
      x = a.x;
      y = a.y;
    }

-- ---- the induction

-- the state as the calls have it: the joined bytes' state, but its spans hold only what was written since the last refresh
abbrev called : Module → StateRecord → List Stroke → State
called g q since = with_spans q.state (mark_all (no_spans g) since)

-- a piece fed to a state record, and to the state as the calls have it
abbrev fed_to : Module → List ℕ → StateRecord → List ℕ → List ℕ → Feeding
fed_to g font q m bs = feed_call g font q.state q.downloads m bs

-- a state record that is accepted
abbrev Accepts : Module → StateRecord → Type 0
Accepts g q = accepted g q.state q.downloads ≡ true

-- what stands after the events: p as the calls have it, one as the joined bytes have it from state record q, `since` being what
-- was written between the last refresh and the first event
record Serves (g : Module) (font : List ℕ) (q : StateRecord) (since : List Stroke) (events : List Event) (p : Play StateRecord Refusal)
    (one : Feeding) : Type 0 where
  refusals : p.answers ≡ replicate (length events) Accepted
  mem : p.mem ≡ one.mem
  carried : p.carried ≡ one.answer.carried
  answered : p.answered ≡ one.answer.answered
  state : p.state.state ≡ with_spans one.answer.state (spans_since g font q since events)
  downloads : p.state.downloads ≡ one.store
  moved : p.moved ≡ owed g font q since events
  synced : Synced g p.mem p.glass (spans_since g font q since events)
  memory : length p.mem ≡ memory_length g
  size : length p.glass ≡ glass_length g
  accepts : Accepts g p.state

module _ (g : Module) (u : Usable g) (font : List ℕ) (fonts : length font ≡ font_length g) where
  module _ (q : StateRecord) (m bs : List ℕ) (l : length m ≡ memory_length g) (h : Accepts g q) where
    abbrev start : Feeding
    start = fed_nothing Accepted q.state q.downloads m

    -- a piece of the joined bytes
    fed_runs : fed_to g font q m bs ≡ run g font start bs
    fed_runs = feed_runs g font q.state q.downloads m bs (feed_taken g font q.state q.downloads m l fonts h)

    -- and of what comes after it
    fed-joined : (rest : List ℕ)
        → Joined rest (fed_to g font q m bs)
        (fed_to g font (onwards g font q bs) (apply_all g m (strokes_of g font q bs)) rest) (fed_to g font q m (bs ++ rest))
    fed-joined rest =
        subst₂
        (λ (t : StateRecord) (n : List ℕ). Joined rest (fed_to g font q m bs) (fed_to g font t n rest) (fed_to g font q m (bs ++ rest)))
        (ap kept fed_runs ∙ run_kept g font start bs)
        (ap (λ (f : Feeding). f.mem) fed_runs ∙ run_mem g font start bs)
        (pieces_joined g u font q.state q.downloads m bs rest)

    -- the same piece fed to the state as the calls have it
    fed_called : (since : List Stroke) → accepted g (called g q since) q.downloads ≡ true
        → let f = fed_to g font q m bs in
        let after = onwards g font q bs in
        feed_call g font (called g q since) q.downloads m bs
        ≡ feeding Accepted (called g after (since ++ strokes_of g font q bs)) f.answer.carried
        f.answer.answered f.answer.outcome (apply_all g m (strokes_of g font q bs)) after.downloads
    fed_called since k =
        let r = called g q since in
        let grown = marks_append (no_spans g) since (strokes_of g font q bs) in
        feed_runs g font r q.downloads m bs (feed_taken g font r q.downloads m l fonts k)
        ∙ run-same g font (mark_all (no_spans g) since) start bs
        ∙ (λ i. let f = sym fed_runs i in
        let t = run_kept g font start bs i in
        feeding (run_refusal g font start bs i) (with_spans t.state (sym grown i)) f.answer.carried
        f.answer.answered f.answer.outcome (run_mem g font start bs i) t.downloads)

  -- THE INDUCTION: the calls keep up with the joined bytes
  serves : (events : List Event) (q : StateRecord) (since : List Stroke) (m glass : List ℕ) → length m ≡ memory_length g
      → length glass ≡ glass_length g → Accepts g q → accepted g (called g q since) q.downloads ≡ true
      → Synced g m glass (mark_all (no_spans g) since)
      → Serves g font q since events (play g font (called g q since) q.downloads m glass events) (fed_to g font q m (joined events))
  unfolding emptied
  serves [] q since m glass l z h k synced =
      rw (fed_runs q m [] l h)
      (record {
        refusals = refl;
        mem = refl;
        carried = refl;
        answered = refl;
        state = refl;
        downloads = refl;
        moved = refl;
        synced = synced;
        memory = l;
        size = z;
        accepts = k;
      })
  serves (piece bs ∷ es) q since m glass l z h k synced =
      let ss = strokes_of g font q bs in
      let q₁ = onwards g font q bs in
      let m₁ = apply_all g m ss in
      let ps = mark_all (no_spans g) since in
      let f = fed_to g font q m bs in
      let both = fed-joined q m bs l h (joined es) in
      let fed = fed_called q m bs l h since k in
      let begins = start q m bs l h in
      let h₁ = subst (λ (t : StateRecord). Accepts g t) (run_kept g font begins bs) (run-accepted g u font begins bs h) in
      let k₁ =
      subst (λ (t : Feeding). Accepts g (kept t)) fed (feed_keeps g u font (called g q since) q.downloads m bs k) in
      let grown = strokes_synced g m glass ps ss (span_count g since) (glass_fits g u m l) synced in
      let rest =
      serves es q₁ (since ++ ss) m₁ glass (apply_length g m ss ∙ l) z h₁ k₁
      (subst (Synced g m₁ glass) (sym (marks_append (no_spans g) since ss)) grown) in
      rw fed
      (record {
        refusals = ap (λ (rs : List Refusal). Accepted ∷ rs) rest.refusals;
        mem = rest.mem ∙ sym both.mem;
        carried = ap (λ (n : ℕ). f.answer.carried + n) rest.carried ∙ sym both.carried;
        answered = ap (λ (n : ℕ). f.answer.answered + n) rest.answered ∙ sym both.answered;
        state = rest.state ∙ ap (λ (t : State). with_spans t (spans_since g font q₁ (since ++ ss) es)) (sym both.state);
        downloads = rest.downloads ∙ sym both.store;
        moved = rest.moved;
        synced = rest.synced;
        memory = rest.memory;
        size = rest.size;
        accepts = rest.accepts;
      })
  serves (refresh ∷ es) q since m glass l z h k synced =
      let ps = mark_all (no_spans g) since in
      let rest =
      serves es q [] m (refreshed g m ps glass) l (refreshed-length g m ps glass ∙ z) h
      (emptied-accepted g (called g q since) q.downloads k) (refreshed-synced g m glass ps z synced (no_spans g)) in
      rw (refresh_runs g (called g q since) q.downloads m glass l z k)
      (record {
        refusals = ap (λ (rs : List Refusal). Accepted ∷ rs) rest.refusals;
        mem = rest.mem;
        carried = rest.carried;
        answered = rest.answered;
        state = rest.state;
        downloads = rest.downloads;
        moved = ap (λ (ns : List ℕ). shown_all g ps ∷ ns) rest.moved;
        synced = rest.synced;
        memory = rest.memory;
        size = rest.size;
        accepts = rest.accepts;
      })

-- ---- the demand

module _ (g : Module) (u : Usable g) (font : List ℕ) (k back : ℕ) (v : Settings) (s : State) (ds m glass : List ℕ)
    (i : InStep g font k back v s ds m glass) (events : List Event) where
  abbrev one : Feeding
  one = feed_call g font s ds m (joined events)

  abbrev since : List Span
  since = spans_since g font (state_record s ds) [] events

  -- the induction, begun with empty spans
  begun : Serves g font (state_record s ds) [] events (play g font s ds m glass events) one
  begun =
      let h = i.holding.accepts in
      let empty : s ≡ with_spans s (no_spans g) = ap (λ (ps : List Span). with_spans s ps) i.spans in
      let size = ap length i.shows ∙ length-take-le (glass_length g) m (glass_fits g u m i.memory) in
      subst (λ (t : State). Serves g font (state_record s ds) [] events (play g font t ds m glass events) one) (sym empty)
      (serves g u font i.fonts events (state_record s ds) [] m glass i.memory size h
      (subst (λ (t : State). accepted g t ds ≡ true) empty h) (shows_synced g m glass (no_spans g) i.shows))

  -- a refresh after the events is not refused, and copies what was written since the one before
  next_refresh_lem : let p = play g font s ds m glass events in
      refresh_call g p.state.state p.state.downloads p.mem p.glass
      ≡ refreshing Accepted (emptied g p.state.state) (shown_all g since) (refreshed g p.mem since p.glass)
  next_refresh_lem =
      let a = begun in
      let p = play g font s ds m glass events in
      refresh_runs g p.state.state p.state.downloads p.mem p.glass a.memory a.size a.accepts
      ∙ ap
      (λ (t : State).
      refreshing Accepted (emptied g p.state.state) (shown_all g t.spans) (refreshed g p.mem t.spans p.glass))
      a.state

  -- such a refresh, with any events after it
  refreshed-at : (after : List Event)
      → let p = play g font s ds m glass events in
      let r = refresh_call g p.state.state p.state.downloads p.mem p.glass in
      RefreshedAt g since p r.answer.refusal r.answer.moved r.glass
      (play g font r.answer.state p.state.downloads p.mem r.glass after)
      (play g font s ds m glass (events ++ refresh ∷ after))
  refreshed-at after =
      let p = play g font s ds m glass events in
      let size = begun.size in
      record {
        place = passes g font events (refresh ∷ after) s ds m glass;
        only =
            rw next_refresh_lem
            (record {
              size = refreshed-length g p.mem since p.glass;
              copied = λ n l held. refreshed_in g p.mem since p.glass n (omega arith) (covered_facts g since n (rw held tt));
              kept = λ n l out.
                  refreshed_out g p.mem since p.glass n (omega arith)
                  (λ c. not_both (covered g since n) out (covered_test g since n c));
            });
        number =
            ap (λ (r : Refreshing). r.answer.moved) next_refresh_lem
            ∙ sym (spanned_shown g since (since_count g font events (state_record s ds) []));
        sum = ap (λ (r : Refreshing). r.answer.moved) next_refresh_lem;
      }

module _ (g : Module) (u : Usable g) (font : List ℕ) (k back : ℕ) (v : Settings) (s : State) (ds m glass : List ℕ)
    (i : InStep g font k back v s ds m glass) where
  pub served : (events : List Event)
      → Served g font k back v s ds m glass events (play g font s ds m glass events) (feed_call g font s ds m (joined events))
      (play g font s ds m glass (events ++ refresh ∷ []))
  served events =
      let a = begun g u font k back v s ds m glass i events in
      let p = play g font s ds m glass events in
      let since = spans_since g font (state_record s ds) [] events in
      record {
        refusals = a.refusals;
        mem = a.mem;
        carried = a.carried;
        answered = a.answered;
        state = a.state;
        outside =
            subst (OnlyInside g k s m) (sym a.mem) (feed_outside g u font k back v s ds m (joined events) i.holding.held);
        guest =
            subst (Guest k back v s) (sym a.state)
            (guest_spans k back v s _ since (feed_guest g u font k back v s ds m (joined events) i.holding));
        downloads = a.downloads ∙ feed_downloads g u font k back v s ds m (joined events) i.holding.held;
        shows =
            ap (λ (q : Play StateRecord Refusal). q.glass) (passes g font events (refresh ∷ []) s ds m glass)
            ∙ ap (λ (r : Refreshing). r.glass) (next_refresh_lem g u font k back v s ds m glass i events)
            ∙ refreshed_shows g p.mem p.glass since a.size a.synced (glass_fits g u p.mem a.memory);
        each = λ before after e. rw e (refreshed-at g u font k back v s ds m glass i before after);
        moved = a.moved;
        most = λ n. rw a.moved (owed_most g font events (state_record s ds) [] n);
      }

-- ---- how it is begun

-- a feed, refused or not, keeps a glass in step that shows memory wherever no span is
pub feed_in_step : (g : Module) → Usable g → (font : List ℕ) (s : State) (ds m glass bytes : List ℕ) → Sized g s
    → Synced g m glass s.spans
    → let f = feed_call g font s ds m bytes in Synced g f.mem glass f.answer.state.spans
unfolding feed_call
feed_in_step g u font s ds m glass bytes sized synced =
    by_cond (λ (f : Feeding). Synced g f.mem glass f.answer.state.spans) (is_accepted (feed_refusal g font s ds m))
    (λ e.
    let begins = fed_nothing Accepted s ds m in
    subst₂ (λ (n : List ℕ) (ps : List Span). Synced g n glass ps) (sym (run_mem g font begins bytes))
    (sym (run_spans g font begins bytes))
    (strokes_synced g m glass s.spans (strokes_of g font (state_record s ds) bytes) sized.spans
    (glass_fits g u m (feed_given g font s ds m e).0) synced))
    (λ _. synced)

-- a hold that is not refused, and then a refresh
pub holds_in_step : (g : Module) → Usable g → (font : List ℕ) (s : State) (ds : List ℕ) (k : ℕ) (m glass : List ℕ)
    → length font ≡ font_length g → length m ≡ memory_length g → length glass ≡ glass_length g → Synced g m glass s.spans
    → hold_number g s ds k ≡ 0
    → let r = refresh_call g (hold_call g s ds k).state ds m glass in
    InStep g font k s.selected s.settings r.answer.state ds m r.glass
unfolding held_by emptied
holds_in_step g u font s ds k m glass fonts l z synced n =
    let a = hold_answers g s ds k in
    let f = a.number_0.0 n in
    let h = held-accepted g s ds f.0 k f.1.1.0 f.1.1.1 in
    rw (a.taken n, refresh_runs g (held_by s k) ds m glass l z h)
    (record {
      holding = record { accepts = emptied-accepted g (held_by s k) ds h; held = refl };
      spans = refl;
      shows = refreshed_shows g m glass s.spans z synced (glass_fits g u m l);
      memory = l;
      fonts = fonts;
    })
