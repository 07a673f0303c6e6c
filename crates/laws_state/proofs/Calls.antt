-- Every call leaves an accepted state, with its downloads, accepted. Assumes nothing.
use mathlib.Core.Path.{◌≡◌, refl}
use Rattle.std.specs.Prelude.{Option, None, Some}
use mathlib.Core.Bool.{true}
use mathlib.Core.List.{List, [], ◌∷◌}
use Prim.Native.Nat.{ℕ}
use native.Mathlib.Omega.{arith}
use lib.ListN.{length, replicate}
use borrow.Author.Tests.{le-leb, ne_eqb}
use Rattle.paper.specs.declared.Module.{Module}
use Rattle.paper.specs.declared.Span.{Span}
use Rattle.paper.specs.declared.Held.{Held}
use Rattle.paper.specs.declared.Refusal.TheVariants.{Accepted}
use Rattle.paper.specs.declared.State.{State}
use Rattle.paper.specs.declared.Answer.{Answer}
use Rattle.paper.specs.Downloads.{store_length, all_erased}
use Rattle.paper.specs.Reading.{between}
use Rattle.paper.specs.Strokes.{no_span}
use Rattle.paper.specs.Settings.{initial_state, with_spans, window_at, is_defined, selectable, hold_of}
use Rattle.paper.specs.Bounds.{hold_ok, spans_ok, half_ok, accepted}
use Rattle.paper.specs.Cells.{erase_stroke}
use Rattle.paper.specs.Calls.{is_accepted, start_refusal, Starting, started, start_call, feed_refusal, Feeding, fed_nothing, feed_call, hold_refusal, held_by, hold_call, release_refusal, put_back, released, release_call, refresh_refusal, Refreshing, emptied, refresh_call}
use Rattle.laws_bytes.proofs.Tests.{between_facts}
use Rattle.laws_downloads.proofs.Kept.{none_ok}
use Rattle.laws_state.specs.Room.{Usable}
use Rattle.laws_state.proofs.Tests.{by_cond}
use Rattle.laws_state.proofs.Parts.{parts, whole, hold_facts, hold_true}
use Rattle.laws_state.proofs.Marks.{empty_ok, marks_ok}
use Rattle.laws_state.proofs.Builders.{spans_parts}
use Rattle.laws_state.proofs.Accepted.{initial_parts}
use Rattle.laws_state.proofs.Records.{accepted_parts, accepted_whole, define-nothing, run-accepted}
use Rattle.laws_state.proofs.Refusals.{hold_given}

-- ---- the states that calls give

module _ (g : Module) (u : Usable g) where
  -- the initial state, with any spans that pass, and no downloads
  fresh-accepted : (ps : List Span) (ds : List ℕ) → spans_ok g ps ≡ true → length ds ≡ store_length
      → accepted g (with_spans (initial_state g) ps) (all_erased ds) ≡ true
  unfolding initial_state
  fresh-accepted ps ds h n =
      accepted_whole g _ _ (whole g _ (initial_parts g u ps h)) (none_ok ds n) (define-nothing (all_erased ds) None)

  -- the initial state
  pub initial_accepted : (ds : List ℕ) → length ds ≡ store_length → accepted g (initial_state g) (all_erased ds) ≡ true
  unfolding initial_state
  initial_accepted ds = fresh-accepted (replicate g.rows no_span) ds (empty_ok g g.rows)

  -- what start gives
  pub started-accepted : (ds : List ℕ) → length ds ≡ store_length → accepted g (started g) (all_erased ds) ≡ true
  unfolding initial_state
  started-accepted ds =
      let empty = replicate g.rows no_span in
      fresh-accepted _ ds (marks_ok g empty (erase_stroke g ∷ []) (omega arith, tt) (empty_ok g g.rows))

module _ (g : Module) (s : State) (ds : List ℕ) (h : accepted g s ds ≡ true) where
  -- what hold gives
  pub held-accepted : (k : ℕ) → between 1 4 k ≡ true → is_defined (window_at s.windows k) ≡ true
      → accepted g (held_by s k) ds ≡ true
  unfolding held_by selectable hold_ok half_ok
  held-accepted k e d =
      let a = accepted_parts g s ds h in
      let p = parts g s a.0 in
      let f = between_facts 1 4 k e in
      let may : selectable s.windows k ≡ true = rw (ne_eqb k 0 (omega arith), le-leb k 4 f.1, d) in
      accepted_whole g _ _
      (whole g _
      (record {
        settings = p.settings;
        windows = p.windows;
        base = p.base;
        selected = may;
        hold = hold_true g s.windows k k s.selected s.settings (f.0, refl, may, p.selected, p.settings);
        half = refl;
        spans = p.spans;
      }))
      a.1 (define-nothing ds (hold_of k s.selected s.settings))

  -- what release gives, by what is held
  back_accepted : (q : Option Held) → hold_ok g s.windows s.selected q ≡ true → accepted g (put_back s q) ds ≡ true
  unfolding hold_ok half_ok
  back_accepted None e = h
  back_accepted (Some x) e =
      let a = accepted_parts g s ds h in
      let p = parts g s a.0 in
      let f = hold_facts g s.windows s.selected x.window x.selected x.settings e in
      accepted_whole g _ _
      (whole g _
      (record {
        settings = f.4;
        windows = p.windows;
        base = p.base;
        selected = f.3;
        hold = refl;
        half = refl;
        spans = p.spans;
      }))
      a.1 (define-nothing ds None)

  -- what release gives
  pub released-accepted : accepted g (released s) ds ≡ true
  unfolding released
  released-accepted = back_accepted s.hold (parts g s (accepted_parts g s ds h).0).hold

  -- what refresh gives
  pub emptied-accepted : accepted g (emptied g s) ds ≡ true
  unfolding emptied
  emptied-accepted =
      let a = accepted_parts g s ds h in
      accepted_whole g _ _
      (whole g _ (spans_parts g s (parts g s a.0) (replicate g.rows no_span) (empty_ok g g.rows))) a.1 a.2

-- ---- the calls, refused or not

module _ (g : Module) (u : Usable g) where
  -- start
  pub start_keeps : (m ds : List ℕ) → length ds ≡ store_length
      → accepted g (start_call g m ds).answer.state (start_call g m ds).store ≡ true
  unfolding start_call
  start_keeps m ds n =
      by_cond (λ (q : Starting). accepted g q.answer.state q.store ≡ true) (is_accepted (start_refusal g m))
      (λ _. started-accepted g u ds n) (λ _. initial_accepted g u ds n)

  -- feed
  pub feed_keeps : (font : List ℕ) (s : State) (ds m piece : List ℕ) → accepted g s ds ≡ true
      → accepted g (feed_call g font s ds m piece).answer.state (feed_call g font s ds m piece).store ≡ true
  unfolding feed_call
  feed_keeps font s ds m piece h =
      by_cond (λ (q : Feeding). accepted g q.answer.state q.store ≡ true) (is_accepted (feed_refusal g font s ds m))
      (λ _. run-accepted g u font (fed_nothing Accepted s ds m) piece h) (λ _. h)

module _ (g : Module) (s : State) (ds : List ℕ) (h : accepted g s ds ≡ true) where
  -- hold
  pub hold_keeps : (k : ℕ) → accepted g (hold_call g s ds k).state ds ≡ true
  unfolding hold_call
  hold_keeps k =
      by_cond (λ (q : Answer). accepted g q.state ds ≡ true) (is_accepted (hold_refusal g s ds k))
      (λ e. let f = hold_given g s ds k e in held-accepted g s ds h k f.2 f.3) (λ _. h)

  -- release
  pub release_keeps : accepted g (release_call g s ds).state ds ≡ true
  unfolding release_call
  release_keeps =
      by_cond (λ (q : Answer). accepted g q.state ds ≡ true) (is_accepted (release_refusal g s ds))
      (λ _. released-accepted g s ds h) (λ _. h)

  -- refresh
  pub refresh_keeps : (m glass : List ℕ) → accepted g (refresh_call g s ds m glass).answer.state ds ≡ true
  unfolding refresh_call
  refresh_keeps m glass =
      by_cond (λ (q : Refreshing). accepted g q.answer.state ds ≡ true) (is_accepted (refresh_refusal g s ds m glass))
      (λ _. emptied-accepted g s ds h) (λ _. h)
