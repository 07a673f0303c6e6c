-- Demand 2, what is fed: one byte, and a piece as the fold of its bytes. Assumes nothing.
use mathlib.Core.Path.{◌≡◌, refl, sym, ap, ap₂, subst, ◌∙◌}
use mathlib.Core.Bool.{true}
use mathlib.Core.List.{List, [], ◌∷◌}
use Prim.Native.Nat.{ℕ, ◌≤◌}
use native.Mathlib.Nat.{zero-add}
use lib.ListN.{length}
use Rattle.paper.specs.declared.Module.{Module}
use Rattle.paper.specs.declared.Refusal.TheVariants.{Accepted}
use Rattle.paper.specs.declared.Outcome.{Outcome}
use Rattle.paper.specs.declared.State.{State}
use Rattle.paper.specs.Panel.{memory_length, font_length}
use Rattle.paper.specs.Downloads.{faces}
use Rattle.paper.specs.Strokes.{Stroke, apply_all, mark_all}
use Rattle.paper.specs.Numbers.{refusal_number, outcome_number, carried_by, answered_by}
use Rattle.paper.specs.Settings.{with_spans}
use Rattle.paper.specs.Bounds.{accepted}
use Rattle.paper.specs.Carry.{byte_means, byte_store}
use Rattle.paper.specs.Calls.{Feeding, feed_refusal, faces_now, next, run, fed_nothing, feed_call}
use Rattle.laws_bytes.proofs.Counts.{counts_as}
use Rattle.laws_state.specs.Room.{Usable}
use Rattle.laws_state.proofs.Records.{run-accepted}
use Rattle.laws_state.proofs.Refusals.{feed_taken}
use Rattle.laws_state.proofs.Outside.{length_run}
use Rattle.laws_state.proofs.Joined.{feed_runs, run_refusal}
use Rattle.demands.specs.Demands.{ByteFed, OnlyAnswered, fed_once, fed_singly, PieceFed}
use Rattle.demands.proofs.Outcomes.{byte-answers}

module _ (g : Module) (font : List ℕ) where
  module _ (s : State) (ds m : List ℕ) (taken : feed_refusal g font s ds m ≡ Accepted) where
    -- one byte
    pub byte-fed : (b : ℕ)
        → let f = faces font ds in ByteFed g m (byte_means g f s b) (byte_store g f s b) (feed_call g font s ds m (b ∷ []))
    unfolding next refusal_number
    byte-fed b =
        let t = byte_means g (faces font ds) s b in
        rw (feed_runs g font s ds m (b ∷ []) taken)
        (record {
          refusal = refl;
          outcome = refl;
          mem = refl;
          state = refl;
          downloads = refl;
          carried = zero-add (carried_by t.outcome);
          answered = zero-add (answered_by t.outcome);
        })

    -- one that is answered 11 to 19
    pub byte_answered : (b : ℕ) → 11 ≤ outcome_number (feed_call g font s ds m (b ∷ [])).answer.outcome
        → OnlyAnswered s ds m (feed_call g font s ds m (b ∷ []))
    byte_answered b l =
        let f = byte-fed b in
        let t = byte_means g (faces font ds) s b in
        let high = subst (λ (o : Outcome). 11 ≤ outcome_number o) f.outcome l in
        let a = byte-answers g (faces font ds) s b in
        let same = a.unchanged high in
        let counts = counts_as t.outcome high in
        record {
          mem = f.mem ∙ ap (λ (ss : List Stroke). apply_all g m ss) same.1;
          state = f.state ∙ ap₂ (λ (q : State) (ss : List Stroke). with_spans q (mark_all q.spans ss)) same.0 same.1;
          downloads = λ n. f.downloads ∙ a.untouched high (λ e. n (ap outcome_number f.outcome ∙ e));
          carried = f.carried ∙ counts.0;
          answered = f.answered ∙ counts.1;
        }

  -- one byte more, fed by itself
  once : (f : Feeding) (b : ℕ) → f.answer.refusal ≡ Accepted → feed_refusal g font f.answer.state f.store f.mem ≡ Accepted
      → fed_once g font f b ≡ next g font f b
  unfolding next
  once f b e taken =
      let t = byte_means g (faces_now font f) f.answer.state b in
      rw (
        feed_runs g font f.answer.state f.store f.mem (b ∷ []) taken,
        zero-add (carried_by t.outcome),
        zero-add (answered_by t.outcome),
        e,
      )

  -- every byte of a piece
  singly : Usable g → (f : Feeding) (bs : List ℕ) → f.answer.refusal ≡ Accepted → length f.mem ≡ memory_length g
      → length font ≡ font_length g → accepted g f.answer.state f.store ≡ true → run g font f bs ≡ fed_singly g font f bs
  singly u f [] e l k h = refl
  singly u f (b ∷ bs) e l k h =
      let taken = feed_taken g font f.answer.state f.store f.mem l k h in
      singly u (next g font f b) bs (run_refusal g font f (b ∷ []) ∙ e) (length_run g font f (b ∷ []) ∙ l) k
      (run-accepted g u font f (b ∷ []) h)
      ∙ sym (ap (λ (q : Feeding). fed_singly g font q bs) (once f b e taken))

  -- the piece
  pub piece_fed : Usable g → (s : State) (ds m bytes : List ℕ) → length m ≡ memory_length g → length font ≡ font_length g
      → accepted g s ds ≡ true → PieceFed g font s ds m bytes
  piece_fed u s ds m bytes l k h =
      let runs = feed_runs g font s ds m bytes (feed_taken g font s ds m l k h) in
      record { folded = runs; singly = runs ∙ singly u (fed_nothing Accepted s ds m) bytes refl l k h }
