-- Until a refresh spans only grow: a column that a row's span holds is held after any bytes. Assumes nothing.
use mathlib.Core.Path.{◌≡◌}
use mathlib.Core.Bool.{true}
use mathlib.Core.List.{List, [], ◌∷◌}
use Prim.Native.Nat.{ℕ}
use lib.ListN.{get_or}
use Rattle.paper.specs.declared.Module.{Module}
use Rattle.paper.specs.declared.Refusal.TheVariants.{Accepted}
use Rattle.paper.specs.declared.State.{State}
use Rattle.paper.specs.Downloads.{Faces}
use Rattle.paper.specs.Strokes.{no_span, span_holds}
use Rattle.paper.specs.Carry.{byte_means}
use Rattle.paper.specs.Calls.{is_accepted, feed_refusal, Feeding, faces_now, next, run, fed_nothing, feed_call, settled}
use Rattle.laws_state.proofs.Tests.{by_cond}
use Rattle.laws_state.proofs.Marks.{marks_hold}
use Rattle.laws_state.proofs.Sized.{byte_spans}

module _ (g : Module) where
  -- a column that row r's span holds is held after a byte
  pub byte-holds : (font : Faces) (s : State) (b r x : ℕ) → span_holds (get_or s.spans r no_span) x ≡ true
      → span_holds (get_or (settled (byte_means g font s b)).spans r no_span) x ≡ true
  byte-holds font s b r x h =
      let t = byte_means g font s b in
      marks_hold t.state.spans t.strokes r x (rw (byte_spans g font s b) h)

  -- and after a piece
  pub run_holds : (font : List ℕ) (f : Feeding) (bs : List ℕ) (r x : ℕ) → span_holds (get_or f.answer.state.spans r no_span) x ≡ true
      → span_holds (get_or (run g font f bs).answer.state.spans r no_span) x ≡ true
  unfolding next
  run_holds font f [] r x h = h
  run_holds font f (b ∷ bs) r x h =
      run_holds font (next g font f b) bs r x (byte-holds (faces_now font f) f.answer.state b r x h)

  -- and after a feed, refused or not
  pub feed_holds : (font : List ℕ) (s : State) (ds m piece : List ℕ) (r x : ℕ) → span_holds (get_or s.spans r no_span) x ≡ true
      → span_holds (get_or (feed_call g font s ds m piece).answer.state.spans r no_span) x ≡ true
  unfolding feed_call
  feed_holds font s ds m piece r x h =
      by_cond (λ (q : Feeding). span_holds (get_or q.answer.state.spans r no_span) x ≡ true)
      (is_accepted (feed_refusal g font s ds m)) (λ _. run_holds font (fed_nothing Accepted s ds m) piece r x h) (λ _. h)
