-- Feeding two pieces is feeding them joined, counts summed. Assumes nothing.
use mathlib.Core.Path.{◌≡◌, refl, ap, ap₂}
use mathlib.Core.List.{List, [], ◌∷◌, ◌++◌}
use Prim.Native.Nat.{ℕ, ◌+◌, ◌<◌}
use native.Mathlib.Omega.{arith}
use lib.ListN.{length}
use Rattle.paper.specs.declared.Module.{Module}
use Rattle.paper.specs.declared.Refusal.TheVariants.{Accepted}
use Rattle.paper.specs.declared.State.{State}
use Rattle.paper.specs.Downloads.{faces}
use Rattle.paper.specs.Strokes.{apply_all}
use Rattle.paper.specs.Numbers.{refusal_number, carried_by, answered_by}
use Rattle.paper.specs.Carry.{Meaning, byte_means, byte_store}
use Rattle.paper.specs.Calls.{Feeding, is_accepted, feed_refusal, faces_now, next, run, fed_nothing, feed_call, settled}
use Rattle.laws_state.specs.Joined.{Joined}

module _ (g : Module) (font : List ℕ) where
  -- running over two pieces joined is running over the second after the first
  pub run-append : (f : Feeding) (a b : List ℕ) → run g font f (a ++ b) ≡ run g font (run g font f a) b
  run-append f [] b = refl
  run-append f (x ∷ a) b = run-append (next g font f x) a b

  -- an accepted feed runs over its piece
  pub feed_runs : (s : State) (ds m piece : List ℕ) → feed_refusal g font s ds m ≡ Accepted
      → feed_call g font s ds m piece ≡ run g font (fed_nothing Accepted s ds m) piece
  unfolding feed_call is_accepted refusal_number
  feed_runs s ds m piece e = rw e

  -- no byte has a feed refused
  pub run_refusal : (f : Feeding) (bs : List ℕ) → (run g font f bs).answer.refusal ≡ f.answer.refusal
  unfolding next
  run_refusal f [] = refl
  run_refusal f (b ∷ bs) = run_refusal (next g font f b) bs

  -- what a byte means to a feed
  abbrev meant : Feeding → ℕ → Meaning
  meant f b = byte_means g (faces_now font f) f.answer.state b

  -- a feed that is c and a ahead of another in its counts, and like it in all else but the last outcome
  record Ahead (c a : ℕ) (f h : Feeding) : Type 0 where
    refusal : h.answer.refusal ≡ f.answer.refusal
    state : h.answer.state ≡ f.answer.state
    mem : h.mem ≡ f.mem
    store : h.store ≡ f.store
    carried : h.answer.carried ≡ c + f.answer.carried
    answered : h.answer.answered ≡ a + f.answer.answered

  module _ (c a : ℕ) where
    -- a byte keeps it so
    next_ahead : (f h : Feeding) (b : ℕ) → Ahead c a f h → Ahead c a (next g font f b) (next g font h b)
    unfolding next
    next_ahead f h b p =
        let alike : meant h b ≡ meant f b = ap₂ (λ (s : State) (ds : List ℕ). byte_means g (faces font ds) s b) p.state p.store in
        record {
          refusal = p.refusal;
          state = ap settled alike;
          mem = ap₂ (λ (m : List ℕ) (t : Meaning). apply_all g m t.strokes) p.mem alike;
          store = ap₂ (λ (s : State) (ds : List ℕ). byte_store g (faces font ds) s b) p.state p.store;
          carried = omega (arith, p.carried, ap (λ (t : Meaning). carried_by t.outcome) alike);
          answered = omega (arith, p.answered, ap (λ (t : Meaning). answered_by t.outcome) alike);
        }

    -- and so does a piece
    run_ahead : (f h : Feeding) (bs : List ℕ) → Ahead c a f h → Ahead c a (run g font f bs) (run g font h bs)
    run_ahead f h [] p = p
    run_ahead f h (b ∷ bs) p = run_ahead (next g font f b) (next g font h b) bs (next_ahead f h b p)

    -- a byte has the same outcome in both
    next_outcome : (f h : Feeding) (b : ℕ) → Ahead c a f h
        → (next g font h b).answer.outcome ≡ (next g font f b).answer.outcome
    unfolding next
    next_outcome f h b p = ap₂ (λ (s : State) (ds : List ℕ). (byte_means g (faces font ds) s b).outcome) p.state p.store

    -- so has a piece that follows equal outcomes
    run_outcome : (f h : Feeding) (bs : List ℕ) → Ahead c a f h → h.answer.outcome ≡ f.answer.outcome
        → (run g font h bs).answer.outcome ≡ (run g font f bs).answer.outcome
    run_outcome f h [] p e = e
    run_outcome f h (b ∷ bs) p e =
        run_outcome (next g font f b) (next g font h b) bs (next_ahead f h b p) (next_outcome f h b p)

    -- and any piece that has a byte
    last_outcome : (f h : Feeding) (bs : List ℕ) → Ahead c a f h → 0 < length bs
        → (run g font h bs).answer.outcome ≡ (run g font f bs).answer.outcome
    last_outcome f h [] p l = absurd (omega arith)
    last_outcome f h (b ∷ bs) p l =
        run_outcome (next g font f b) (next g font h b) bs (next_ahead f h b p) (next_outcome f h b p)

  -- running over the second piece with the counts anew
  run-joined : (s : State) (ds m a b : List ℕ)
      → let first = run g font (fed_nothing Accepted s ds m) a in
      Joined b first (run g font (fed_nothing Accepted first.answer.state first.store first.mem) b)
      (run g font (fed_nothing Accepted s ds m) (a ++ b))
  run-joined s ds m a b =
      let first = run g font (fed_nothing Accepted s ds m) a in
      let anew = fed_nothing Accepted first.answer.state first.store first.mem in
      let c = first.answer.carried in
      let n = first.answer.answered in
      let start : Ahead c n anew first = record {
        refusal = run_refusal (fed_nothing Accepted s ds m) a;
        state = refl;
        mem = refl;
        store = refl;
        carried = omega arith;
        answered = omega arith;
      } in
      let p = run_ahead c n anew first b start in
      rw run-append
      (record {
        refusal = p.refusal;
        state = p.state;
        mem = p.mem;
        store = p.store;
        carried = p.carried;
        answered = p.answered;
        outcome = last_outcome c n anew first b start;
      })

  -- feeding a and then b, neither refused, is feeding them joined
  pub feed_joined : (s : State) (ds m a b : List ℕ) → feed_refusal g font s ds m ≡ Accepted
      → let first = feed_call g font s ds m a in
      feed_refusal g font first.answer.state first.store first.mem ≡ Accepted
      → Joined b first (feed_call g font first.answer.state first.store first.mem b) (feed_call g font s ds m (a ++ b))
  feed_joined s ds m a b e h =
      rw (feed_runs _ _ _ b h, feed_runs s ds m a e, feed_runs s ds m (a ++ b) e) (run-joined s ds m a b)
