-- Feeding a piece in two is feeding it at once, refused or not: after a feed that is not refused the next is not either.
-- Assumes nothing.
use mathlib.Core.Path.{◌≡◌, refl, ap, ◌∙◌}
use mathlib.Core.Bool.{Bool, true, false}
use mathlib.Core.List.{List, ◌++◌}
use Prim.Native.Nat.{ℕ}
use lib.ListN.{length}
use Rattle.paper.specs.declared.Module.{Module}
use Rattle.paper.specs.declared.Refusal.TheVariants.{Accepted}
use Rattle.paper.specs.declared.State.{State}
use Rattle.paper.specs.Calls.{Feeding, is_accepted, feed_refusal, fed_nothing, feed_call}
use Rattle.laws_state.specs.Room.{Usable}
use Rattle.laws_state.specs.Joined.{Joined}
use Rattle.laws_state.proofs.Joined.{feed_runs, feed_joined}
use Rattle.laws_state.proofs.Refusals.{feed_given, feed_taken}
use Rattle.laws_state.proofs.Calls.{feed_keeps}
use Rattle.laws_state.proofs.Outside.{length_run}

-- a feed that is refused changes nothing
refused_feed : (g : Module) (font : List ℕ) (s : State) (ds m piece : List ℕ) → is_accepted (feed_refusal g font s ds m) ≡ false
    → feed_call g font s ds m piece ≡ fed_nothing (feed_refusal g font s ds m) s ds m
unfolding feed_call
refused_feed g font s ds m piece e = rw e

module _ (g : Module) (u : Usable g) (font : List ℕ) where
  -- after a feed that is not refused the next is not
  pub feed_again : (s : State) (ds m piece : List ℕ) → is_accepted (feed_refusal g font s ds m) ≡ true
      → let first = feed_call g font s ds m piece in
      feed_refusal g font first.answer.state first.store first.mem ≡ Accepted
  feed_again s ds m piece e =
      let f = feed_given g font s ds m e in
      let runs = feed_runs g font s ds m piece (feed_taken g font s ds m f.0 f.1 f.2) in
      feed_taken g font _ _ _
      (ap (λ (q : Feeding). length q.mem) runs ∙ length_run g font (fed_nothing Accepted s ds m) piece ∙ f.0) f.1
      (feed_keeps g u font s ds m piece f.2)

  -- feeding a and then b is feeding them joined
  pub pieces_joined : (s : State) (ds m a b : List ℕ)
      → let first = feed_call g font s ds m a in
      Joined b first (feed_call g font first.answer.state first.store first.mem b) (feed_call g font s ds m (a ++ b))
  pieces_joined s ds m a b = go (is_accepted (feed_refusal g font s ds m)) refl where
    go : (t : Bool) → is_accepted (feed_refusal g font s ds m) ≡ t
        → let first = feed_call g font s ds m a in
        Joined b first (feed_call g font first.answer.state first.store first.mem b) (feed_call g font s ds m (a ++ b))
    go true e =
        let f = feed_given g font s ds m e in
        feed_joined g font s ds m a b (feed_taken g font s ds m f.0 f.1 f.2) (feed_again s ds m a e)
    go false e =
        rw (refused_feed g font s ds m a e, refused_feed g font s ds m b e, refused_feed g font s ds m (a ++ b) e)
        (record { refusal = refl; state = refl; mem = refl; store = refl; carried = refl; answered = refl; outcome = λ l. refl })
