-- A refused call leaves the state, and a refused feed the downloads too. Assumes nothing.
use Prim.Native.Nat.{ℕ}
use mathlib.Core.Path.{◌≡◌, refl}
use mathlib.Core.Bool.{false, true≢false}
use mathlib.Core.List.{List}
use Rattle.paper.specs.declared.Answer.{Answer}
use Rattle.paper.specs.declared.Module.{Module}
use Rattle.paper.specs.declared.Refusal.{Refusal}
use Rattle.paper.specs.declared.Refusal.TheVariants.{Accepted}
use Rattle.paper.specs.declared.State.{State}
use Rattle.paper.specs.Numbers.{refusal_number}
use Rattle.paper.specs.Calls.{is_accepted, Feeding, fed_nothing, feed_refusal, feed_call, hold_refusal, hold_call, release_refusal, release_call, Refreshing, refresh_refusal, refresh_call}
use Rattle.laws_state.proofs.Joined.{run_refusal}
use Rattle.laws_state.proofs.Tests.{by_cond}

-- where a call is refused with r, what it gives for a is a
abbrev pub Left : {A : Type 0} → A → Refusal → A → Type 0
Left a r b = is_accepted r ≡ false → b ≡ a

-- there is nothing to say of a call that is accepted
taken : {A : Type 0} (a b : A) → Left a Accepted b
unfolding is_accepted refusal_number
taken a b e = absurd (true≢false e)

module _ (g : Module) (s : State) (ds : List ℕ) where
  module _ (font m piece : List ℕ) where
    pub feed_left : Left s (feed_call g font s ds m piece).answer.refusal (feed_call g font s ds m piece).answer.state
    unfolding feed_call
    feed_left =
        by_cond (λ (q : Feeding). Left s q.answer.refusal q.answer.state) (is_accepted (feed_refusal g font s ds m))
        (λ _. rw (run_refusal g font (fed_nothing Accepted s ds m) piece) (taken s _))
        (λ _ _. refl)

    pub feed_store_left : Left ds (feed_call g font s ds m piece).answer.refusal (feed_call g font s ds m piece).store
    unfolding feed_call
    feed_store_left =
        by_cond (λ (q : Feeding). Left ds q.answer.refusal q.store) (is_accepted (feed_refusal g font s ds m))
        (λ _. rw (run_refusal g font (fed_nothing Accepted s ds m) piece) (taken ds _))
        (λ _ _. refl)

  pub hold_left : (k : ℕ) → Left s (hold_call g s ds k).refusal (hold_call g s ds k).state
  unfolding hold_call
  hold_left k =
      by_cond (λ (q : Answer). Left s q.refusal q.state) (is_accepted (hold_refusal g s ds k)) (λ _. taken s _) (λ _ _. refl)

  pub release_left : Left s (release_call g s ds).refusal (release_call g s ds).state
  unfolding release_call
  release_left =
      by_cond (λ (q : Answer). Left s q.refusal q.state) (is_accepted (release_refusal g s ds)) (λ _. taken s _) (λ _ _. refl)

  pub refresh_left : (m glass : List ℕ)
      → Left s (refresh_call g s ds m glass).answer.refusal (refresh_call g s ds m glass).answer.state
  unfolding refresh_call
  refresh_left m glass =
      by_cond (λ (q : Refreshing). Left s q.answer.refusal q.answer.state) (is_accepted (refresh_refusal g s ds m glass))
      (λ _. taken s _)
      (λ _ _. refl)
