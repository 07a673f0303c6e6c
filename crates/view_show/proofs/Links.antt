-- What holds whenever `link::feed` looks for the next telegram, and how it goes on. Assumes nothing.
use mathlib.Core.Path.{◌≡◌, sym, ap, subst, ◌∙◌}
use mathlib.Core.Bool.{true, cond}
use mathlib.Core.List.{List, [], ◌∷◌}
use Prim.Native.Nat.{ℕ, ◌+◌, ◌<◌, ◌≤◌}
use native.Mathlib.Omega.{arith}
use lib.ListN.{length, drop, length-drop}
use Rattle.paper.specs.declared.Fed.{Fed}
use Rattle.paper.specs.declared.Module.{Module}
use Rattle.paper.specs.declared.Received.{Received}
use Rattle.paper.specs.declared.Refusal.TheVariants.{Accepted}
use Rattle.paper.specs.declared.State.{State}
use Rattle.paper.specs.Numbers.{refusal_number}
use Rattle.paper.specs.Carry.{byte_means}
use Rattle.paper.specs.Calls.{Feeding, is_accepted, faces_now, next, run, fed_nothing, feed_refusal, feed_call}
use Rattle.paper.specs.Telegrams.{data_of, receive_call}
use Rattle.laws_bytes.proofs.Counts.{one_at_most}
use Rattle.laws_bytes.proofs.Tests.{by_test}
use Rattle.laws_state.specs.Told.{fed}
use Rattle.laws_telegrams.specs.Places.{Lies}
use Rattle.laws_telegrams.proofs.Places.{receive_answers, lies_at}
use Rattle.telegrams.specs.declared.Telegram.{Telegram}
use Rattle.telegrams.specs.Found.{accepted}

-- ---- each byte counts once at most

abbrev counts : Feeding → ℕ
counts f = f.answer.carried + f.answer.answered

run-counts : (g : Module) (font : List ℕ) (f : Feeding) (bs : List ℕ) → counts (run g font f bs) ≤ counts f + length bs
unfolding next
run-counts g font f [] = omega arith
run-counts g font f (b ∷ bs) =
    omega (arith, run-counts g font (next g font f b) bs, one_at_most (byte_means g (faces_now font f) f.answer.state b).outcome)

feed_counts : (g : Module) (font : List ℕ) (s : State) (ds m piece : List ℕ) → counts (feed_call g font s ds m piece) ≤ length piece
unfolding feed_call
feed_counts g font s ds m piece =
    by_test (λ t. counts (cond t (run g font (fed_nothing Accepted s ds m) piece) (fed_nothing (feed_refusal g font s ds m) s ds m)) ≤ length piece)
    (is_accepted (feed_refusal g font s ds m)) (λ _. omega (arith, run-counts g font (fed_nothing Accepted s ds m) piece)) (λ _. omega arith)

-- ---- the loop

-- as many telegrams and commands as bytes at most
pub record Goes (link : List ℕ) (telegrams carried answered at : ℕ) : Type 0 where
  pub inside : at ≤ length link
  pub many : telegrams ≤ at
  pub counted : carried + answered ≤ at

-- the telegram: its data lie in the rest, it is longer than they are, and the place after it lies in the link
pub record Ahead (link : List ℕ) (at : ℕ) (t : Received) : Type 0 where
  pub inside : t.first + t.count ≤ length (drop at link)
  pub longer : t.count < t.after
  pub after : at + t.after ≤ length link
  pub as_many : length (data_of (drop at link) t) ≡ t.count

-- what a call has found lies in what it was given
found_lies : (piece : List ℕ) (address : ℕ) (t : Telegram) → accepted t ≡ receive_call piece address → Lies piece (accepted t)
unfolding refusal_number
found_lies piece address t e =
    let f = (receive_answers piece address).found (ap (λ (f : Received). refusal_number f.refusal) (sym e)) in
    subst (Lies piece) (sym (e ∙ f.is_found)) (lies_at piece f.place f.stands.is_good)

pub ahead : (address : ℕ) (link : List ℕ) (at : ℕ) (t : Telegram) → at ≤ length link → accepted t ≡ receive_call (drop at link) address
    → Ahead link at (accepted t)
ahead address link at t i e =
    let l = found_lies (drop at link) address t e in
    let n = length-drop at link in
    record {
      inside = omega (arith, l.after, l.inside);
      longer = omega (arith, l.after);
      after = omega (arith, l.inside, n, i);
      as_many = l.as_many;
    }

-- what its feed counts
pub few : (g : Module) (font : List ℕ) (s : State) (ds m piece : List ℕ) {ds₁ m₁ link : List ℕ} {at : ℕ} {f : Fed} {t : Received}
    → fed f m₁ ds₁ ≡ feed_call g font s ds m piece → piece ≡ data_of (drop at link) t → Ahead link at t → f.carried + f.answered ≤ t.count
few g font s ds m piece e p a =
    let c = feed_counts g font s ds m piece in
    let n = ap length p ∙ a.as_many in
    omega (arith, c, n, ap counts e)
