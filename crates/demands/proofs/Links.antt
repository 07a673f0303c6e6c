-- Order 4: what is fed of a link. Assumes nothing.
use mathlib.Core.Path.{◌≡◌, refl, sym, ap, ap₂, ◌∙◌}
use mathlib.Core.List.{List, [], ◌∷◌, ◌++◌, append-nil, append_assoc}
use mathlib.Core.Logic.{inl, inr}
use Prim.Native.Nat.{ℕ, ◌+◌, ◌<◌}
use lib.ListN.{length}
use Rattle.paper.specs.declared.Module.{Module}
use Rattle.paper.specs.declared.Outcome.{Outcome}
use Rattle.paper.specs.declared.Received.{Received}
use Rattle.paper.specs.declared.Refusal.{Refusal}
use Rattle.paper.specs.declared.State.{State}
use Rattle.paper.specs.Calls.{Feeding, feeding, feed_call}
use Rattle.paper.specs.Telegrams.{data_of}
use Rattle.laws_state.specs.Joined.{Joined}
use Rattle.laws_state.specs.Room.{Usable}
use Rattle.laws_state.proofs.Pieces.{pieces_joined}
use Rattle.laws_telegrams.specs.Places.{Among, read_all, joined}
use Rattle.laws_telegrams.proofs.Onward.{data_some}
use Rattle.demands.specs.Links.{fed_more, fed_each, LinkFed}

-- what feeding on gives is what feeding the joined bytes gives, field by field
same-feeding : {last : List ℕ} {f h j : Feeding} → Joined last f h j → 0 < length last
    → feeding h.answer.refusal h.answer.state (f.answer.carried + h.answer.carried) (f.answer.answered + h.answer.answered)
    h.answer.outcome h.mem h.store ≡ j
same-feeding {f = f} {h = h} {j = j} w l =
    sym (ap (λ (r : Refusal). feeding r j.answer.state j.answer.carried j.answer.answered j.answer.outcome j.mem j.store) w.refusal
    ∙ ap (λ (s : State). feeding h.answer.refusal s j.answer.carried j.answer.answered j.answer.outcome j.mem j.store) w.state
    ∙ ap₂ (λ (c a : ℕ). feeding h.answer.refusal h.answer.state c a j.answer.outcome j.mem j.store) w.carried w.answered
    ∙ ap (λ (o : Outcome). feeding h.answer.refusal h.answer.state (f.answer.carried + h.answer.carried) (f.answer.answered + h.answer.answered) o j.mem j.store) (w.outcome l)
    ∙ ap₂ (λ (m ds : List ℕ). feeding h.answer.refusal h.answer.state (f.answer.carried + h.answer.carried) (f.answer.answered + h.answer.answered) h.answer.outcome m ds) w.mem w.store)

module _ (g : Module) (u : Usable g) (font : List ℕ) (s : State) (ds m : List ℕ) where
  -- telegrams that follow bytes a, each with some data
  each-joined : (a link : List ℕ) (ts : List Received) → ((t : Received) → Among t ts → 0 < length (data_of link t))
      → fed_each g font (feed_call g font s ds m a) link ts ≡ feed_call g font s ds m (a ++ joined link ts)
  each-joined a link [] some = ap (feed_call g font s ds m) (sym (append-nil a))
  each-joined a link (t ∷ ts) some =
      let more : fed_more g font (feed_call g font s ds m a) (data_of link t) ≡ feed_call g font s ds m (a ++ data_of link t) =
      same-feeding (pieces_joined g u font s ds m a (data_of link t)) (some t (inl refl))
      in
      ap (λ (f : Feeding). fed_each g font f link ts) more
      ∙ each-joined (a ++ data_of link t) link ts (λ x i. some x (inr i))
      ∙ ap (feed_call g font s ds m) (append_assoc a (data_of link t) (joined link ts))

  pub link_fed : (address : ℕ) → LinkFed g font s ds m address
  link_fed address =
      record {
        alike = λ piece r b answer after h e. ap (feed_call g font s ds m) (h.own.bytes ∙ sym e);
        link = λ bytes. each-joined [] bytes (read_all address bytes) (data_some address bytes);
      }
