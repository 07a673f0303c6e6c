-- `calls_hold::release` meets its contract: 8, 7 in this order. Assumes nothing.
use mathlib.Core.Path.{◌≡◌, sym, ap, ◌∙◌}
use mathlib.Core.Bool.{true}
use Rattle.paper.specs.declared.Refusal.TheVariants.{Accepted}
use Rattle.paper.specs.declared.State.{State}
use Rattle.paper.specs.Bounds.{accepted}
use Rattle.paper.specs.Calls.{answer}
use Rattle.calls_hold.proofs.Holds.{release_broken, release_free, release_accepted}
use Rattle.calls_hold.proofs.release.Goals as goal

pub returns-then-not-is_accepted : goal.returns-then-not-is_accepted
returns-then-not-is_accepted c =
    let a = c.args in
    c.answers.ensures
    ∙ release_broken a.g a.s a.store.now (sym c.is_accepted.ensures ∙ c.if-not-is_accepted.true)

pub returns-then-is_held : goal.returns-then-is_held
returns-then-is_held c =
    let ok : let a = c.args in accepted a.g a.s a.store.now ≡ true = sym c.is_accepted.ensures ∙ c.if-not-is_accepted.false in
    let a = c.args in
    c.answers-then-is_held.ensures ∙ ap (λ (t : State). answer Accepted t) c.put_back.ensures
    ∙ release_accepted a.g a.s a.store.now ok (sym c.is_held.ensures ∙ c.if-is_held.true)

pub returns : goal.returns
returns c =
    let ok : let a = c.args in accepted a.g a.s a.store.now ≡ true = sym c.is_accepted.ensures ∙ c.if-not-is_accepted.false in
    let a = c.args in
    c.answers-2.ensures
    ∙ release_free a.g a.s a.store.now ok (sym c.is_held.ensures ∙ c.if-is_held.false)
