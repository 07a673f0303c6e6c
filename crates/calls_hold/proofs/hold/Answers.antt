-- `calls_hold::hold` meets its contract: 8, 6, 4, 5 in this order. Assumes nothing.
use borrow.Author.Rules.{rules}
use mathlib.Core.Path.{◌≡◌, sym, ap, ◌∙◌}
use mathlib.Core.Bool.{true, false}
use native.Mathlib.Omega.{arith}
use Rattle.paper.specs.declared.Refusal.TheVariants.{Accepted}
use Rattle.paper.specs.declared.State.{State}
use Rattle.paper.specs.Reading.{between}
use Rattle.paper.specs.Bounds.{accepted}
use Rattle.paper.specs.Carry.{is_held}
use Rattle.paper.specs.Calls.{answer}
use Rattle.laws_bytes.proofs.Tests.{between_facts}
use Rattle.calls_hold.proofs.Holds.{hold_broken, hold_held, hold_number_lem, hold_undefined, hold_accepted}
use Rattle.calls_hold.proofs.hold.Goals as goal
use Rattle.calls_hold.proofs.hold.Goals.{Else-not-is_accepted, Else-is_held, Else-not-contains}

-- ---- what the tests say, each where it has let through

ok : (c : Else-not-is_accepted) → let a = c.args in accepted a.g a.s a.store.now ≡ true
ok c =
    sym c.is_accepted.ensures ∙ c.if-not-is_accepted.false

free : (c : Else-is_held) → is_held c.args.s.hold ≡ false
free c =
    sym c.is_held.ensures ∙ c.if-is_held.false

one : (c : Else-not-contains) → between 1 4 c.args.k ≡ true
one c =
    let inside : c.contains.result ≡ between 1 4 c.args.k = search rules in sym inside ∙ c.if-not-contains.false

-- ---- what each way gives

pub returns-then-not-is_accepted : goal.returns-then-not-is_accepted
returns-then-not-is_accepted c =
    let a = c.args in
    c.answers.ensures
    ∙ hold_broken a.g a.s a.store.now a.k (sym c.is_accepted.ensures ∙ c.if-not-is_accepted.true)

pub returns-then-is_held : goal.returns-then-is_held
returns-then-is_held c =
    let a = c.args in
    c.answers-then-is_held.ensures
    ∙ hold_held a.g a.s a.store.now a.k (ok (goal.at.returns-then-is_held c).Else-not-is_accepted) (sym c.is_held.ensures ∙ c.if-is_held.true)

pub returns-then-not-contains : goal.returns-then-not-contains
returns-then-not-contains c =
    let a = c.args in
    let p = goal.at.returns-then-not-contains c in
    let inside : c.contains.result ≡ between 1 4 a.k = search rules in
    c.answers-then-not-contains.ensures
    ∙ hold_number_lem a.g a.s a.store.now a.k (ok p.Else-not-is_accepted) (free p.Else-is_held) (sym inside ∙ c.if-not-contains.true)

pub is_defined-requires : goal.is_defined-requires
is_defined-requires c =
    between_facts 1 4 c.args.k (one (goal.at.is_defined-requires c).Else-not-contains)

pub overflow_cast-k : goal.overflow_cast-k
overflow_cast-k c =
    omega (arith, between_facts 1 4 c.args.k (one (goal.at.overflow_cast-k c).Else-not-contains))

pub returns-then-is_defined : goal.returns-then-is_defined
returns-then-is_defined c =
    let a = c.args in
    let p = goal.at.returns-then-is_defined c in
    c.answers-then-is_defined.ensures ∙ ap (λ (t : State). answer Accepted t) c.held_by.ensures
    ∙ hold_accepted a.g a.s a.store.now a.k (ok p.Else-not-is_accepted) (free p.Else-is_held) (one p.Else-not-contains)
    (sym c.is_defined.ensures ∙ c.if-is_defined.true)

pub returns : goal.returns
returns c =
    let a = c.args in
    let p = goal.at.returns c in
    c.answers-2.ensures
    ∙ hold_undefined a.g a.s a.store.now a.k (ok p.Else-not-is_accepted) (free p.Else-is_held) (one p.Else-not-contains)
    (sym c.is_defined.ensures ∙ c.if-is_defined.false)
