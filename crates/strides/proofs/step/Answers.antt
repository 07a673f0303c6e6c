-- `strides::step` meets its contract: each of the six moves has its arm. Assumes nothing.
use mathlib.Core.Path.{◌≡◌}
use Prim.Native.Nat.{ℕ}
use lib.Dec.{eqb}
use mathlib.Core.Bool.{false}
use borrow.Author.Tests.{ne_eqb}
use Rattle.moves.proofs.Done.{spot-at, does_only}
use Rattle.strides.specs.Strides.{step_of}
use Rattle.strides.proofs.step.Goals as goal

differs : {a b : ℕ} → (a ≡ b → ⊥) → eqb a b ≡ false
differs {a} {b} h = ne_eqb a b h

pub returns-in-8 : goal.returns-in-8
unfolding step_of
returns-in-8 c =
    rw c.in-8.is (does_only _ (spot-at c.back.ensures))

pub returns-in-9 : goal.returns-in-9
unfolding step_of
returns-in-9 c =
    rw c.in-9.is c.tab.ensures

pub returns-in-10 : goal.returns-in-10
unfolding step_of
returns-in-10 c =
    rw c.in-10.is c.line_feed.ensures

pub returns-in-11 : goal.returns-in-11
unfolding step_of
returns-in-11 c =
    rw c.in-11.is (does_only _ (spot-at c.to.ensures))

pub returns-in-12 : goal.returns-in-12
unfolding step_of
returns-in-12 c =
    rw c.in-12.is c.clear.ensures

pub returns-in_default : goal.returns-in_default
unfolding step_of
returns-in_default c =
    let e = c.in_default.in_default-own.rest in
    rw (differs e.0.0.0.0.1, differs e.0.0.0.1, differs e.0.0.1, differs e.0.1, differs e.1)
    (does_only _ (spot-at c.to-in_default.ensures))
