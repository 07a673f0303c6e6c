-- What one byte adds to the counts. Assumes nothing.
use mathlib.Core.Path.{◌≡◌}
use mathlib.Core.List.{List}
use Prim.Native.Nat.{ℕ, ◌+◌, ◌≤◌}
use native.Mathlib.Omega.{arith}
use Rattle.paper.specs.declared.Module.{Module}
use Rattle.paper.specs.declared.Fed.{Fed}
use Rattle.paper.specs.declared.Outcome.{Outcome}
use Rattle.paper.specs.Numbers.{carried_by, answered_by}
use Rattle.paper.specs.Carry.{Meaning}
use Rattle.paper.specs.Calls.{feeding, counted}
use Rattle.laws_bytes.proofs.Counts.{one_at_most}
use Rattle.carry_state.specs.declared.Done.{Done}
use Rattle.carry_dots.specs.Does.{Does}
use Rattle.laws_state.specs.Told.{fed}

-- a byte adds at most one to either count
pub carried_one : (o : Outcome) → carried_by o ≤ 1
carried_one o = omega (arith, one_at_most o)

pub answered_one : (o : Outcome) → answered_by o ≤ 1
answered_one o = omega (arith, one_at_most o)

-- what a byte did, counted
pub counted_by : (g : Module) (f : Fed) (d : Done) (m m' ds ds' es : List ℕ) (t : Meaning) (c a : ℕ) → Does g m d m' t → ds' ≡ es
    → c ≡ carried_by d.outcome → a ≡ answered_by d.outcome
    → feeding f.refusal d.state (f.carried + c) (f.answered + a) d.outcome m' ds' ≡ counted g (fed f m ds) t es
counted_by g f d m m' ds ds' es t c a h x e k = rw (e, k, h.state, h.outcome, h.mem, x)
