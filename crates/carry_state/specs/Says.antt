-- What a command that writes nothing owes. Assumes nothing.
use Rattle.std.specs.Prelude.{◌≡◌, []}
use Rattle.paper.specs.declared.Outcome.{Outcome}
use Rattle.paper.specs.declared.State.{State}
use Rattle.paper.specs.Carry.{Meaning}
use Rattle.carry_state.specs.declared.Done.{Done}

-- the state and the outcome are the meaning's, and the meaning writes nothing
pub record Says (r : Done) (t : Meaning) : Type 0 where
  pub state : r.state ≡ t.state
  pub outcome : r.outcome ≡ t.outcome
  pub quiet : t.strokes ≡ []

-- what a command came to, by its parts
abbrev pub done : State → Outcome → Done
done s o = record { state = s; outcome = o }
