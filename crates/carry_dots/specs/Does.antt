-- What carrying out owes: it did what the paper's meaning says. Assumes nothing.
use Rattle.std.specs.Prelude.{◌≡◌, true, List, ℕ}
use Rattle.paper.specs.declared.Module.{Module}
use Rattle.paper.specs.declared.State.{State}
use Rattle.paper.specs.Strokes.{apply_all}
use Rattle.paper.specs.Bounds.{state_ok}
use Rattle.paper.specs.Carry.{Meaning}
use Rattle.paper.specs.Calls.{settled}
use Rattle.laws_memory.specs.Rectangles.{Fits}
use Rattle.laws_state.specs.Room.{Usable}
use Rattle.carry_state.specs.declared.Done.{Done}

-- an accepted state and its memory, on a panel that code can count and whose rows are the state's spans
pub record Ready (g : Module) (s : State) (m : List ℕ) : Type 0 where
  pub usable : Usable g
  pub two_rows : g.rows ≡ 2
  pub state_is_ok : state_ok g s ≡ true
  pub fits : Fits g m

-- from a memory: the state that the meaning leaves, its outcome, and the memory that its strokes leave
pub record Does (g : Module) (m : List ℕ) (r : Done) (m' : List ℕ) (t : Meaning) : Type 0 where
  pub state : r.state ≡ settled t
  pub outcome : r.outcome ≡ t.outcome
  pub mem : m' ≡ apply_all g m t.strokes
