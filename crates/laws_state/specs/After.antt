-- What a byte of the stream owes. Assumes nothing.
use Rattle.std.specs.Prelude.{◌≡◌, true}
use Rattle.paper.specs.declared.Module.{Module}
use Rattle.paper.specs.Bounds.{state_ok}
use Rattle.paper.specs.Cells.{memory_rect}
use Rattle.paper.specs.Carry.{Meaning}
use Rattle.laws_state.specs.Room.{AllIn}

-- a meaning whose state is accepted and whose strokes lie in memory
pub record Sound (g : Module) (t : Meaning) : Type 0 where
  pub state : state_ok g t.state ≡ true
  pub strokes : AllIn (memory_rect g) t.strokes
