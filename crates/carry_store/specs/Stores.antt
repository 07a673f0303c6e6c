-- What a command, and what a byte was read as, owe where they write no memory and may change the downloads. Assumes nothing.
use Rattle.std.specs.Prelude.{◌≡◌, List, ℕ}
use Rattle.paper.specs.declared.Module.{Module}
use Rattle.paper.specs.declared.State.{State}
use Rattle.paper.specs.declared.Command.{Command}
use Rattle.paper.specs.declared.Reading.{Reading}
use Rattle.paper.specs.Downloads.{Faces}
use Rattle.paper.specs.Carry.{command_of, take_of, command_store, take_store}
use Rattle.carry_state.specs.declared.Done.{Done}
use Rattle.carry_state.specs.Says.{Says}

-- a command: its meaning, which writes nothing, and the downloads that it leaves
pub record StoresCommand (g : Module) (f : Faces) (s : State) (c : Command) (r : Done) (ds : List ℕ) : Type 0 where
  pub says : Says r (command_of g f s c)
  pub store : ds ≡ command_store g f s c

-- what a byte was read as
pub record StoresReading (g : Module) (f : Faces) (s : State) (q : Reading) (r : Done) (ds : List ℕ) : Type 0 where
  pub says : Says r (take_of g f s q)
  pub store : ds ≡ take_store g f s q
