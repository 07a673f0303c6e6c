-- A state with as many windows and spans as there are. Assumes nothing.
use Rattle.std.specs.Prelude.{◌≡◌, length}
use Rattle.paper.specs.declared.Module.{Module}
use Rattle.paper.specs.declared.State.{State}

-- four user windows, and a span for each row
pub record Sized (g : Module) (s : State) : Type 0 where
  pub windows : length s.windows ≡ 4
  pub spans : length s.spans ≡ g.rows
