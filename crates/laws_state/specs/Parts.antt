-- An accepted state, one equation for each bound that number 8 tests. Assumes nothing.
use Rattle.std.specs.Prelude.{◌≡◌, true}
use Rattle.paper.specs.declared.Module.{Module}
use Rattle.paper.specs.declared.State.{State}
use Rattle.paper.specs.Settings.{selectable}
use Rattle.paper.specs.Bounds.{settings_ok, cursor_ok, windows_ok, hold_ok, spans_ok, half_ok}

-- the conjuncts of `stateOk`
pub record Parts (g : Module) (s : State) : Type 0 where
  pub settings : settings_ok g s.settings ≡ true
  pub windows : windows_ok g s.windows ≡ true
  pub base : cursor_ok g.columns g.rows s.base ≡ true
  pub selected : selectable s.windows s.selected ≡ true
  pub hold : hold_ok g s.windows s.selected s.hold ≡ true
  pub half : half_ok g s.half ≡ true
  pub spans : spans_ok g s.spans ≡ true
