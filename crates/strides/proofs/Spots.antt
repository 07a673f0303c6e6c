-- A spot by its parts. Assumes nothing.
use mathlib.Core.Path.{◌≡◌}
use Rattle.paper.specs.declared.View.{View}
use Rattle.paper.specs.Settings.{view}
use Rattle.laws_state.specs.Runs.{Within}
use Rattle.moves.specs.declared.Spot.{Spot}
use Rattle.moves.specs.Does.{spot}

-- a spot within a range is that range with the spot's cursor and mode
pub spot_again : (v : View) (p : Spot) → Within v p.view
    → spot (view v.left v.top v.width v.height p.view.x p.view.y p.view.mode) p.spans ≡ p
spot_again v p w = rw (← w.left, ← w.top, ← w.width, ← w.height)
