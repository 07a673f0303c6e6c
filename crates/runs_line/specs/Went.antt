-- What some characters of a piece owe, drawn from a spot on a memory: what is left gives what the whole gives. Assumes nothing.
use Rattle.std.specs.Prelude.{◌≡◌, List, ℕ, ◌+◌, ◌-◌, ◌≤◌, length, drop}
use Rattle.paper.specs.declared.Module.{Module}
use Rattle.paper.specs.declared.Style.{Style}
use Rattle.paper.specs.Downloads.{Faces}
use Rattle.paper.specs.Strokes.{rect_at, mark_rect}
use Rattle.paper.specs.Moves.{to}
use Rattle.laws_state.specs.Runs.{Sheet, sheet, characters_of, Within}
use Rattle.moves.specs.declared.Spot.{Spot}
use Rattle.moves.specs.Does.{spot}
use Rattle.runs_line.specs.declared.Drawn.{Drawn}

-- a spot and the memory under it
abbrev pub under : Spot → List ℕ → Sheet
under p m = sheet p.view p.spans m

abbrev pub drawn_to : Spot → ℕ → Drawn
drawn_to p at = record { spot = p; at = at }

-- a spot whose line was drawn as far as the memory's column `end`, l rows high: what was drawn is marked as one rectangle
abbrev pub pen_at : Spot → ℕ → ℕ → Spot
pen_at p l end =
    spot (to p.view (end - p.view.left) p.view.y)
    (mark_rect (rect_at (p.view.left + p.view.x) (p.view.top + p.view.y) (end - p.view.left - p.view.x) l) p.spans)

-- some characters drawn, from one place of a piece to another: what is left gives what the whole gives
pub record Went (g : Module) (font : Faces) (w : ℕ) (y : Style) (p : Spot) (m piece : List ℕ) (from : ℕ) (r : Drawn) (m' : List ℕ) : Type 0 where
  pub low : from ≤ r.at
  pub high : r.at ≤ length piece
  pub size : length m' ≡ length m
  pub within : Within p.view r.spot.view
  pub done : characters_of g font w y (under r.spot m') (drop r.at piece) ≡ characters_of g font w y (under p m) (drop from piece)
