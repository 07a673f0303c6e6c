-- What a run of characters owes: from a spot, a memory and a piece, the fold of its bytes. Assumes nothing.
use Rattle.std.specs.Prelude.{◌≡◌, List, ℕ, ◌<◌, ◌≤◌, length, drop}
use Rattle.paper.specs.declared.Module.{Module}
use Rattle.paper.specs.declared.Style.{Style}
use Rattle.paper.specs.Downloads.{Faces}
use Rattle.laws_state.specs.Runs.{written, characters_of, Within}
use Rattle.moves.specs.declared.Spot.{Spot}
use Rattle.runs_line.specs.declared.Drawn.{Drawn}
use Rattle.runs_line.specs.Went.{under}

-- a run of characters from one place of a piece to another, where the piece ends or a byte is none
pub record Ran (g : Module) (font : Faces) (w : ℕ) (y : Style) (p : Spot) (m piece : List ℕ) (from : ℕ) (r : Drawn) (m' : List ℕ) : Type 0 where
  pub some : from < r.at
  pub end : r.at ≤ length piece
  pub within : Within p.view r.spot.view
  pub done : written (under r.spot m') (drop r.at piece) ≡ characters_of g font w y (under p m) (drop from piece)
