-- What a run of an image's bytes owes: from a spot, a memory and a piece, the fold of its bytes. Assumes nothing.
use Rattle.std.specs.Prelude.{◌≡◌, List, ℕ, ◌<◌, ◌≤◌, length, drop}
use Rattle.paper.specs.declared.Module.{Module}
use Rattle.paper.specs.declared.Style.{Style}
use Rattle.laws_state.specs.Runs.{image, stored, image_bytes_of}
use Rattle.moves.specs.declared.Spot.{Spot}
use Rattle.images_marks.specs.declared.Filled.{Filled}

-- a run of an image's bytes from one place of a piece to another, where the piece or the image ends
pub record Stocked (g : Module) (p : Spot) (y : Style) (width height column row : ℕ) (m piece : List ℕ) (from : ℕ) (r : Filled) (m' : List ℕ) : Type 0 where
  pub some : from < r.at
  pub end : r.at ≤ length piece
  pub done : stored (image r.spans m' r.column r.row) (drop r.at piece)
      ≡ image_bytes_of g p.view y width height (image p.spans m column row) (drop from piece)
