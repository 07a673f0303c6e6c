-- Which places the check bytes are asked of. Assumes nothing.
use Rattle.std.specs.Prelude.{ℕ, ◌<◌, ◌≤◌, ◌≡◌, true, false, List, length}
use Rattle.paper.specs.Telegrams.{framed}

-- r is the first place from p on at which all but the check byte is a telegram's, or one past the end
pub record Frames (piece : List ℕ) (p r : ℕ) : Type 0 where
  pub from : p ≤ r
  pub before : (q : ℕ) → p ≤ q → q < r → (q < length piece) × (framed piece q ≡ false)
  pub there : r < length piece → framed piece r ≡ true
