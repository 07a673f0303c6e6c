-- A state's bytes are written part by part, from their beginning. Assumes nothing.
use Rattle.std.specs.Prelude.{ℕ, ◌+◌, ◌≡◌, List, ◌++◌, length, take}

-- a part was put at a place: from l came r, which has the part there and before it what l had
pub record Put (at : ℕ) (l r part : List ℕ) : Type 0 where
  pub said : take (at + length part) r ≡ take at l ++ part
