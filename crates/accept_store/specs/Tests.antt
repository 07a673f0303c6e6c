-- Tests over all places. Assumes nothing.
use Rattle.std.specs.Prelude.{Bool, List, ℕ}
use Rattle.paper.specs.Bounds.{all_below, is_free, place_ok}

-- each of the 16 places is free
abbrev pub all_free : List ℕ → Bool
all_free ds = all_below (is_free ds) 16

-- each of the 16 places is accepted
abbrev pub places_ok : List ℕ → Bool
places_ok ds = all_below (place_ok ds) 16
