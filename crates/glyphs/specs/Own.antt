-- The columns of a code's download alone. Assumes nothing.
use Rattle.std.specs.Prelude.{cond, List, [], ℕ}
use Rattle.paper.specs.Downloads.{place, is_stored, own_glyph}

-- the download's where the code is stored, else none
unfoldable pub own_columns : List ℕ → ℕ → List ℕ
own_columns ds code = cond (is_stored ds code) (own_glyph ds (place ds code)) []
