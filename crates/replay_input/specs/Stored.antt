-- Numbers among the stored bytes (docs/SCRIPTS.md, "Calls as bytes"). Past the end stand zeros. Assumes nothing.
use Rattle.std.specs.Prelude.{ℕ, ◌+◌, ◌*◌, ◌==◌, cond, List, drop, get_or}

-- four bytes, low byte first
abbrev pub four_at : List ℕ → ℕ
four_at b = get_or b 0 0 + 256 * get_or b 1 0 + 65536 * get_or b 2 0 + 16777216 * get_or b 3 0

-- a number: one byte below 255, or 255 and four bytes
abbrev pub number_at : List ℕ → ℕ
number_at b = cond (get_or b 0 0 == 255) (four_at (drop 1 b)) (get_or b 0 0)

-- what follows a number
abbrev pub after_number : List ℕ → List ℕ
after_number b = cond (get_or b 0 0 == 255) (drop 5 b) (drop 1 b)
