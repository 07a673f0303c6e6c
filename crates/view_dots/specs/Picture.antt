-- The glass as a picture: its dots, the character for two of them, the byte of a PBM file for eight. Assumes nothing.
use Rattle.std.specs.Prelude.{ℕ, ◌+◌, ◌*◌, ◌/◌, ◌%◌, Bool, true, false, List, get_or}
use Rattle.paper.specs.declared.Module.{Module}
use Rattle.paper.specs.Panel.{address, dot, byte_of}

-- document 01, "the glass copy is 224 lent bytes, addressed in the same way" and "8 dots, bit 7 on top": whether the dot of
-- column x and line y is lit, line 0 on top
unfoldable pub glass_dot : Module → List ℕ → ℕ → ℕ → Bool
glass_dot g glass x y = dot (get_or glass (address g x (y / 8)) 0) (y % 8)

-- Unicode's character for two dots, one above the other: full, upper half, lower half, blank
abbrev pub block_of : Bool → Bool → ℕ
block_of true true = 0x2588
block_of true false = 0x2580
block_of false true = 0x2584
block_of false false = 0x20

-- PBM, "each row is packed 8 pixels to a byte, the leftmost the most significant bit"
unfoldable pub pbm_byte : Module → List ℕ → ℕ → ℕ → ℕ
pbm_byte g glass k y = byte_of (λ i. glass_dot g glass (8 * k + i) y)
