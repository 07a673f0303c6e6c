-- `cells_tall::spread` meets its contract, by one test of all bytes. Assumes nothing.
use mathlib.Core.Path.{refl}
use mathlib.Core.Bool.{Bool}
use Prim.Native.Nat.{ℕ, ◌*◌, ◌/◌, ◌%◌}
use native.Mathlib.Omega.{arith}
use borrow.Author.Tests.{eqb-true}
use lib.Dec.{eqb}
use lib.Bits.{bit_and, bit_or}
use Rattle.laws_bytes.proofs.Every.{all}
use Rattle.cells_tall.specs.Both.{spread_of}
use Rattle.cells_tall.proofs.spread.Goals as goal

-- the halves apart, their dots in pairs, and each apart, by the code's two masks
abbrev halves : ℕ → ℕ
halves v = bit_and (bit_or (v * 256 % 65536) (v / 16)) 3855

abbrev pairs : ℕ → ℕ → ℕ
pairs two v = bit_and (bit_or (halves v) (halves v * 4 % 65536)) two

abbrev dots : ℕ → ℕ → ℕ → ℕ
dots two one v = bit_and (bit_or (pairs two v) (pairs two v * 2 % 65536)) one

abbrev right : ℕ → ℕ → ℕ → Bool
right two one v = eqb (bit_or (dots two one v) (dots two one v * 2 % 65536)) (spread_of v)

pub returns : goal.returns
returns c =
    eqb-true _ _ (all (right _ _) 256 refl c.args.v (omega arith))
