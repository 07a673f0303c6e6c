-- `glyphs_columns::doubled` meets its contract, by one test of its sixteen numbers. Assumes nothing.
use mathlib.Core.Path.{refl}
use mathlib.Core.Bool.{Bool}
use Prim.Native.Nat.{ℕ, ◌*◌, ◌%◌}
use lib.Dec.{eqb}
use lib.Bits.{bit_and, bit_or}
use borrow.Author.Tests.{eqb-true}
use Rattle.laws_bytes.specs.Bytes.{double}
use Rattle.laws_bytes.proofs.Every.{all}
use Rattle.glyphs_columns.proofs.doubled.Goals as goal

-- the four dots in pairs, and each apart, by the code's two masks
abbrev pairs : ℕ → ℕ → ℕ
pairs two n = bit_and (bit_or n (n * 4 % 256)) two

abbrev dots : ℕ → ℕ → ℕ → ℕ
dots two one n = bit_and (bit_or (pairs two n) (pairs two n * 2 % 256)) one

abbrev right : ℕ → ℕ → ℕ → Bool
right two one n = eqb (bit_or (dots two one n) (dots two one n * 2 % 256)) (double n)

pub returns : goal.returns
returns c =
    eqb-true _ _ (all (right _ _) 16 refl c.args.n c.requires)
