-- An image's byte, by whether it lies in the range. Assumes nothing.
use mathlib.Core.Path.{◌≡◌}
use mathlib.Core.Bool.{true, false, ◌&&◌}
use mathlib.Core.List.{List}
use Prim.Native.Nat.{ℕ, ◌+◌, ◌<◌}
use lib.Dec.{ltb}
use borrow.Author.Tests.{ltb-true}
use Rattle.paper.specs.declared.Module.{Module}
use Rattle.paper.specs.declared.Style.{Style}
use Rattle.paper.specs.declared.View.{View}
use Rattle.paper.specs.Strokes.{apply_all}
use Rattle.paper.specs.Carry.{image_strokes}
use Rattle.laws_memory.proofs.Tests.{and_parts}
use Rattle.cells_bytes.specs.Stored.{imaged}

-- what the test for a byte in the range says
pub inside_facts : (x w y h : ℕ) → (ltb x w && ltb y h) ≡ true → (x < w) × (y < h)
inside_facts x w y h t = let f = and_parts (ltb x w) (ltb y h) t in (ltb-true x w f.0, ltb-true y h f.1)

-- a byte in the range is stored, one outside is consumed
module _ (g : Module) (v : View) (y : Style) (column row b : ℕ) (m : List ℕ) where
  pub stored_in : {m' : List ℕ} → (ltb (v.x + column) v.width && ltb (v.y + row) v.height) ≡ true
      → m' ≡ imaged g y (v.left + (v.x + column)) (v.top + (v.y + row)) b m → m' ≡ apply_all g m (image_strokes v y column row b)
  unfolding image_strokes imaged
  stored_in t e = rw t e

  pub stored_out : (ltb (v.x + column) v.width && ltb (v.y + row) v.height) ≡ false → m ≡ apply_all g m (image_strokes v y column row b)
  unfolding image_strokes
  stored_out t = rw t
