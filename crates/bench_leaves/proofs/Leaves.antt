-- What the leaves ask of the module, which is the 112 by 16 one. Assumes nothing.
use mathlib.Core.Path.{◌≡◌, ◌∙◌}
use mathlib.Core.List.{List}
use Prim.Native.Nat.{ℕ, ◌≤◌}
use native.Mathlib.Omega.{arith}
use lib.ListN.{length}
use Rattle.paper.specs.declared.Module.{Module}
use Rattle.paper.specs.Panel.{panel, memory_length, glass_length, font_length}
use Rattle.laws_memory.specs.Rectangles.{Fits}

module _ (g : Module) (e : g ≡ panel) where
  pub memory_small : memory_length g ≤ 65536
  unfolding panel
  memory_small = rw e (omega arith)

  pub glass_small : glass_length g ≤ 65536
  unfolding panel
  glass_small = rw e (omega arith)

  pub font_small : font_length g ≤ 65536
  unfolding panel
  font_small = rw e (omega arith)

  pub two_rows : 2 ≤ g.rows
  unfolding panel
  two_rows = rw e (omega arith)

  pub all-visible : g.visible ≤ g.columns
  unfolding panel
  all-visible = rw e (omega arith)

  -- a memory of the length that the module has
  pub fits : (m : List ℕ) (n : ℕ) → length m ≡ n → n ≡ memory_length g → Fits g m
  fits m n l k = record { size = l ∙ k; small = memory_small }
