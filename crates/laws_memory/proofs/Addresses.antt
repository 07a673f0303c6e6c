-- The address of a place, and the place of an address. The only facts here that are not linear. Assumes nothing.
use mathlib.Core.Path.{◌≡◌, sym, ap, ap₂, ◌∙◌}
use Prim.Native.Nat.{ℕ, zero, suc, ◌+◌, ◌*◌, ◌<◌}
use native.Mathlib.Nat.{add-zero, div-add-mod, mul-add-div, mul-add-mod_self_left, mod-eq_of_lt, div-eq_of_lt, mod-lt, mul-le-mul_left, lt_of_mul-lt-mul_left}
use native.Mathlib.Omega.{arith}
use Rattle.paper.specs.declared.Module.{Module}
use Rattle.paper.specs.Panel.{address, column_of, row_of}

module _ (g : Module) (x y : ℕ) (hy : y < g.rows) where
  pub column_at_lem : column_of g (address g x y) ≡ x
  column_at_lem = mul-add-div (omega arith) x y ∙ ap (λ (k : ℕ). x + k) (div-eq_of_lt hy) ∙ add-zero x

  pub row_at : row_of g (address g x y) ≡ y
  row_at = mul-add-mod_self_left g.rows x y ∙ mod-eq_of_lt hy

  -- below the end of any memory or glass that has the column
  pub address-lt : (columns : ℕ) → x < columns → address g x y < g.rows * columns
  address-lt columns hx = omega (arith, mul-le-mul_left g.rows hx)

module _ (g : Module) (a : ℕ) where
  -- an address is that of its column and its row
  pub at_place : (x y : ℕ) → column_of g a ≡ x → row_of g a ≡ y → a ≡ address g x y
  at_place x y p q = sym (div-add-mod a g.rows) ∙ ap₂ (address g) p q

  pub column-lt : (columns : ℕ) → a < g.rows * columns → column_of g a < columns
  column-lt columns h = lt_of_mul-lt-mul_left g.rows (omega (arith, div-add-mod a g.rows))

  pub row_lt : (columns : ℕ) → a < g.rows * columns → row_of g a < g.rows
  row_lt columns h = mod-lt a (positive g.rows h)
    where
      positive : (rows : ℕ) → a < rows * columns → 0 < rows
      positive zero k = omega arith
      positive (suc r) k = omega arith
