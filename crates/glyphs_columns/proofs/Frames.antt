-- Which glyphs are framed, and their dots on a row. Assumes nothing.
use mathlib.Core.Path.{◌≡◌, refl}
use mathlib.Core.Bool.{Bool, true, false, cond, ◌&&◌}
use mathlib.Core.List.{List}
use Prim.Native.Nat.{ℕ, ◌*◌, ◌/◌, ◌^◌}
use native.Mathlib.Omega.{arith}
use Rattle.std.proofs.Common.{lit≤}
use lib.Dec.{eqb}
use lib.ListN.{length}
use borrow.Author.Tests.{eq-eqb, ne_eqb}
use Rattle.paper.specs.declared.Module.{Module}
use Rattle.paper.specs.Panel.{is_framed}
use Rattle.laws_bytes.specs.Bytes.{placed_byte}
use Rattle.glyphs_columns.specs.declared.lift.Lift.{Lift}
use Rattle.glyphs_columns.specs.Columns.{back_one, placing_of}

-- a glyph with as many columns as the font's have is framed where they are, and no other is
module _ (g : Module) (cols : List ℕ) where
  pub framed_alike : length cols ≡ g.glyph → is_framed g cols ≡ g.framed
  framed_alike e = rw (eq-eqb _ _ e) (go g.framed) where
    go : (f : Bool) → (f && true) ≡ f
    go true = refl
    go false = refl

  pub framed_other : (length cols ≡ g.glyph → ⊥) → is_framed g cols ≡ false
  framed_other n = rw (ne_eqb _ _ n) (go g.framed) where
    go : (f : Bool) → (f && false) ≡ false
    go true = refl
    go false = refl

-- the placing by the two tests
abbrev lift_by : Bool → Bool → Lift
lift_by f t =
    cond f (record { down = 1; up = cond t 1 0; one = lit≤ tt; back = back_one t }) (record { down = 0; up = 0; one = lit≤ tt; back = lit≤ tt })

-- a column so placed is the one on that row
pub placed_byte_lem : (f : Bool) (row v : ℕ) → v / 2 ^ (placing_of f row).down * 2 ^ (placing_of f row).up ≡ placed_byte f row v
placed_byte_lem f row v = go f (eqb row 0) where
  go : (f t : Bool) → v / 2 ^ (lift_by f t).down * 2 ^ (lift_by f t).up ≡ cond f (cond t (v / 2 * 2) (v / 2)) v
  go true true = refl
  go true false = omega arith
  go false t = omega arith
