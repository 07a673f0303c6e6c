-- The next column of a half-read download has its place among seven. Assumes nothing.
use mathlib.Core.Path.{◌≡◌, refl, ap, sym, ◌∙◌}
use mathlib.Core.Bool.{Bool, true, false, ◌&&◌, ◌||◌, and-eq-true_iff}
use Prim.Native.Nat.{ℕ, ◌<◌, ◌≤◌}
use native.Mathlib.Omega.{arith}
use lib.Dec.{ltb, eqb}
use borrow.Author.Tests.{ltb-true, eqb-true}
use Rattle.paper.specs.declared.Module.{Module}
use Rattle.paper.specs.declared.Batch.{Batch}
use Rattle.paper.specs.declared.Columns.{Columns}
use Rattle.paper.specs.declared.Half.{Half}
use Rattle.paper.specs.declared.Half.TheVariants.{GlyphByte}
use Rattle.paper.specs.Bounds.{batch_ok, rest_blank, columns_ok, half_ok}

-- five columns or seven are seven at most
width_most : (w : ℕ) → (eqb w 5 || eqb w 7) ≡ true → w ≤ 7
width_most w = go (eqb w 5) refl where
  go : (t : Bool) → eqb w 5 ≡ t → (t || eqb w 7) ≡ true → w ≤ 7
  go true e h = let k = eqb-true w 5 e in omega arith
  go false e h = let k = eqb-true w 7 h in omega arith

come_below : (c : Columns) → columns_ok c ≡ true → c.come < 7
unfolding columns_ok
come_below c h =
    let f = (and-eq-true_iff (eqb c.width 5 || eqb c.width 7) (ltb c.come c.width && rest_blank c)).0 h in
    let few = width_most c.width f.0 in
    let before = ltb-true c.come c.width ((and-eq-true_iff (ltb c.come c.width) (rest_blank c)).0 f.1).0 in
    omega (arith, few, before)

pub has_place : (g : Module) (p : Half) (d : Batch) (n : Bool) (c : Columns) → p ≡ GlyphByte d n c → half_ok g p ≡ true → c.come < 7
unfolding half_ok
has_place g p d n c e h =
    let whole = (and-eq-true_iff g.downloads (batch_ok d && columns_ok c)).0 (ap (half_ok g) (sym e) ∙ h) in
    come_below c ((and-eq-true_iff (batch_ok d) (columns_ok c)).0 whole.1).1
