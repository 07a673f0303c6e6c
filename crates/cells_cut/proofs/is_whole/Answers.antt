-- `cells_cut::is_whole` meets its contract, by its tests. Assumes nothing.
use mathlib.Core.Path.{◌≡◌, refl}
use mathlib.Core.Bool.{Bool, true, false, ◌&&◌}
use Prim.Native.Nat.{ℕ, ◌+◌, ◌*◌, ◌<◌, ◌≤◌}
use native.Mathlib.Nat.{mul-le-mul_left}
use native.Mathlib.Omega.{arith}
use borrow.Author.Tests.{eq-eqb, ne_eqb, le-leb, lt-leb}
use lib.Dec.{leb, eqb}
use Rattle.cells_cut.proofs.is_whole.Goals as goal

-- a glyph wider than the rectangle does not fit it, however often its columns are repeated
too_wide : (glyph blanks down n width : ℕ) → 1 ≤ n → width < glyph → width ≡ (blanks + glyph + down) * n → ⊥
too_wide glyph blanks down n width p h e = omega (arith, e, mul-le-mul_left (blanks + glyph + down) p)

no : (s t : Bool) → false ≡ (s && (t && false))
no true true = refl
no true false = refl
no false t = refl

pub returns-then-blanks-gt1 : goal.returns-then-blanks-gt1
returns-then-blanks-gt1 c =
    rw (lt-leb c.args.blanks 1 c.if-blanks-gt1.true)

pub returns-then-n-gt4 : goal.returns-then-n-gt4
returns-then-n-gt4 c =
    let a = c.args in
    rw (le-leb a.blanks 1 (omega arith), lt-leb a.style.across 4 c.if-n-gt4.true)

pub returns-then-width-glyph : goal.returns-then-width-glyph
returns-then-width-glyph c =
    let a = c.args in
    rw (
      le-leb a.blanks 1 (omega arith),
      ne_eqb a.width ((a.blanks + a.glyph + a.right) * a.style.across)
          (too_wide a.glyph a.blanks a.right a.style.across a.width (omega arith) (omega arith)),
    )
    (no (leb a.style.across 4) (eqb a.height a.style.down))

pub returns-then-height-style : goal.returns-then-height-style
returns-then-height-style c =
    let a = c.args in
    rw (le-leb a.blanks 1 (omega arith), le-leb a.style.across 4 (omega arith), ne_eqb a.height a.style.down c.if-height-style.true)

pub overflow_mul-result : goal.overflow_mul-result
overflow_mul-result c =
    let a = c.args in
    let few : a.style.across ≤ 4 = omega arith in
    omega (arith, mul-le-mul_left (a.blanks + a.glyph + a.right) few)

pub returns : goal.returns
returns c =
    let a = c.args in
    rw (le-leb a.blanks 1 (omega arith), le-leb a.style.across 4 (omega arith), eq-eqb a.height a.style.down (omega arith))
