-- `cells_wide::tall` meets its contract: what the check does not find. Assumes nothing.
use mathlib.Core.Path.{refl}
use native.Mathlib.Omega.{arith}
use Rattle.glyphs_columns.specs.Columns.{whole_of}
use Rattle.cells_wide.proofs.Styles.{alike_last, both_rows}
use Rattle.cells_wide.proofs.tall.Goals as goal

pub returns-in_default : goal.returns-in_default
returns-in_default c =
    let a = c.args in
    let f = a.f.now in
    both_rows f.cols.now f.blanks f.lift f.style 2 f.style.across 3 (whole_of f.cols.now f.blanks f.lift) a.s a.a c.requires.blanks_bound.3 refl
    (alike_last f.style.mixing (λ e. omega (arith, e)) (λ e. omega (arith, e)) (λ e. omega (arith, e))) a.mem.now _ c.whole-in_default.ensures
