-- `cells_wide::flat` meets its contract: what the check does not find. Assumes nothing.
use native.Mathlib.Omega.{arith}
use Rattle.glyphs_columns.specs.Columns.{whole_of}
use Rattle.cells_wide.proofs.Styles.{alike_last, one_row}
use Rattle.cells_wide.proofs.flat.Goals as goal

pub returns-in-3-to-255 : goal.returns-in-3-to-255
returns-in-3-to-255 c =
    let a = c.args in
    one_row a.f.now.cols.now a.f.now.blanks a.f.now.lift a.f.now.style 1 2 3 (whole_of a.f.now.cols.now a.f.now.blanks a.f.now.lift) a.s a.a c.requires.blanks_bound.3 c.if-n-eq2.true
    (alike_last a.f.now.style.mixing (λ e. omega (arith, e)) (λ e. omega (arith, e)) (λ e. omega (arith, e))) a.mem.now _ c.row-in-3-to-255.ensures

pub returns-in-3-to-255-2 : goal.returns-in-3-to-255-2
returns-in-3-to-255-2 c =
    let a = c.args in
    one_row a.f.now.cols.now a.f.now.blanks a.f.now.lift a.f.now.style 1 4 3 (whole_of a.f.now.cols.now a.f.now.blanks a.f.now.lift) a.s a.a c.requires.blanks_bound.3 c.if-n-eq4-2.true
    (alike_last a.f.now.style.mixing (λ e. omega (arith, e)) (λ e. omega (arith, e)) (λ e. omega (arith, e))) a.mem.now _ c.row-in-3-to-255-2.ensures
