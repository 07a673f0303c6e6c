-- `cells_rows::row_by` meets its contract: what the check does not find. Assumes nothing.
use mathlib.Core.Path.{◌∙◌}
use Prim.Native.Nat.{◌*◌}
use native.Mathlib.Omega.{arith}
use Rattle.glyphs_columns.specs.Columns.{whole_of}
use Rattle.cells_rows.proofs.Rows.{row_last}
use Rattle.cells_rows.proofs.row_by.Goals as goal

pub returns-in_default : goal.returns-in_default
returns-in_default c =
    let a = c.args in
    let f = a.f.now in
    c.row-in_default.ensures
    ∙ row_last f.cols.now f.blanks f.lift f.style a.down a.r a.to.times a.mixing a.to.step a.from (whole_of f.cols.now f.blanks f.lift * a.to.times) (omega arith) a.mem.now
