-- `cells_columns::mix_column` meets its contract, by the height. Assumes nothing.
use native.Mathlib.Omega.{arith}
use Rattle.cells_columns.proofs.Columns.{column_none, column_one, column_two}
use Rattle.cells_columns.proofs.mix_column.Goals as goal

pub returns-then-height-eq0 : goal.returns-then-height-eq0
returns-then-height-eq0 c =
    column_none _ _ _ _ _ _ _ c.if-height-eq0.true

pub returns-then-height-eq1 : goal.returns-then-height-eq1
returns-then-height-eq1 c =
    column_one _ _ _ _ _ _ _ _ c.if-height-eq1.true c.mix.ensures

pub returns : goal.returns
returns c =
    column_two _ _ _ _ _ _ _ _ _ (omega arith) c.mix.ensures
    c.mix-2.ensures
