-- `cells_columns::mix` meets its contract: a byte made of the one that stood there, stored. Assumes nothing.
use native.Mathlib.Omega.{arith}
use Rattle.cells_columns.proofs.Columns.{mixed_by_lem}
use Rattle.cells_columns.proofs.mix.Goals as goal

pub returns : goal.returns
returns c =
    mixed_by_lem _ _ _ _ _ _ _ _ (omega arith) (omega arith) c.at-a.ensures.0 c.mixed.ensures
