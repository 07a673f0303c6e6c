-- `cells_columns::stamp_blank` meets its contract: one column mixed in, or none. Assumes nothing.
use native.Mathlib.Omega.{arith}
use Rattle.cells_columns.proofs.Stamps.{blank_some, blank_none}
use Rattle.cells_columns.proofs.stamp_blank.Goals as goal

pub returns-then-count-gt0 : goal.returns-then-count-gt0
returns-then-count-gt0 c =
    blank_some _ _ _ _ _ _ _ _ (omega arith)
    c.reversed.ensures
    c.mix.ensures

pub returns-else-count-gt0 : goal.returns-else-count-gt0
returns-else-count-gt0 c =
    blank_none _ _ _ _ _ _ (omega arith)
