-- `cells_columns::stamp` meets its contract: its three calls, one after the other. Assumes nothing.
use native.Mathlib.Omega.{arith}
use Rattle.cells_columns.proofs.Stamps.{stamp_end}
use Rattle.cells_columns.proofs.stamp.Goals as goal

pub returns : goal.returns
returns c =
    stamp_end _ _ _ _ _ _ _ (omega arith) (omega arith) (λ n. (c.shared_slice_known-1.given n).fits) _ _ _
    c.blanks_left-blanks.ensures.0 (omega arith) c.blank_right.ensures.0 _ _ _ _
    (λ a. (c.slice_known-1.given a).fits) c.stamp_blank.ensures c.stamp_glyph.ensures
    c.stamp_blank-2.ensures
