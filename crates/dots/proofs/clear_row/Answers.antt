-- `dots::clear_row` meets its contract. The loop's invariant: the first j columns are zeroed. Assumes nothing.
use mathlib.Core.Path.{refl}
use native.Mathlib.Omega.{arith}
use lib.ListN.{length-set}
use Rattle.laws_memory.specs.Rectangles.{cleared}
use Rattle.laws_memory.proofs.Rects.{rect_none, row_turn, row_end}
use Rattle.dots.proofs.clear_row.Goals as goal

pub loop-j-init : goal.loop-j-init
unfolding cleared
loop-j-init c =
    (omega arith, refl, rect_none _ _ _ _ (λ a i. omega arith))

pub loop-j-preserved : goal.loop-j-preserved
unfolding cleared
loop-j-preserved c = (
  omega arith,
  simp length-set (omega arith),
  row_turn _ _ _ _ _ _ _ _ _ c.at-a.ensures.0 c.loop-j.invariant.2 (omega arith) (omega arith) refl,
)

pub returns : goal.returns
unfolding cleared
returns c =
    row_end _ _ _ _ _ _ _ _ c.loop-j.invariant.2 c.loop-j.invariant.0 c.loop-j-test.false
