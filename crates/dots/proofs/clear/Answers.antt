-- `dots::clear` meets its contract. The loop's invariant: the first i rows are zeroed. Assumes nothing.
use mathlib.Core.Path.{refl}
use native.Mathlib.Omega.{arith}
use Rattle.laws_memory.specs.Rectangles.{cleared}
use Rattle.laws_memory.proofs.Rects.{rect_none, rect_turn, rect_end}
use Rattle.dots.proofs.clear.Goals as goal

pub loop-i-init : goal.loop-i-init
unfolding cleared
loop-i-init c =
    (omega arith, refl, rect_none _ _ _ _ (λ a i. omega arith))

pub loop-i-preserved : goal.loop-i-preserved
unfolding cleared
loop-i-preserved c =
    let head = c.loop-i in
    let clearing = c.clear_row in (
      omega arith,
      omega (arith, clearing.auto.mem),
      rect_turn _ _ _ _ _ _ _ _ _ _ head.invariant.2 clearing.ensures (λ j b hj. refl),
    )

pub returns : goal.returns
unfolding cleared
returns c =
    rect_end _ _ _ _ _ _ _ _ _ c.loop-i.invariant.2 c.loop-i.invariant.0 c.loop-i-test.false
