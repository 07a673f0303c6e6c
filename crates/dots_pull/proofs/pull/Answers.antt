-- `dots_pull::pull` meets its contract. The loop's invariant: the first i rows are taken. Assumes nothing.
use mathlib.Core.Path.{refl}
use native.Mathlib.Omega.{arith}
use Rattle.laws_memory.specs.Rectangles.{pulled}
use Rattle.laws_memory.proofs.Rects.{rect_none, rect_end}
use Rattle.laws_memory.proofs.Pulls.{pull_turn}
use Rattle.dots_pull.proofs.pull.Goals as goal

pub loop-i-init : goal.loop-i-init
unfolding pulled
loop-i-init c =
    (omega arith, refl, rect_none _ _ _ _ (λ a i. omega arith))

pub loop-i-preserved : goal.loop-i-preserved
loop-i-preserved c =
    let head = c.loop-i in
    let pulling = c.pull_row in (
      omega arith,
      omega (arith, pulling.auto.mem),
      pull_turn _ _ c.requires.1 _ _ _ _ _ _ _ _ _ c.requires.0 (omega arith) head.invariant.2 pulling.ensures,
    )

pub returns : goal.returns
unfolding pulled
returns c =
    rect_end _ _ _ _ _ _ _ _ _ c.loop-i.invariant.2 c.loop-i.invariant.0 c.loop-i-test.false
