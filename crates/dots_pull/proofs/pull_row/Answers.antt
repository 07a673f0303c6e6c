-- `dots_pull::pull_row` meets its contract. The loop's invariant: the first k pairs of columns are taken. Assumes nothing.
use mathlib.Core.Path.{◌≡◌, refl, ap, ◌∙◌}
use Prim.Native.Nat.{ℕ, ◌*◌, ◌-◌}
use native.Mathlib.Omega.{arith}
use Rattle.paper.specs.Strokes.{rect_at}
use Rattle.laws_memory.specs.Rectangles.{pulled}
use Rattle.laws_memory.proofs.Rects.{rect_none}
use Rattle.laws_memory.proofs.Pulls.{pull_row_turn}
use Rattle.dots_pull.proofs.pull_row.Goals as goal

pub loop-k-init : goal.loop-k-init
unfolding pulled
loop-k-init c =
    (omega arith, refl, refl, rect_none _ _ _ _ (λ a i. omega arith))

pub loop-k-preserved : goal.loop-k-preserved
loop-k-preserved c =
    let head = c.loop-k in
    let one = c.pull_one in
    let two = c.pull_one-in-loop-k in
    let turn = pull_row_turn _ _ c.requires.1 c.args.left c.args.right c.args.down in
    let first = turn _ _ _ _ _ c.requires.0 (omega arith) head.invariant.3 head.invariant.2 one.ensures in
    let second = turn _ _ _ _ _ c.requires.0 (omega arith) first (omega (arith, one.auto.mem)) two.ensures in (
      omega arith,
      head.invariant.1,
      omega (arith, one.auto.mem, two.auto.mem),
      second ∙ ap (λ (n : ℕ). pulled c.args.g (rect_at c.args.left c.args.y n 1) c.args.right c.args.down c.args.mem.now) (omega arith),
    )

-- an odd column is left, and taken after the loop
pub returns-then-width-eq1 : goal.returns-then-width-eq1
returns-then-width-eq1 c =
    let head = c.loop-k in
    let one = c.pull_one-then-width-eq1 in
    let last : c.args.width - 1 ≡ 2 * head.k = omega arith in
    pull_row_turn _ _ c.requires.1 _ _ _ _ _ _ _ _ c.requires.0 (omega arith) head.invariant.3 head.invariant.2 (rw last at one.ensures)
    ∙ ap (λ (n : ℕ). pulled c.args.g (rect_at c.args.left c.args.y n 1) c.args.right c.args.down c.args.mem.now) (omega arith)

pub returns-else-width-eq1 : goal.returns-else-width-eq1
returns-else-width-eq1 c =
    let head = c.loop-k in
    head.invariant.3 ∙ ap (λ (n : ℕ). pulled c.args.g (rect_at c.args.left c.args.y n 1) c.args.right c.args.down c.args.mem.now) (omega arith)
