-- `cells_bytes::blank` meets its contract. The loop's invariant: the first j columns are mixed in. Assumes nothing.
use mathlib.Core.Path.{refl, ◌∙◌}
use native.Mathlib.Omega.{arith}
use lib.Dec.{eqb}
use Rattle.paper.specs.Cells.{all_off}
use Rattle.laws_bytes.proofs.Drawn.{blank_byte}
use Rattle.laws_memory.proofs.Rects.{rect_none}
use Rattle.cells_bytes.specs.Stored.{blanked}
use Rattle.cells_columns.proofs.Columns.{either, cell_turn, cell_end}
use Rattle.cells_bytes.proofs.blank.Goals as goal

pub loop-j-init : goal.loop-j-init
loop-j-init c =
    (omega arith, refl, rect_none _ _ _ _ (λ a i. omega arith))

pub loop-j-preserved : goal.loop-j-preserved
loop-j-preserved c =
    let head = c.loop-j in
    let off = c.reversed-v in (
      omega arith,
      omega (arith, c.mix_column.auto.mem),
      cell_turn _ _ (λ j r. 0) _ _ _ _ _ _ _ _ head.invariant.2 (λ r h. either (eqb r 0) off.result ∙ off.ensures)
          c.mix_column.ensures,
    )

pub returns : goal.returns
unfolding blanked
returns c =
    let head = c.loop-j in
    cell_end _ _ (λ j r. 0) _ _ _ _ all_off _ _ _ (λ a. (c.slice_known-1.given a).fits)
    (λ j r h. blank_byte c.args.style j r) head.invariant.2 head.invariant.0 c.loop-j-test.false
