-- `glass::copy_rows` meets its contract. The loop's invariant: the glass and the count are those of the first y spans.
-- Assumes nothing.
use mathlib.Core.Path.{refl}
use Prim.Native.Nat.{◌≤◌}
use borrow.Author.Rules.{rules}
use native.Mathlib.Omega.{arith}
use lib.ListN.{get_or}
use lib.Seq.{take_all}
use Rattle.paper.specs.Strokes.{no_span}
use Rattle.laws_memory.proofs.Glass.{refreshed_none, refreshed-turn, shown-turn, shown-le, visible_small}
use Rattle.glass.proofs.copy_rows.Goals as goal

pub loop-y-init : goal.loop-y-init
loop-y-init c =
    (omega arith, search rules, refl, refreshed_none _ _ _, refl, omega arith)

pub overflow_add-moved : goal.overflow_add-moved
overflow_add-moved c =
    let small = shown-le c.args.g (get_or c.args.spans c.loop-y.y no_span) in
    let few : c.args.g.visible ≤ 65536 = visible_small c.args.g _ _ (omega arith) c.requires.1 in omega arith

pub loop-y-preserved : goal.loop-y-preserved
loop-y-preserved c =
    let copying = c.copy_row-moved in
    let head = c.loop-y in
    let spans = c.args.spans in (
      omega arith,
      omega arith,
      omega (arith, copying.auto.glass),
      refreshed-turn _ _ spans head.y _ _ _ (omega arith) head.invariant.3 copying.ensures.0,
      shown-turn _ spans head.y _ _ (omega arith) head.invariant.4 copying.ensures.1,
      let small = shown-le c.args.g (get_or c.args.spans c.loop-y.y no_span) in
          let few : c.args.g.visible ≤ 65536 = visible_small c.args.g _ _ (omega arith) c.requires.1 in omega arith,
    )

pub returns : goal.returns
returns c =
    let head = c.loop-y in
    let all = take_all head.y c.args.spans (omega arith) in
    (rw all at head.invariant.3, rw all at head.invariant.4)
