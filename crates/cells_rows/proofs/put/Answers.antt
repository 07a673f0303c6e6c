-- `cells_rows::put` meets its contract: a byte after the other, as many as are asked for. Assumes nothing.
use mathlib.Core.Path.{refl}
use native.Mathlib.Omega.{arith}
use lib.ListN.{length-set}
use Rattle.laws_laid.specs.Laid.{Stroke}
use Rattle.laws_laid.proofs.Laid.{laid_more, reach_1, reach_2, reach_3, reach_4}
use Rattle.glyphs_columns.specs.Columns.{mixed_by}
use Rattle.cells_rows.proofs.put.Goals as goal

pub bounds-mem-a : goal.bounds-mem-a
bounds-mem-a g c =
    reach_1 c.args.a c.args.to.step c.args.to.times _ (omega arith) (omega arith)

pub bounds-mem-a-2 : goal.bounds-mem-a-2
bounds-mem-a-2 g c =
    reach_1 c.args.a c.args.to.step c.args.to.times _ (omega arith) (omega arith)

pub returns-then-to-eq1 : goal.returns-then-to-eq1
returns-then-to-eq1 g c =
    let f : Stroke = λ j b. mixed_by g.row.MIXING c.args.v b in
    laid_more f c.args.to.step c.args.a 0 c.args.to.times _ _ c.args.mem.now _ refl (omega arith) c.mixed_by.ensures (omega arith)

pub bounds-mem-b : goal.bounds-mem-b
bounds-mem-b g c =
    rw (length-set) (reach_2 c.args.a c.args.to.step c.args.to.times _ (omega arith) (omega arith))

pub bounds-mem-b-2 : goal.bounds-mem-b-2
bounds-mem-b-2 g c =
    rw (length-set) (reach_2 c.args.a c.args.to.step c.args.to.times _ (omega arith) (omega arith))

pub returns-then-to-eq2 : goal.returns-then-to-eq2
returns-then-to-eq2 g c =
    let f : Stroke = λ j b. mixed_by g.row.MIXING c.args.v b in
    laid_more f c.args.to.step c.args.a 1 c.args.to.times _ _ c.args.mem.now _ (laid_more f c.args.to.step c.args.a 0 1 _ _ c.args.mem.now _ refl (omega arith) c.mixed_by.ensures (omega arith)) (omega arith) c.mixed_by-2.ensures (omega arith)

pub bounds-mem-c : goal.bounds-mem-c
bounds-mem-c g c =
    rw (length-set, length-set) (reach_3 c.args.a c.args.to.step c.args.to.times _ (omega arith) (omega arith))

pub bounds-mem-c-2 : goal.bounds-mem-c-2
bounds-mem-c-2 g c =
    rw (length-set, length-set) (reach_3 c.args.a c.args.to.step c.args.to.times _ (omega arith) (omega arith))

pub returns-then-to-eq3 : goal.returns-then-to-eq3
returns-then-to-eq3 g c =
    let f : Stroke = λ j b. mixed_by g.row.MIXING c.args.v b in
    laid_more f c.args.to.step c.args.a 2 c.args.to.times _ _ c.args.mem.now _ (laid_more f c.args.to.step c.args.a 1 2 _ _ c.args.mem.now _ (laid_more f c.args.to.step c.args.a 0 1 _ _ c.args.mem.now _ refl (omega arith) c.mixed_by.ensures (omega arith)) (omega arith) c.mixed_by-2.ensures (omega arith)) (omega arith) c.mixed_by-3.ensures (omega arith)

pub bounds-mem-d : goal.bounds-mem-d
bounds-mem-d g c =
    rw (length-set, length-set, length-set) (reach_4 c.args.a c.args.to.step c.args.to.times _ (omega arith) (omega arith))

pub bounds-mem-d-2 : goal.bounds-mem-d-2
bounds-mem-d-2 g c =
    rw (length-set, length-set, length-set) (reach_4 c.args.a c.args.to.step c.args.to.times _ (omega arith) (omega arith))

pub returns : goal.returns
returns g c =
    let f : Stroke = λ j b. mixed_by g.row.MIXING c.args.v b in
    laid_more f c.args.to.step c.args.a 3 c.args.to.times _ _ c.args.mem.now _ (laid_more f c.args.to.step c.args.a 2 3 _ _ c.args.mem.now _ (laid_more f c.args.to.step c.args.a 1 2 _ _ c.args.mem.now _ (laid_more f c.args.to.step c.args.a 0 1 _ _ c.args.mem.now _ refl (omega arith) c.mixed_by.ensures (omega arith)) (omega arith) c.mixed_by-2.ensures (omega arith)) (omega arith) c.mixed_by-3.ensures (omega arith)) (omega arith) c.mixed_by-4.ensures (omega arith)
