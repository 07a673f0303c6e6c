-- `cells_tall::whole` meets its contract. The loop's invariant: the glyph's columns so far are stored, and the next goes to address a.
-- Assumes nothing.
use mathlib.Core.Path.{ap, ◌∙◌}
use mathlib.Core.Bool.{true}
use native.Mathlib.Omega.{arith}
use Rattle.cells_tall.specs.Both.{spread_of, reversed_both}
use Rattle.cells_tall.proofs.Columns.{stored_none, stored_more, stored-all, reach_left, reach_glyph, reach_right}
use Rattle.cells_tall.proofs.whole.Goals as goal

pub edge-a-requires : goal.edge-a-requires
edge-a-requires g c =
    let a = c.args in
    let q = c.requires.blanks_bound in
    record { count_bound = (q.0, q.2); n_in_bounds = reach_left a.f.now.cols.now a.f.now.blanks a.f.now.lift a.f.now.style true a.to.times a.to.step a.from _ q.2 c.requires.n_in_bounds }

pub loop-column-init : goal.loop-column-init
loop-column-init g c =
    let a = c.args in
    stored_none a.f.now.cols.now a.f.now.blanks a.f.now.lift a.f.now.style _ a.to.times a.to.step a.from _ _ c.edge-a.ensures.1

pub put_both-requires : goal.put_both-requires
put_both-requires g c =
    let head = c.loop-column in
    let a = c.args in
    let reach = reach_glyph a.f.now.cols.now a.f.now.blanks a.f.now.lift a.f.now.style _ a.to.times a.to.step a.from _ c.requires.blanks_bound.2 c.requires.n_in_bounds head.column-index head.a _ head.mem head.invariant c.edge-a.auto.mem c.loop-column-test.true in
    reach

pub overflow_add-a : goal.overflow_add-a
overflow_add-a g c =
    let head = c.loop-column in
    let a = c.args in
    omega (arith, reach_glyph a.f.now.cols.now a.f.now.blanks a.f.now.lift a.f.now.style _ a.to.times a.to.step a.from _ c.requires.blanks_bound.2 c.requires.n_in_bounds head.column-index head.a _ head.mem head.invariant c.edge-a.auto.mem c.loop-column-test.true)

pub loop-column-preserved : goal.loop-column-preserved
loop-column-preserved g c =
    let head = c.loop-column in
    let a = c.args in
    stored_more a.f.now.cols.now a.f.now.blanks a.f.now.lift a.f.now.style _ a.to.times a.to.step a.from head.column-index head.a _ _ head.mem _ a.to.some head.invariant c.loop-column-test.true c.put_both.auto.mem
    (c.reversed_both.ensures
    ∙ ap (reversed_both a.f.now.style) (c.spread-z.ensures ∙ ap spread_of c.placed.ensures))
    c.put_both.ensures

pub edge-requires : goal.edge-requires
edge-requires g c =
    let head = c.loop-column in
    let a = c.args in
    let reach = reach_right a.f.now.cols.now a.f.now.blanks a.f.now.lift a.f.now.style _ a.to.times a.to.step a.from _ c.requires.blanks_bound.2 c.requires.n_in_bounds head.column-index head.a _ head.mem head.invariant c.edge-a.auto.mem in
    record { count_bound = (a.f.now.lift.one, reach.1); n_in_bounds = reach.0 }

pub returns : goal.returns
returns g c =
    let head = c.loop-column in
    let a = c.args in
    stored-all a.f.now.cols.now a.f.now.blanks a.f.now.lift a.f.now.style _ a.to.times a.to.step a.from head.column-index head.a _ a.mem.now _ head.mem _ a.to.some c.requires.blanks_bound.1
    c.reversed_both-blank.ensures c.edge-a.ensures.0 head.invariant c.loop-column-test.false c.edge.ensures.0
