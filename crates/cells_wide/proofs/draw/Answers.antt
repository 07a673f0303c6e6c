-- `cells_wide::draw` meets its contract. The loop's invariant: the first r rows are drawn. Assumes nothing.
use mathlib.Core.Path.{refl, sym, ◌∙◌}
use native.Mathlib.Omega.{arith}
use lib.ListN.{length}
use Rattle.glyphs_columns.specs.Columns.{cell_stroke}
use Rattle.cells_cut.proofs.Whole.{whole_facts}
use Rattle.cells_wide.proofs.Styles.{as_high, as_more}
use Rattle.cells_wide.proofs.draw.Goals as goal

pub flat-requires : goal.flat-requires
flat-requires c =
    let a = c.args in
    let all = whole_facts (length a.cols.now) a.blanks a.lift.down a.style a.width a.height (sym c.requires.whole_value ∙ c.if-whole.true) in
    let reach = rw all.3 at c.requires.s_bound.3 in
    let q = c.requires.down_bound in
    let r = c.requires.s_bound in
    record { blanks_bound = (all.0, q.0, all.1, omega (arith, all.2), r.0); mem_len_bound = (r.2, omega (arith, reach)) }

pub returns-then-height-eq1 : goal.returns-then-height-eq1
returns-then-height-eq1 c =
    let a = c.args in
    let all = whole_facts (length a.cols.now) a.blanks a.lift.down a.style a.width a.height (sym c.requires.whole_value ∙ c.if-whole.true) in
    as_high (cell_stroke a.cols.now a.blanks a.lift a.style) a.s a.a _ a.width 1 a.height a.mem.now _ (sym all.3)
    (omega (arith, all.2)) c.flat.ensures

pub tall-requires : goal.tall-requires
tall-requires c =
    let a = c.args in
    let all = whole_facts (length a.cols.now) a.blanks a.lift.down a.style a.width a.height (sym c.requires.whole_value ∙ c.if-whole.true) in
    let reach = rw all.3 at c.requires.s_bound.3 in
    let q = c.requires.down_bound in
    let r = c.requires.s_bound in
    record { blanks_bound = (all.0, q.0, all.1, omega (arith, all.2), omega arith); s_bound = (r.0, r.2, omega (arith, reach)) }

pub returns-then-whole : goal.returns-then-whole
returns-then-whole c =
    let a = c.args in
    let all = whole_facts (length a.cols.now) a.blanks a.lift.down a.style a.width a.height (sym c.requires.whole_value ∙ c.if-whole.true) in
    as_high (cell_stroke a.cols.now a.blanks a.lift a.style) a.s a.a _ a.width 2 a.height a.mem.now _ (sym all.3)
    (omega (arith, all.2)) c.tall.ensures

pub loop-r-init : goal.loop-r-init
loop-r-init c =
    (omega arith, refl, refl)

pub cut_row-requires : goal.cut_row-requires
cut_row-requires c =
    let same = c.loop-r.invariant.1 in
    record { down_bound = (omega arith, omega arith, omega (arith, same)); width_in_bounds = omega (arith, same) }

pub loop-r-preserved : goal.loop-r-preserved
loop-r-preserved c =
    let head = c.loop-r in
    let a = c.args in (
      omega arith,
      omega (arith, head.invariant.1, c.cut_row.auto.mem),
      as_more (cell_stroke a.cols.now a.blanks a.lift a.style) a.s a.a a.width head.r a.mem.now head.mem _ head.invariant.2 c.cut_row.ensures,
    )

pub returns : goal.returns
returns c =
    let head = c.loop-r in
    let a = c.args in
    as_high (cell_stroke a.cols.now a.blanks a.lift a.style) a.s a.a a.width a.width head.r a.height a.mem.now head.mem refl (omega arith) head.invariant.2
