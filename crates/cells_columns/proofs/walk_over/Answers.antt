-- `cells_columns::walk_over` meets its contract, by its tests. Assumes nothing.
use mathlib.Core.Path.{◌≡◌, refl, sym, ap, ◌∙◌}
use Prim.Native.Nat.{◌*◌}
use native.Mathlib.Omega.{arith}
use lib.ListN.{length}
use Rattle.cells_cut.specs.Whole.{is_whole}
use Rattle.cells_cut.proofs.Whole.{whole_facts}
use Rattle.glyphs_columns.specs.Columns.{whole_of}
use Rattle.cells_wide.proofs.Styles.{alike, one_row}
use Rattle.cells_columns.proofs.Enlarged.{twice_facts, asks, no_column, no_row, drawn-rows}
use Rattle.cells_columns.proofs.walk_over.Goals as goal

pub returns-then-width-eq0 : goal.returns-then-width-eq0
returns-then-width-eq0 c =
    no_column _ _ _ _ _ _ _ (omega arith)

pub returns-then-height-eq0 : goal.returns-then-height-eq0
returns-then-height-eq0 c =
    no_row _ _ _ _ _ _ _ (omega arith)

pub is_whole-whole-requires : goal.is_whole-whole-requires
is_whole-whole-requires c =
    let a = c.args in
    let ask = asks a.g a.r a.mem.now c.requires.within.0 c.requires.within.1 c.if-width-eq0.false c.if-height-eq0.false _ _ refl refl in
    (omega arith, c.placing-lift.result.one, ask.1)

pub row-requires : goal.row-requires
row-requires c =
    let a = c.args in
    let twice = twice_facts a.style _ c.if-twice-whole.true in
    let whole =
    whole_facts (length a.cols.now) c.blanks_left-blanks.result c.placing-lift.result.down a.style a.r.width a.r.height
    (sym c.is_whole-whole.ensures ∙ twice.3) in
    let columns : a.r.width ≡ whole_of a.cols.now c.blanks_left-blanks.result c.placing-lift.result * 2 = rw (← twice.1) whole.3 in
    let ask = asks a.g a.r a.mem.now c.requires.within.0 c.requires.within.1 c.if-width-eq0.false c.if-height-eq0.false c.at-a.result a.r.height c.at-a.ensures.0 refl in
    let reach = rw columns at ask.3 in
    record { blanks_bound = (whole.0, ask.2); n_in_bounds = omega (arith, reach, whole.2, twice.2) }

pub returns-then-twice-whole : goal.returns-then-twice-whole
returns-then-twice-whole c =
    let a = c.args in
    let twice = twice_facts a.style _ c.if-twice-whole.true in
    let whole =
    whole_facts (length a.cols.now) c.blanks_left-blanks.result c.placing-lift.result.down a.style a.r.width a.r.height
    (sym c.is_whole-whole.ensures ∙ twice.3) in
    drawn-rows a.g a.framed a.cols.now a.w a.style a.r a.mem.now c.blanks_left-blanks.result c.placing-lift.result c.at-a.result _ 1 _
    c.blanks_left-blanks.ensures.0 c.placing-lift.ensures c.at-a.ensures.0 (sym whole.3) (sym (whole.2 ∙ twice.2)) c.requires.within.0 c.requires.within.1 (λ n. (c.slice_known-1.given n).fits) (λ n. (c.shared_slice_known-1.given n).fits) (omega arith) (omega arith)
    (one_row a.cols.now c.blanks_left-blanks.result c.placing-lift.result a.style 1 2 0 (whole_of a.cols.now c.blanks_left-blanks.result c.placing-lift.result) a.g.rows c.at-a.result twice.2 twice.1
    (alike 0 a.style.mixing twice.0) a.mem.now _ c.row.ensures)

pub draw-requires : goal.draw-requires
draw-requires c =
    let a = c.args in
    let one : a.r.height ≡ 1 = omega arith in record { down_bound = (omega arith, omega arith, omega arith, omega arith, omega arith); whole_value = c.is_whole-whole.ensures ∙ ap (is_whole (length a.cols.now) c.blanks_left-blanks.result c.placing-lift.result.down a.style a.r.width) one; s_bound = asks a.g a.r a.mem.now c.requires.within.0 c.requires.within.1 c.if-width-eq0.false c.if-height-eq0.false c.at-a.result 1 c.at-a.ensures.0 (sym one) }

pub returns-then-height-eq1 : goal.returns-then-height-eq1
returns-then-height-eq1 c =
    let a = c.args in
    drawn-rows a.g a.framed a.cols.now a.w a.style a.r a.mem.now c.blanks_left-blanks.result c.placing-lift.result c.at-a.result a.r.width 1 _
    c.blanks_left-blanks.ensures.0 c.placing-lift.ensures c.at-a.ensures.0 refl (omega arith) c.requires.within.0 c.requires.within.1 (λ n. (c.slice_known-1.given n).fits) (λ n. (c.shared_slice_known-1.given n).fits) (omega arith) (omega arith)
    c.draw.ensures

pub draw-requires-2 : goal.draw-requires-2
draw-requires-2 c =
    let a = c.args in
    record { down_bound = (omega arith, omega arith, omega (arith, c.if-height-eq0.false), omega arith, omega arith); whole_value = c.is_whole-whole.ensures; s_bound = asks a.g a.r a.mem.now c.requires.within.0 c.requires.within.1 c.if-width-eq0.false c.if-height-eq0.false c.at-a.result a.r.height c.at-a.ensures.0 refl }

pub returns : goal.returns
returns c =
    let a = c.args in
    drawn-rows a.g a.framed a.cols.now a.w a.style a.r a.mem.now c.blanks_left-blanks.result c.placing-lift.result c.at-a.result a.r.width a.r.height _
    c.blanks_left-blanks.ensures.0 c.placing-lift.ensures c.at-a.ensures.0 refl refl c.requires.within.0 c.requires.within.1 (λ n. (c.slice_known-1.given n).fits) (λ n. (c.shared_slice_known-1.given n).fits) (omega arith) (omega arith)
    c.draw-2.ensures
