-- `cells_any::draw` meets its contract, by its tests. Assumes nothing.
use mathlib.Core.Path.{◌≡◌}
use Prim.Native.Nat.{◌≤◌}
use native.Mathlib.Omega.{arith}
use lib.ListN.{length}
use Rattle.cells_columns.proofs.Stamps.{bare_end}
use Rattle.cells_any.proofs.Bare.{bare_facts, drawn_other}
use Rattle.cells_any.proofs.draw.Goals as goal
use Rattle.cells_any.proofs.draw.Goals.{Then-plain-r}

-- the cell is not enlarged, and the glyph fills it
bare : (c : Then-plain-r)
    → let a = c.args in
    (a.style.across ≡ 1) × (a.style.down ≡ 1) × (a.r.height ≡ 1) × (a.r.width ≤ length a.cols.now)
bare c =
    let a = c.args in
    bare_facts a.style a.r.height a.r.width (length a.cols.now) c.if-plain-r.true

pub stamp_glyph-requires : goal.stamp_glyph-requires
stamp_glyph-requires c =
    let p = bare (goal.at.stamp_glyph-requires c).Then-plain-r in
    omega (arith, p.2, p.3)

pub returns-then-plain-r : goal.returns-then-plain-r
returns-then-plain-r c =
    let a = c.args in
    let p = bare (goal.at.returns-then-plain-r c).Then-plain-r in
    drawn_other a.g a.cols.now a.w a.style a.r a.mem.now _ c.if-cols-g.false (rw p.2
    (bare_end _ _ _ _ _ _ _ _ _ p.0 p.1 (λ n. (c.shared_slice_known-1.given n).fits)
    (λ a. (c.slice_known-1.given a).fits) p.3 c.stamp_glyph.ensures))

pub returns : goal.returns
returns c =
    drawn_other _ _ _ _ _ _ _ c.if-cols-g.false c.walk_over.ensures
