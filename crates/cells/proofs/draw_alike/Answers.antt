-- `cells::draw_alike` meets its contract, by its test. Assumes nothing.
use mathlib.Core.Path.{◌≡◌}
use Prim.Native.Nat.{◌+◌, ◌≤◌}
use native.Mathlib.Omega.{arith}
use Rattle.glyphs_columns.specs.Columns.{plain_width}
use Rattle.cells.proofs.Plain.{plain_facts, drawn_alike}
use Rattle.cells.proofs.draw_alike.Goals as goal
use Rattle.cells.proofs.draw_alike.Goals.{Then-plain-r}

-- the cell is plain, and the rectangle all of it
whole : (c : Then-plain-r)
    → let a = c.args in
    (a.style.across ≡ 1) × (a.style.down ≡ 1) × (a.r.height ≡ 1) × (a.r.width ≡ plain_width a.g a.w) × (a.w ≤ 1)
whole c =
    let a = c.args in
    let sum = c.blanks_left.result + a.g.glyph + c.blank_right.result in
    let p = plain_facts a.style a.r.height a.r.width sum a.w c.if-plain-r.true in
    (p.0, p.1, p.2, omega (arith, p.3, c.blanks_left.ensures.0, c.blank_right.ensures.0), p.4)

pub stamp-requires : goal.stamp-requires
stamp-requires c =
    let p = whole (goal.at.stamp-requires c).Then-plain-r in
    omega (arith, p.0, p.1, p.2, p.3, p.4)

pub returns-then-plain-r : goal.returns-then-plain-r
returns-then-plain-r c =
    let a = c.args in
    let p = whole (goal.at.returns-then-plain-r c).Then-plain-r in
    drawn_alike a.g a.cols.now a.w a.style a.r a.mem.now _ c.requires.within.2
    (rw (p.2, p.3) c.stamp.ensures)

pub returns : goal.returns
returns c =
    drawn_alike _ _ _ _ _ _ _ c.requires.within.2 c.walk_over.ensures
