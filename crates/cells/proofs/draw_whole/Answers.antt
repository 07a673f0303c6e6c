-- `cells::draw_whole` meets its contract, by its test. Assumes nothing.
use mathlib.Core.Path.{◌≡◌, sym, ap₂, ◌∙◌}
use Prim.Native.Nat.{ℕ, ◌+◌, ◌≤◌}
use native.Mathlib.Omega.{arith}
use Rattle.paper.specs.Strokes.{rect_at}
use Rattle.glyphs_columns.specs.Columns.{plain_width}
use Rattle.cells_columns.specs.DrawnAs.{drawn_as}
use Rattle.cells.proofs.Plain.{plain_cell_facts, drawn_alike}
use Rattle.cells.proofs.draw_whole.Goals as goal
use Rattle.cells.proofs.draw_whole.Goals.{Then-plain-cell}

-- the cell is plain
plain : (c : Then-plain-cell)
    → let a = c.args in
    (a.cell.style.across ≡ 1) × (a.cell.style.down ≡ 1) × (a.cell.columns ≡ plain_width a.g a.cell.blanks) × (a.cell.blanks ≤ 1)
plain c =
    let a = c.args in
    let sum = c.blanks_left.result + a.g.glyph + c.blank_right.result in
    let p = plain_cell_facts a.cell.style a.cell.columns sum a.cell.blanks c.if-plain-cell.true in
    (p.0, p.1, omega (arith, p.2, c.blanks_left.ensures.0, c.blank_right.ensures.0), p.3)

pub stamp-requires : goal.stamp-requires
stamp-requires c =
    let p = plain (goal.at.stamp-requires c).Then-plain-cell in
    omega (arith, p.0, p.1, p.2, p.3, c.requires)

pub returns-then-plain-cell : goal.returns-then-plain-cell
returns-then-plain-cell c =
    let a = c.args in
    let p = plain (goal.at.returns-then-plain-cell c).Then-plain-cell in
    let one : 1 ≡ a.cell.rows = omega (arith, p.1, c.requires.le_across.2) in
    drawn_alike _ _ _ _ _ _ _ c.requires.within.2 (c.stamp.ensures
    ∙ ap₂ (λ (width height : ℕ). drawn_as a.g a.g.framed a.cols.now a.cell.blanks a.cell.style (rect_at a.left a.top width height)
    a.mem.now)
    (sym p.2) one)

pub returns : goal.returns
returns c =
    drawn_alike _ _ _ _ _ _ _ c.requires.within.2 c.walk_over.ensures
