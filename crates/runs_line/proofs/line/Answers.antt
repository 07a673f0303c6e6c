-- `runs_line::line` meets its contract. The loop's invariant: the line is drawn as far as the next cell, and what is left gives what
-- the whole gives. Assumes nothing.
use mathlib.Core.Path.{refl, sym, ap, ◌∙◌}
use Prim.Native.Nat.{◌+◌, ◌*◌, ◌<◌, ◌≤◌}
use native.Mathlib.Omega.{arith}
use lib.ListN.{length, get_or}
use Rattle.paper.specs.declared.Rect.{Rect}
use Rattle.glyphs.specs.Faces.{faces_of}
use Rattle.paper.specs.Strokes.{rect_at}
use Rattle.text_cells.proofs.Steps.{sized_room}
use Rattle.runs_line.proofs.Lining.{lining_begin, room_for, lining_next, lining_end}
use Rattle.runs_line.proofs.line.Goals as goal
use Rattle.runs_line.proofs.line.Goals.{In-loop-g}

-- there is a character more, and room after it
more : (c : In-loop-g)
    → let a = c.args in
    (c.loop-g.i < length a.piece.now) × (0x20 ≤ get_or a.piece.now c.loop-g.i 0)
    × (c.loop-g.r.left + 2 * a.cell.columns ≤ a.p.view.left + a.p.view.width)
more c =
    let a = c.args in
    room_for a.piece.now c.loop-g.i (c.loop-g.r.left + 2 * a.cell.columns) (a.p.view.left + a.p.view.width)
    (sym c.goes_on.ensures ∙ c.loop-g-test.true)

pub loop-g-init : goal.loop-g-init
loop-g-init c =
    let a = c.args in (
      lining_begin a.g (faces_of a.faces) a.cell.blanks a.cell.style a.p a.mem.now a.piece.now a.from
          a.cell.rows c.requires.usable.1.0.place c.requires.from_in_bounds.0,
      refl,
    )

-- the next column can be counted
pub overflow_add-r-in-loop-g : goal.overflow_add-r-in-loop-g
overflow_add-r-in-loop-g c =
    omega (arith, c.loop-g.invariant.0.on, c.loop-g.invariant.0.went.within.x)

pub bounds-piece-i : goal.bounds-piece-i
bounds-piece-i c =
    (more (goal.at.bounds-piece-i c).In-loop-g).0

pub draw_code-requires : goal.draw_code-requires
draw_code-requires c =
    let a = c.args in
    let k = c.loop-g.invariant.0 in
    let f = more (goal.at.draw_code-requires c).In-loop-g in
    let room = c.requires.usable.1.0 in
    let inked = c.requires.usable.1.1.0 in
    let fits = c.requires.usable.1.1.1 in
    rw c.loop-g.invariant.1 (record {
      within = (
        record { across = omega (arith, f.2, room.place.across); down = omega (arith, c.requires.columns_bound.1, room.place.down) },
        record { size = k.went.size ∙ fits.size; small = fits.small },
        inked.whole,
        f.1,
      );
      le_across = (inked.cell.across_some, inked.cell.down, inked.cell.rows);
      width_value = (refl, refl);
    })

pub overflow_add-r-in-loop-g-2 : goal.overflow_add-r-in-loop-g-2
overflow_add-r-in-loop-g-2 c =
    omega (arith, c.loop-g.invariant.0.on, c.loop-g.invariant.0.went.within.x)

pub overflow_add-i : goal.overflow_add-i
overflow_add-i c =
    omega (arith, (more (goal.at.overflow_add-i c).In-loop-g).0)

pub loop-g-smaller : goal.loop-g-smaller
loop-g-smaller c =
    let f = more (goal.at.loop-g-smaller c).In-loop-g in
    omega (arith, f.0)

pub loop-g-preserved : goal.loop-g-preserved
loop-g-preserved c =
    let a = c.args in
    let w = a.cell.blanks in
    let y = a.cell.style in
    let size = c.requires.usable.1.1.0.cell in
    let f = more (goal.at.loop-g-preserved c).In-loop-g in
    let room = sized_room a.cell size c.requires.usable.1.0 in (
      rw size.columns
          (lining_next a.g (faces_of a.faces) w y a.p a.mem.now a.piece.now a.from a.cell.rows c.loop-g.mem
          c.loop-g.r.left c.loop-g.i c.loop-g.invariant.0 room size.rows f.0 f.1 (rw size.columns at f.2) c.requires.columns_bound.1
          (rw (c.loop-g.invariant.1, size.columns) at c.draw_code.ensures) c.draw_code.auto.mem),
      ap (λ (q : Rect). rect_at (c.loop-g.r.left + a.cell.columns) q.top q.width q.height) c.loop-g.invariant.1,
    )

pub drawn_to-requires : goal.drawn_to-requires
drawn_to-requires c =
    let k = c.loop-g.invariant in
    omega (arith, k.0.on, k.0.went.within.x, ap (λ (q : Rect). q.height) k.1)

pub shape_of-mem : goal.shape_of-mem
shape_of-mem c =
    c.loop-g.invariant.0.went.size

pub returns : goal.returns
returns c =
    let a = c.args in
    let k = c.loop-g.invariant.0 in
    rw (c.drawn_to.ensures, ap (λ (q : Rect). q.height) c.loop-g.invariant.1) (
      lining_end a.g (faces_of a.faces) a.cell.blanks a.cell.style a.p a.mem.now a.piece.now a.from
          a.cell.rows c.loop-g.mem c.loop-g.r.left c.loop-g.i k a.cell.columns c.requires.from_in_bounds.1 c.requires.columns_bound.0
          (sym c.goes_on.ensures ∙ c.loop-g-test.false),
      k.went,
    )
