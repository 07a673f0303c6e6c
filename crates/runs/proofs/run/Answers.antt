-- `runs::run` meets its contract. The loop's invariant: what is left gives what the whole run gives. Assumes nothing.
use mathlib.Core.Path.{◌∙◌}
use native.Mathlib.Omega.{arith}
use Rattle.glyphs.specs.Faces.{faces_of}
use Rattle.paper.specs.Cells.{cell_width, cell_height}
use Rattle.laws_state.proofs.Runs.{within_room}
use Rattle.runs_line.proofs.Lining.{went_begin}
use Rattle.runs.proofs.Running.{went_on, ran_stop, ran_end}
use Rattle.runs.proofs.run.Goals as goal

pub loop-i-init : goal.loop-i-init
loop-i-init c =
    let a = c.args in
    went_begin a.g (faces_of a.faces) _ _ a.p a.mem.now a.piece.now a.from c.requires.usable.1.0.place
    c.requires.from_in_bounds.0

pub shape_of-mem-then-b-lt32 : goal.shape_of-mem-then-b-lt32
shape_of-mem-then-b-lt32 c =
    c.loop-i.invariant.size

pub returns-then-b-lt32 : goal.returns-then-b-lt32
returns-then-b-lt32 c =
    let a = c.args in
    ran_stop a.g (faces_of a.faces) a.w a.style a.p a.mem.now a.piece.now a.from c.loop-i.q c.loop-i.mem
    c.loop-i.i (rw c.cell_of-cell.ensures at c.loop-i.invariant) (omega arith) c.requires.from_in_bounds.1 (omega arith)

pub stretch-r-requires : goal.stretch-r-requires
stretch-r-requires c =
    let a = c.args in
    let k = c.loop-i.invariant in
    let pre = c.requires.usable in
    let fits = pre.1.1.1 in
    let room = within_room a.g a.p.view c.loop-i.q.view (cell_width a.g a.w a.style) (cell_height a.style) pre.1.0 k.within in
    rw c.cell_of-cell.ensures (record {
      usable = (pre.0, (room, (pre.1.1.0, record { size = k.size ∙ fits.size; small = fits.small })));
      from_in_bounds = (omega arith, omega arith, omega arith);
    })

pub loop-i-smaller : goal.loop-i-smaller
loop-i-smaller c =
    let stretched = c.stretch-r.ensures in omega (arith, stretched.0, stretched.1.high)

pub loop-i-preserved : goal.loop-i-preserved
loop-i-preserved c =
    let a = c.args in
    went_on a.g (faces_of a.faces) _ _ a.p a.mem.now a.piece.now a.from c.loop-i.q c.loop-i.mem
    c.loop-i.i c.loop-i.invariant c.stretch-r.ensures.1

pub shape_of-mem : goal.shape_of-mem
shape_of-mem c =
    c.loop-i.invariant.size

pub returns : goal.returns
returns c =
    let a = c.args in
    ran_end a.g (faces_of a.faces) a.w a.style a.p a.mem.now a.piece.now a.from c.loop-i.q c.loop-i.mem
    c.loop-i.i (rw c.cell_of-cell.ensures at c.loop-i.invariant) c.requires.from_in_bounds.0 (omega arith)
