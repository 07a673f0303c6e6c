-- `runs::stretch` meets its contract: a line, or one character. Assumes nothing.
use native.Mathlib.Omega.{arith}
use Rattle.glyphs.specs.Faces.{faces_of}
use Rattle.runs.proofs.Lines.{room_after}
use Rattle.runs_line.proofs.Lining.{went_begin, went_next}
use Rattle.text_cells.proofs.Steps.{sized_room}
use Rattle.runs.proofs.stretch.Goals as goal

pub line-requires : goal.line-requires
line-requires c =
    let v = c.args.p.view in
    let cell = c.args.cell in
    let k = c.requires.from_in_bounds in
    record { usable = c.requires.usable; from_in_bounds = (k.0, k.1); columns_bound = room_after v.x cell.columns v.width v.y cell.rows v.height c.if-v-cell.true }

pub last-spot-requires : goal.last-spot-requires
last-spot-requires c =
    let pre = c.requires.usable in
    let inked = pre.1.1.0 in
    (pre.0, (pre.1.0, (record { whole = inked.whole; has = c.requires.from_in_bounds.1; cell = inked.cell }, pre.1.1.1)))

pub returns-else-v-cell : goal.returns-else-v-cell
returns-else-v-cell c =
    let a = c.args in
    let font = faces_of a.faces in
    let w = a.cell.blanks in
    let y = a.cell.style in
    let room = c.requires.usable.1.0 in
    let k = c.requires.from_in_bounds in
    let begun = went_begin a.g font w y a.p a.mem.now a.piece.now a.from room.place k.0 in (
      omega arith,
      went_next a.g font w y a.p a.mem.now a.piece.now a.from a.p a.mem.now a.from begun
          (sized_room a.cell c.requires.usable.1.1.0.cell room) k.0 k.1 c.last-spot.ensures c.last-spot.auto.mem,
    )
