-- `runs_line::line` meets its contract. The loop's invariant: the line is drawn as far as the next cell, and what is left gives what
-- the whole gives. Assumes nothing.
use mathlib.Core.Path.{◌≡◌}
use Prim.Native.Nat.{◌+◌, ◌-◌}
use lib.ListN.{length}
use Rattle.glyphs.specs.Faces.{faces_of}
use Rattle.paper.specs.Strokes.{rect_at}
use Rattle.runs_line.proofs.Lining.{Lining}
use Rattle.runs_line.proofs.line.Given as goal

abbrev pub invariant-loop-g : goal.invariant-loop-g
invariant-loop-g l =
    Lining l.g (faces_of l.faces) l.cell.blanks l.cell.style l.p l.initial.mem l.piece l.from l.cell.rows l.mem l.r.left l.i
    × (l.r ≡ rect_at l.r.left (l.p.view.top + l.p.view.y) l.cell.columns l.cell.rows)

abbrev pub decreases-loop-g : goal.decreases-loop-g
decreases-loop-g l =
    length l.piece - l.i
