-- `runs::run` meets its contract. The loop's invariant: what is left gives what the whole run gives. Assumes nothing.
use Prim.Native.Nat.{◌-◌}
use lib.ListN.{length}
use Rattle.glyphs.specs.Faces.{faces_of}
use Rattle.runs_line.specs.Went.{drawn_to, Went}
use Rattle.runs.proofs.run.Given as goal

abbrev pub invariant-loop-i : goal.invariant-loop-i
invariant-loop-i l =
    Went l.g (faces_of l.faces) l.cell.blanks l.cell.style l.initial.q l.initial.mem l.piece l.from (drawn_to l.q l.i) l.mem

abbrev pub decreases-loop-i : goal.decreases-loop-i
decreases-loop-i l =
    length l.piece - l.i
