-- `cells_tall::whole` meets its contract. The loop's invariant: the glyph's columns so far are stored, and the next goes to address a.
-- Assumes nothing.
use denote.Param.{number}
use Rattle.cells_tall.specs.contracts.whole.{FLIP-type}
use Rattle.cells_tall.proofs.Columns.{Stored}
use Rattle.cells_tall.proofs.whole.Given as goal

abbrev pub invariant-loop-column : goal.invariant-loop-column
invariant-loop-column g l =
    Stored l.f.cols.now l.f.blanks l.f.lift l.f.style (FLIP-type (number g.row.FLIP)) l.to.times l.to.step l.from l.initial.mem l.mem l.a l.column-index
