-- `runs_line::drawn_to` meets its contract. Assumes nothing.
use Rattle.runs_line.proofs.drawn_to.Goals as goal

pub returns : goal.returns
returns c =
    rw (c.place-spot.ensures, c.marked.ensures)
