-- `text_cells::inside` meets its contract. Assumes nothing.
use Rattle.text_cells.proofs.inside.Goals as goal

pub returns : goal.returns
returns c =
    rw (c.min.ensures, c.min-2.ensures)
