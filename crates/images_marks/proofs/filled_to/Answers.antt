-- `images_marks::filled_to` meets its contract. Assumes nothing.
use Rattle.images_marks.proofs.filled_to.Goals as goal

pub returns : goal.returns
returns c =
    rw (c.mark_row-spans.ensures, c.mark_row-upper.ensures, c.min-bottom.ensures)
