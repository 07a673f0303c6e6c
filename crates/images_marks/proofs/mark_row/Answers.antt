-- `images_marks::mark_row` meets its contract. Assumes nothing.
use Rattle.images_marks.specs.Marks.{row_mark}
use Rattle.images_marks.proofs.mark_row.Goals as goal

pub returns : goal.returns
unfolding row_mark
returns c =
    rw (c.mark.ensures, c.min-end.ensures, c.min-top.ensures, c.min-right.ensures, c.min-left.ensures)
