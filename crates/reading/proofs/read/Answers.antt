-- `read` meets its contract: the next column of a download has its place. Assumes nothing.
use Rattle.reading.proofs.Columns.{has_place}
use Rattle.reading.proofs.read.Goals as goal

pub with_column-requires : goal.with_column-requires
with_column-requires c =
    has_place _ _ _ _ _ c.in-GlyphByte.is c.requires
