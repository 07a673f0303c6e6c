-- `cells_bytes::store` meets its contract: a byte's dots through reverse and mixing. Assumes nothing.
use Rattle.cells_bytes.proofs.Images.{imaged_by}
use Rattle.cells_bytes.proofs.store.Goals as goal

pub returns : goal.returns
returns c =
    imaged_by _ _ _ _ _ _ _ _ c.ranges.v.fits
    (λ a. (c.slice_known-1.given a).fits) c.reversed.ensures
    c.mix.ensures
