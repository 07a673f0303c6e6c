-- `downloads_write::put` meets its contract. Assumes nothing.
use Rattle.laws_downloads.proofs.Kept.{for_places}
use Rattle.downloads_write.proofs.put.Goals as goal

pub write_place-requires : goal.write_place-requires
write_place-requires c =
    rw c.place_for-place.ensures (for_places _ _)
