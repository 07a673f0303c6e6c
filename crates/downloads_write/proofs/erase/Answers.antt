-- `downloads_write::erase` meets its contract. Assumes nothing.
use mathlib.Core.Path.{refl, ◌∙◌}
use Rattle.paper.specs.Downloads.{erased}
use Rattle.downloads_write.proofs.Written.{place_or}
use Rattle.downloads_write.proofs.erase.Goals as goal

pub returns : goal.returns
unfolding erased
returns c =
    c.write_place.ensures ∙ rw (c.place-place.ensures, place_or c.args.ds.now c.args.code) refl
