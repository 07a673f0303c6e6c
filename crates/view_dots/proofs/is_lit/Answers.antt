-- `view_dots::is_lit` is safe and answers the paper's dot of the glass byte.
use mathlib.Core.Path.{refl}
use Rattle.paper.specs.Panel.{panel}
use Rattle.view_dots.specs.Picture.{glass_dot}
use Rattle.view_dots.proofs.is_lit.Goals as goal

pub returns : goal.returns
unfolding panel glass_dot
returns c =
    refl
