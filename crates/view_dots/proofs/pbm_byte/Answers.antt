-- `view_dots::pbm_byte` is safe and gives the byte of eight dots.
use native.Mathlib.Nat.{add-zero}
use mathlib.Core.Path.{refl}
use Prim.Native.Nat.{◌*◌}
use Rattle.paper.specs.Panel.{byte_of}
use Rattle.view_dots.specs.Picture.{pbm_byte}
use Rattle.view_dots.proofs.pbm_byte.Goals as goal

pub returns : goal.returns
unfolding pbm_byte byte_of
returns c =
    rw (
      add-zero (8 * c.args.k),
      c.worth_of-8.ensures.0,
      c.worth_of-7.ensures.0,
      c.worth_of-6.ensures.0,
      c.worth_of-5.ensures.0,
      c.worth_of-4.ensures.0,
      c.worth_of-3.ensures.0,
      c.worth_of-2.ensures.0,
      c.worth_of.ensures.0,
    )
    refl
