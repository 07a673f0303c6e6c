-- `dots::at` meets its contract: what it computes stays below the memory's length. Assumes nothing.
use mathlib.Core.Path.{refl}
use Prim.Native.Nat.{◌<◌}
use native.Mathlib.Omega.{arith}
use Rattle.paper.specs.Panel.{memory_length, address}
use Rattle.laws_memory.proofs.Addresses.{address-lt}
use Rattle.dots.proofs.at.Goals as goal

below : (c : goal.After-struct_known-1)
    → let args = c.args in address args.g args.x args.y < memory_length args.g
below c =
    let args = c.args in
    address-lt args.g args.x args.y c.requires.1 args.g.columns c.requires.0

pub overflow_mul-result : goal.overflow_mul-result
overflow_mul-result c =
    omega (arith, below c)

pub overflow_add-result : goal.overflow_add-result
overflow_add-result c =
    omega (arith, below c)

pub returns : goal.returns
returns c =
    (refl, below c)
