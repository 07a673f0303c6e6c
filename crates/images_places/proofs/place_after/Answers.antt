-- `images_places::place_after` meets its contract. Assumes nothing.
use Prim.Native.Nat.{◌+◌}
use native.Mathlib.Omega.{arith}
use borrow.Author.Tests.{lt-ltb, le-ltb}
use Rattle.images_places.proofs.place_after.Goals as goal

pub returns-then-row-height : goal.returns-then-row-height
returns-then-row-height c =
    let a = c.args in rw (lt-ltb (a.row + 1) a.height (omega arith))

pub returns : goal.returns
returns c =
    let a = c.args in rw (le-ltb (a.row + 1) a.height (omega arith))
