-- `dots_shift::move_left` meets its contract. The columns kept come from the right; the rest is zeroed. Assumes nothing.
use native.Mathlib.Omega.{arith}
use Rattle.laws_memory.proofs.Pulls.{moved_parts}
use Rattle.dots_shift.proofs.move_left.Goals as goal

pub returns : goal.returns
returns c =
    let pulling = c.pull in
    moved_parts _ _ _ _ _ _ _ _ _ _ _ (omega arith) pulling.ensures c.clear.ensures
