-- `dots_shift::scroll_up` meets its contract. The rows kept come from below; the rest is zeroed. Assumes nothing.
use native.Mathlib.Omega.{arith}
use Rattle.laws_memory.proofs.Pulls.{scrolled_parts}
use Rattle.dots_shift.proofs.scroll_up.Goals as goal

pub returns : goal.returns
returns c =
    let pulling = c.pull in
    scrolled_parts _ _ _ _ _ _ _ _ _ _ _ (omega arith) pulling.ensures c.clear.ensures
