-- `dots_pull::pull_one` meets its contract. Assumes nothing.
use mathlib.Core.Path.{ap₂}
use Prim.Native.Nat.{ℕ}
use lib.ListN.{get_or, set}
use Rattle.dots_pull.proofs.pull_one.Goals as goal

pub returns : goal.returns
returns c =
    let m = c.args.mem.now in
    ap₂ (λ (to from : ℕ). set m to (get_or m from 0)) c.at-to.ensures.0 c.at-from.ensures.0
