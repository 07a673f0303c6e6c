-- `accept_store::is_free` meets its contract: byte by byte. Assumes nothing.
use Rattle.std.proofs.Common.{◌≡◌, ◌+◌, ◌*◌, ◌-◌, eqb}
use native.Mathlib.Omega.{arith}
use borrow.Author.Rules.{rules}
use Rattle.paper.specs.Bounds.{is_free}
use Rattle.downloads.proofs.Listed.{part_tested}
use Rattle.accept_store.proofs.is_free.Goals as goal

pub returns : goal.returns
unfolding is_free
returns c =
    let k = c.args.k in
    let nine : 9 * k + 9 - 9 * k ≡ 9 = omega arith in
    rw (c.all_zero.ensures, nine) (part_tested (λ b. eqb b 0) c.args.ds.now (9 * k) 9 (search rules))
