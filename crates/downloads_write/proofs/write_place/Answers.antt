-- `downloads_write::write_place` meets its contract. The loop's invariant: the first r bytes are written, as far as there is room. Assumes
-- nothing.
use mathlib.Core.Path.{◌≡◌, ◌∙◌}
use Prim.Native.Nat.{◌+◌}
use native.Mathlib.Omega.{arith}
use Rattle.downloads_write.proofs.Turns.{partly, partly_starts, partly_length, partly_on, partly_past, partly_ends}
use Rattle.downloads_write.proofs.write_place.Goals as goal
use Rattle.downloads_write.proofs.write_place.Goals.{then-from-r, else-from-r}

pub loop-r-init : goal.loop-r-init
loop-r-init c =
    let a = c.args in (omega arith, omega arith, partly_starts c.unwrap_or-k.result a.bytes _)

pub loop-r-preserved : goal.loop-r-preserved
loop-r-preserved c =
    let a = c.args in
    let l = c.loop-r in
    let k = c.unwrap_or-k.result in
    let next : c.if-from-r.ds ≡ partly k a.bytes (l.r + 1) a.ds.now = (elim c.if-from-r.branch [
      | then-from-r w ↦ w.ds-is ∙ partly_on k a.bytes a.ds.now l.ds l.r l.invariant.2 (omega arith) (omega (arith, w.if-from-r.true, l.invariant.1))
      | else-from-r w ↦ w.ds-is ∙ partly_past k a.bytes a.ds.now l.ds l.r l.invariant.2 (omega (arith, w.if-from-r.false, l.invariant.1))
    ]) in
    (omega arith, partly_length k a.bytes a.ds.now _ (l.r + 1) next, next)

pub returns : goal.returns
returns c =
    let a = c.args in
    let l = c.loop-r in
    rw (← c.unwrap_or-k.ensures) (partly_ends c.unwrap_or-k.result a.bytes _ _ l.r l.invariant.2 (omega arith))
