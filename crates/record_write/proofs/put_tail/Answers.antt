-- `put_tail` meets its contract: the base window, the hold, what is half read and the spans, one after the other.
-- Assumes nothing.
use Prim.Native.Nat.{ℕ, ◌+◌}
use native.Mathlib.Omega.{arith}
use mathlib.Core.Path.{refl, ap}
use Rattle.record_bytes.specs.Bytes.{at_hold, tail_bytes}
use Rattle.record_write.proofs.Laid.{known, after, ends, hold_length_lem}
use Rattle.record_write.proofs.put_tail.Goals as goal

-- no put has changed the length
pub put_spans-requires : goal.put_spans-requires
put_spans-requires c =
    omega (
      arith,
      c.put-3.auto.to,
      c.put-2.auto.to,
      c.put.auto.to,
      c.requires,
    )

pub returns : goal.returns
unfolding tail_bytes
returns c =
    let slots = c.half_bytes.ensures in
    after refl (known c.base_bytes.ensures c.put.ensures)
    (after (ap (λ (n : ℕ). at_hold + n) (hold_length_lem _))
    (known c.hold_bytes.ensures c.put-2.ensures)
    (after refl (known slots c.put-3.ensures)
    (ends c.put_spans.ensures)))
