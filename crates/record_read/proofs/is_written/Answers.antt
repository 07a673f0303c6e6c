-- `is_written` meets its contract: the other bytes are those of their state. Assumes nothing.
use mathlib.Core.Path.{ap, ◌∙◌}
use Rattle.record_bytes.specs.Bytes.{slot_bytes}
use Rattle.record_read.proofs.Written.{both_tested}
use Rattle.record_read.proofs.is_written.Goals as goal

pub returns : goal.returns
returns c =
    both_tested c.args.l.now c.fits-l c.args.hold c.args.half c.told-l
    c.hold_bytes-held.ensures (c.slot_bytes-read.ensures ∙ ap slot_bytes c.into.ensures)
    c.is_at.ensures c.is_at-2.ensures
