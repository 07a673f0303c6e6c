-- `state_of` meets its contract: with nothing held or half read the bytes are the state's own, else they are tested.
-- Assumes nothing.
use mathlib.Core.Path.{◌∙◌}
use Rattle.record_read.proofs.Idle.{idle_stands}
use Rattle.record_read.proofs.Stands.{busy_stands, busy_stands_broken}
use Rattle.record_read.proofs.state_of.Goals as goal

pub returns-then-is_idle : goal.returns-then-is_idle
returns-then-is_idle c =
    c.decode_with-s.ensures
    ∙ idle_stands c.args.l.now c.fits-l c.told-l (c.is_idle.ensures c.if-is_idle.true)

pub returns-then-is_written : goal.returns-then-is_written
returns-then-is_written c =
    busy_stands c.args.l.now c.decode_with-s.ensures
    c.hold_at-hold.ensures c.half_of-half.ensures c.slots_at.ensures
    c.is_written.ensures c.if-is_written.true

pub returns : goal.returns
returns c =
    busy_stands_broken c.args.l.now c.decode_with-s.ensures
    c.hold_at-hold.ensures c.half_of-half.ensures c.slots_at.ensures
    c.is_written.ensures c.if-is_written.false
