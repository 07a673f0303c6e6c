-- `face_hold::hold` meets its contract: a record of another length, or the hold on the state that it stands for. Assumes nothing.
use mathlib.Core.Path.{refl, ap, ◌∙◌}
use Rattle.record_read.specs.Record.{state_of}
use Rattle.face.proofs.Parts.{store_lent}
use Rattle.face.proofs.Calls.{hold_length_lem, hold_told}
use Rattle.face_hold.proofs.hold.Goals as goal

pub returns-then-state-ne-RECORD : goal.returns-then-state-ne-RECORD
returns-then-state-ne-RECORD c =
    hold_length_lem c.args.g c.args.state.now c.if-state-ne-RECORD.true c.args.window

pub returns : goal.returns
returns c =
    let l = c.args.state.now in
    let long = c.if-state-ne-RECORD.false in
    let first = rw c.unwrap.ensures at c.first_chunk.ensures.cases in
    c.told.ensures
    ∙ hold_told c.args.g l long _ _ _ (store_lent l long) _ (c.state_of-s.ensures ∙ ap state_of first.same) c.args.window _ c.hold-held.ensures refl refl
