-- `face_glass::refresh` meets its contract: a record of another length, or the refresh on the state that it stands for. Assumes nothing.
use mathlib.Core.Path.{ap, ◌∙◌}
use Rattle.record_read.specs.Record.{state_of}
use Rattle.face.proofs.Parts.{store_lent}
use Rattle.face.proofs.Calls.{refresh_length, refresh_told}
use Rattle.face_glass.proofs.refresh.Goals as goal

pub returns-then-state-ne-RECORD : goal.returns-then-state-ne-RECORD
returns-then-state-ne-RECORD c =
    refresh_length c.args.g c.args.state.now c.if-state-ne-RECORD.true c.args.mem.now c.args.glass.now

pub refresh-r-requires : goal.refresh-r-requires
refresh-r-requires c =
    c.requires

pub returns : goal.returns
returns c =
    let l = c.args.state.now in
    let first = rw c.unwrap.ensures at c.first_chunk.ensures.cases in
    refresh_told c.args.g l c.if-state-ne-RECORD.false _ _ _ (store_lent l c.if-state-ne-RECORD.false) _ (c.state_of-s.ensures ∙ ap state_of first.same)
    c.args.mem.now c.args.glass.now _ _
    c.refresh-r.ensures
    c.refusal_number-answer.ensures
    c.keep_spans.ensures
