-- `face_hold::release` meets its contract: a record of another length, or the release on the state that it stands for. Assumes nothing.
use mathlib.Core.Path.{refl, ap, ◌∙◌}
use Rattle.record_read.specs.Record.{state_of}
use Rattle.face.proofs.Parts.{store_lent}
use Rattle.face.proofs.Calls.{release_length, release_told}
use Rattle.face_hold.proofs.release.Goals as goal

pub returns-then-state-ne-RECORD : goal.returns-then-state-ne-RECORD
returns-then-state-ne-RECORD c =
    release_length c.args.g c.args.state.now c.if-state-ne-RECORD.true

pub returns : goal.returns
returns c =
    let l = c.args.state.now in
    let long = c.if-state-ne-RECORD.false in
    let first = rw c.unwrap.ensures at c.first_chunk.ensures.cases in
    c.told.ensures
    ∙ release_told c.args.g l long _ _ _ (store_lent l long) _ (c.state_of-s.ensures ∙ ap state_of first.same) _ c.release-released.ensures refl refl
