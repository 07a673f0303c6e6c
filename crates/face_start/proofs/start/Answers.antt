-- `face_start::start` meets its contract: a record of another length, or one that is written. Assumes nothing.
use mathlib.Core.Path.{sym, ap₂}
use mathlib.Core.List.{◌++◌}
use Rattle.face.proofs.Parts.{state_still, store_lent, store_in_lem}
use Rattle.face.proofs.Calls.{start_length, start_told}
use Rattle.face_start.proofs.start.Goals as goal

pub returns-then-state-ne-RECORD : goal.returns-then-state-ne-RECORD
returns-then-state-ne-RECORD c =
    start_length c.args.g c.args.state.now c.if-state-ne-RECORD.true c.args.mem.now

pub start-a-requires : goal.start-a-requires
start-a-requires c =
    c.requires

-- the downloads are erased in their place, and the state's bytes are lent, as many as before
pub slice_bounds-encode-end-2 : goal.slice_bounds-encode-end-2
slice_bounds-encode-end-2 c =
    sym (state_still c.args.state.now c.if-state-ne-RECORD.false c.start-a.new.store)

pub encode-requires : goal.encode-requires
encode-requires c =
    state_still c.args.state.now c.if-state-ne-RECORD.false c.start-a.new.store

pub returns : goal.returns
returns c =
    let l = c.args.state.now in
    start_told c.args.g l c.if-state-ne-RECORD.false _ _ _ (store_lent l c.if-state-ne-RECORD.false) c.args.mem.now _ _ _
    c.start-a.ensures
    c.refusal_number.ensures
    (ap₂ ◌++◌ c.encode.ensures (store_in_lem l c.if-state-ne-RECORD.false _))
