-- `panel_feed` meets its contract: a record of another length, or the feed for this module on the state that it stands for.
-- Assumes nothing.
use mathlib.Core.Path.{refl, ap, ◌∙◌}
use Rattle.paper.specs.declared.Module.{Module}
use Rattle.paper.specs.Panel.{panel}
use Rattle.laws_state.proofs.Views.{panel_usable}
use Rattle.face.specs.Face.{feed_c}
use Rattle.record_read.specs.Record.{state_of}
use Rattle.face.proofs.Parts.{store_lent}
use Rattle.face.proofs.Calls.{feed_length, feed_told}
use Rattle.panel_c.proofs.panel_feed.Goals as goal

pub returns-then-state-ne-RECORD : goal.returns-then-state-ne-RECORD
returns-then-state-ne-RECORD c =
    feed_length panel c.args.state.now c.if-state-ne-RECORD.true c.args.mem.now c.args.font.now c.args.piece.now

pub feed-f-requires : goal.feed-f-requires
unfolding panel
feed-f-requires c =
    rw c.small.ensures (panel_usable, refl)

pub returns : goal.returns
returns c =
    let l = c.args.state.now in
    let first = rw c.unwrap.ensures at c.first_chunk.ensures.cases in
    feed_told c.small.result l c.if-state-ne-RECORD.false _ _ _ (store_lent l c.if-state-ne-RECORD.false) _ (c.state_of-s.ensures ∙ ap state_of first.same)
    c.args.mem.now c.args.font.now c.args.piece.now _ _ _ _
    c.feed-f.ensures
    c.refusal_number-answer.ensures
    c.keep.ensures
    c.outcome_number.ensures
    ∙ ap
    (λ (x : Module).
    feed_c x l c.args.mem.now c.args.font.now c.args.piece.now)
    c.small.ensures
