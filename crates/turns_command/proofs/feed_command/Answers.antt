-- `turns_command::feed_command` meets its contract: bytes gathered and then taken come to what they come to one by one. Assumes nothing.
use Prim.Native.Nat.{◌-◌}
use native.Mathlib.Omega.{arith}
use Rattle.laws_bytes.specs.Readings.{reading_ok}
use Rattle.laws_state.proofs.Parts.{parts}
use Rattle.paper.specs.Downloads.{faces}
use Rattle.paper.specs.Carry.{exceeds, take_of, take_store}
use Rattle.turns_command.proofs.Counts.{carried_one, answered_one, counted_by}
use Rattle.turns_gather.proofs.Onward.{heavy_where}
use Rattle.turns_light.specs.Turns.{light_start}
use Rattle.turns_light.proofs.Lightness.{not_light}
use Rattle.turns_light.proofs.Gathering.{gathers_ok, taken_reached}
use Rattle.turns_command.proofs.feed_command.Goals as goal

-- what is half read is a proper beginning of a command
pub gather-r-requires : goal.gather-r-requires
gather-r-requires c =
    let due = c.requires.0 in
    (due.inside, (parts c.args.g c.args.f.state due.ready.state_is_ok).half, c.requires.1.0)

pub take-d-requires : goal.take-d-requires
unfolding reading_ok
take-d-requires c =
    let a = c.args in
    let due = c.requires.0 in
    let gathered = c.gather-r in (
      due.ready,
      (
        gathers_ok gathered.ensures.2 (parts a.g a.f.state due.ready.state_is_ok).half,
        heavy_where (light_start a.f.state.half a.piece.now a.i) (exceeds a.g a.f.state)
            (not_light a.g a.f.state a.piece.now a.i c.requires.1.1) gathered.result.reading gathered.ensures.3,
      ),
    )

pub overflow_add-fed : goal.overflow_add-fed
overflow_add-fed c =
    let due = c.requires.0 in
    omega (arith, c.carried_by.ensures, carried_one c.take-d.result.outcome, due.inside, due.countable)

pub overflow_add-fed-2 : goal.overflow_add-fed-2
overflow_add-fed-2 c =
    let due = c.requires.0 in
    omega (arith, c.answered_by.ensures, answered_one c.take-d.result.outcome, due.inside, due.countable)

pub returns : goal.returns
returns c =
    let a = c.args in
    let due = c.requires.0 in
    let r = c.gather-r.result in
    let gathered = c.gather-r.ensures in
    let done = c.take-d.ensures a.font.now in
    let f = faces a.font.now a.store.now in
    record {
      some = gathered.0;
      end = gathered.1;
      reached =
          rw (counted_by a.g a.f c.take-d.result a.mem.now _ a.store.now _ (take_store a.g f a.f.state r.reading)
          (take_of a.g f a.f.state r.reading) _ _
          done.0 done.1 c.carried_by.ensures c.answered_by.ensures)
          (taken_reached a.g a.font.now a.f.refusal a.f.carried a.f.answered a.mem.now a.store.now a.f.state a.f.outcome
          a.piece.now a.i r.at due.inside gathered.0 gathered.1 gathered.2);
    }
