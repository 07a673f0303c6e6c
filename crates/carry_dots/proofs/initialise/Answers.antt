-- `carry_dots::initialise` meets its contract: 15 while held. Assumes nothing.
use mathlib.Core.Path.{refl, sym, ◌∙◌}
use Rattle.paper.specs.declared.Command.TheVariants.{Initialise}
use Rattle.paper.specs.Numbers.{outcome_number}
use Rattle.paper.specs.Downloads.{faces}
use Rattle.paper.specs.Carry.{asks, carried_out, leaves}
use Rattle.carry_state.proofs.Answers.{is_15, is_10, store_answered, store_carried}
use Rattle.carry_dots.proofs.Wrote.{does_answer, does_erase}
use Rattle.carry_dots.proofs.initialise.Goals as goal

pub returns-then-held : goal.returns-then-held
unfolding asks carried_out outcome_number
returns-then-held c font =
    let a = c.args in
    let f = faces font a.store.now in
    let e = is_15 a.g f a.s Initialise refl (sym c.requires.1 ∙ c.if-held.true) in
    (does_answer c.ends.ensures e, store_answered a.g f a.s Initialise e refl)

pub returns : goal.returns
unfolding asks carried_out leaves outcome_number
returns c font =
    let a = c.args in
    let f = faces font a.store.now in
    let e = is_10 a.g f a.s Initialise
    (record {
      carried = refl;
      owner = sym c.requires.1 ∙ c.if-held.false;
      domain = refl;
      defined = refl;
      room = refl;
      stored = refl;
    }) in (
      does_erase a.s c.erase-spans.ensures.0 c.erase-spans.ensures.1 c.initial_state-t.ensures c.ends-2.ensures e,
      c.erase_all.ensures ∙ store_carried a.g f a.s Initialise e refl,
    )
