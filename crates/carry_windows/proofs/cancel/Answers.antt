-- `carry_windows::cancel` meets its contract: 15 while held. Assumes nothing.
use mathlib.Core.Path.{refl, sym, ◌∙◌}
use Rattle.paper.specs.declared.Command.TheVariants.{Cancel}
use Rattle.paper.specs.Carry.{asks, carried_out}
use Rattle.carry_state.proofs.Answers.{is_15, is_10, says, ends_at}
use Rattle.carry_windows.proofs.cancel.Goals as goal

pub returns-then-held : goal.returns-then-held
unfolding asks carried_out
returns-then-held c font =
    says c.ends.ensures (is_15 _ font _ (Cancel _) refl (sym c.requires.0 ∙ c.if-held.true))

pub returns : goal.returns
unfolding asks carried_out
returns c font =
    says (ends_at c.ends-2.ensures c.cancel.ensures)
    (is_10 _ font _ (Cancel _)
    (record {
      carried = refl;
      owner = sym c.requires.0 ∙ c.if-held.false;
      domain = refl;
      defined = refl;
      room = refl;
      stored = refl;
    }))
