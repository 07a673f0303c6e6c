-- `carry_state::mode` meets its contract. Assumes nothing.
use mathlib.Core.Path.{refl}
use Rattle.paper.specs.declared.Command.TheVariants.{Mode}
use Rattle.paper.specs.Carry.{asks, carried_out}
use Rattle.carry_state.proofs.Answers.{is_10, says, ends_at}
use Rattle.carry_state.proofs.mode.Goals as goal

pub returns : goal.returns
unfolding asks carried_out
returns c font =
    says (ends_at c.ends.ensures c.in_mode.ensures)
    (is_10 _ font _ (Mode _) (record { carried = refl; owner = refl; domain = refl; defined = refl; room = refl; stored = refl }))
