-- `carry_windows::select` meets its contract: 15 while held, then 11, then 17. Assumes nothing.
use mathlib.Core.Path.{refl, sym, ap, ◌∙◌}
use mathlib.Core.Bool.{not}
use borrow.Author.Tests.{lt-ltb, le-ltb}
use Rattle.paper.specs.declared.Command.TheVariants.{Select}
use Rattle.paper.specs.Carry.{asks, carried_out}
use Rattle.carry_state.proofs.Answers.{is_15, is_11, is_17, is_10, says}
use Rattle.carry_windows.proofs.select.Goals as goal

pub returns-then-held : goal.returns-then-held
unfolding asks carried_out
returns-then-held c font =
    says c.ends.ensures (is_15 _ font _ (Select _) refl (sym c.requires ∙ c.if-held.true))

pub returns-then-k-gt4 : goal.returns-then-k-gt4
unfolding asks carried_out
returns-then-k-gt4 c font =
    says c.ends-then-k-gt4.ensures
    (is_11 _ font _ (Select _) refl (sym c.requires ∙ c.if-held.false)
    (lt-ltb 4 _ c.if-k-gt4.true))

pub returns-then-selectable : goal.returns-then-selectable
unfolding asks carried_out
returns-then-selectable c font =
    says c.ends-then-selectable.ensures
    (is_10 _ font _ (Select _)
    (record {
      carried = refl;
      owner = sym c.requires
          ∙ c.if-held.false;
      domain = le-ltb 4 _ c.if-k-gt4.false;
      defined = ap not
          (sym c.selectable.ensures
          ∙ c.if-selectable.true);
      room = refl;
      stored = refl;
    }))

pub returns : goal.returns
unfolding asks carried_out
returns c font =
    says c.ends-2.ensures
    (is_17 _ font _ (Select _) refl
    (sym c.requires ∙ c.if-held.false)
    (le-ltb 4 _ c.if-k-gt4.false)
    (ap not (sym c.selectable.ensures ∙ c.if-selectable.false)))
