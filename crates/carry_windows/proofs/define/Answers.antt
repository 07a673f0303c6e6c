-- `carry_windows::define` meets its contract: 15 while held, then 11. Assumes nothing.
use mathlib.Core.Path.{refl, sym, ap, ◌∙◌}
use mathlib.Core.Bool.{not}
use Rattle.paper.specs.declared.Command.TheVariants.{Define}
use Rattle.paper.specs.Carry.{asks, carried_out}
use Rattle.carry_state.proofs.Answers.{is_15, is_11, is_10, says, ends_at}
use Rattle.carry_windows.proofs.define.Goals as goal

pub returns-then-held : goal.returns-then-held
unfolding asks carried_out
returns-then-held c font =
    says c.ends.ensures (is_15 _ font _ (Define _ _ _ _ _) refl (sym c.requires.0 ∙ c.if-held.true))

pub returns-then-fits : goal.returns-then-fits
unfolding asks carried_out
returns-then-fits c font =
    says (ends_at c.ends-then-fits.ensures c.define.ensures)
    (is_10 _ font _ (Define _ _ _ _ _)
    (record {
      carried = refl;
      owner = sym c.requires.0 ∙ c.if-held.false;
      domain = ap not (sym c.fits.ensures ∙ c.if-fits.true);
      defined = refl;
      room = refl;
      stored = refl;
    }))

pub returns : goal.returns
unfolding asks carried_out
returns c font =
    says c.ends-2.ensures
    (is_11 _ font _ (Define _ _ _ _ _) refl (sym c.requires.0 ∙ c.if-held.false)
    (ap not (sym c.fits.ensures ∙ c.if-fits.false)))
