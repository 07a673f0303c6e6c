-- `carry_settings::enlarge` meets its contract. Assumes nothing.
use mathlib.Core.Path.{refl, sym, ap, ◌∙◌}
use mathlib.Core.Bool.{not}
use Rattle.paper.specs.declared.Command.TheVariants.{Enlarge}
use Rattle.paper.specs.Carry.{asks, carried_out}
use Rattle.carry_state.proofs.Answers.{is_11, is_10, says, ends_at}
use Rattle.paper.specs.declared.Settings.{Settings}
use Rattle.paper.specs.Settings.{with_settings}
use Rattle.carry_settings.proofs.enlarge.Goals as goal

pub returns-then-in_enlargement : goal.returns-then-in_enlargement
unfolding asks carried_out
returns-then-in_enlargement c font =
    says
    (ends_at c.ends.ensures
    (ap (λ (v : Settings). with_settings c.args.s v) c.enlarge-settings.ensures))
    (is_10 _ font _ (Enlarge _ _)
    (record {
      carried = refl;
      owner = refl;
      domain = ap not (sym c.in_enlargement.ensures ∙ c.if-in_enlargement.true);
      defined = refl;
      room = refl;
      stored = refl;
    }))

pub returns : goal.returns
unfolding asks carried_out
returns c font =
    says c.ends-2.ensures
    (is_11 _ font _ (Enlarge _ _) refl refl (ap not (sym c.in_enlargement.ensures ∙ c.if-in_enlargement.false)))
