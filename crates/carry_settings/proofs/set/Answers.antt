-- `carry_settings::set` meets its contract: 14, then 15, then 11. Assumes nothing.
use mathlib.Core.Path.{◌≡◌, refl, sym, ap, ap₂, ◌∙◌}
use mathlib.Core.Bool.{false, not, ◌&&◌}
use Rattle.paper.specs.declared.Command.TheVariants.{Set}
use Rattle.paper.specs.Carry.{is_held, not_carried_value, is_write, asks, carried_out}
use Rattle.carry_state.proofs.Answers.{is_14, is_15, is_11, is_10, says, ends_at}
use Rattle.paper.specs.declared.Settings.{Settings}
use Rattle.paper.specs.Settings.{with_settings}
use Rattle.carry_settings.proofs.set.Goals as goal

-- ---- what each way gives

pub returns-then-not_carried_value : goal.returns-then-not_carried_value
unfolding asks carried_out
returns-then-not_carried_value c font =
    says c.ends.ensures (is_14 _ font _ (Set _ _) (sym c.not_carried_value.ensures ∙ c.if-not_carried_value.true))

pub returns-then-is_write-held : goal.returns-then-is_write-held
unfolding asks carried_out
returns-then-is_write-held c font =
    let is_carried : let a = c.args in not_carried_value a.key a.n ≡ false = sym c.not_carried_value.ensures ∙ c.if-not_carried_value.false in
    says c.ends-then-is_write-held.ensures
    (is_15 _ font _ (Set _ _) is_carried
    (sym (ap₂ ◌&&◌ c.is_write.ensures c.requires) ∙ c.if-is_write-held.true))

pub returns-then-in_domain : goal.returns-then-in_domain
unfolding asks carried_out
returns-then-in_domain c font =
    let is_carried : let a = c.args in not_carried_value a.key a.n ≡ false = sym c.not_carried_value.ensures ∙ c.if-not_carried_value.false in
    let is_free : let a = c.args in (is_write a.key && is_held a.s.hold) ≡ false = sym (ap₂ ◌&&◌ c.is_write.ensures c.requires) ∙ c.if-is_write-held.false in
    let a = c.args in
    says
    (ends_at c.ends-then-in_domain.ensures (ap (λ (v : Settings). with_settings a.s v) c.with_setting-settings.ensures))
    (is_10 _ font _ (Set _ _)
    (record {
      carried = is_carried;
      owner = is_free;
      domain = ap not (sym c.in_domain.ensures ∙ c.if-in_domain.true);
      defined = refl;
      room = refl;
      stored = refl;
    }))

pub returns : goal.returns
unfolding asks carried_out
returns c font =
    let is_carried : let a = c.args in not_carried_value a.key a.n ≡ false = sym c.not_carried_value.ensures ∙ c.if-not_carried_value.false in
    let is_free : let a = c.args in (is_write a.key && is_held a.s.hold) ≡ false = sym (ap₂ ◌&&◌ c.is_write.ensures c.requires) ∙ c.if-is_write-held.false in
    says c.ends-2.ensures
    (is_11 _ font _ (Set _ _) is_carried is_free
    (ap not (sym c.in_domain.ensures ∙ c.if-in_domain.false)))
