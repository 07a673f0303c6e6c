-- `turns_light::is_light` meets its contract. Assumes nothing.
use mathlib.Core.Path.{refl, sym, ◌∙◌}
use Rattle.turns_light.proofs.Lightness.{spot_tested}
use Rattle.turns_light.proofs.is_light.Goals as goal

pub returns-else-is_nothing : goal.returns-else-is_nothing
returns-else-is_nothing c =
    rw (sym c.is_nothing.ensures ∙ c.if-is_nothing.false) c.if-is_nothing.false

pub returns-then-is_light : goal.returns-then-is_light
returns-then-is_light c =
    rw (
      sym c.is_nothing.ensures ∙ c.if-is_nothing.true,
      sym c.is_light.ensures ∙ c.if-is_light.true,
      spot_tested _ _ _ _ _ _ c.spot_of.ensures c.cell_now.ensures c.is_too_large.ensures refl,
    )

pub returns-else-is_light : goal.returns-else-is_light
returns-else-is_light c =
    rw (sym c.is_nothing.ensures ∙ c.if-is_nothing.true, sym c.is_light.ensures ∙ c.if-is_light.false) c.if-is_light.false
