-- `state_settings::not_carried_value` meets its contract: the derived `==` and the range are the paper's test. Assumes nothing.
use borrow.Author.Rules.{rules}
use mathlib.Core.Path.{◌≡◌, ◌∙◌}
use Rattle.paper.specs.Reading.{between}
use Rattle.state_settings.proofs.Keys.{same_width}
use Rattle.state_settings.proofs.not_carried_value.Goals as goal

pub returns-then-eq : goal.returns-then-eq
returns-then-eq c =
    let inside : c.contains.result ≡ between 2 3 c.args.n = search rules in
    let same = same_width c.args.key c.args.n in
    let is_width = c.if-eq.ensures in
    inside ∙ (rw (← is_width) at same)

pub returns-else-eq : goal.returns-else-eq
returns-else-eq c =
    let same = same_width c.args.key c.args.n in
    let is_another = c.if-eq.ensures in
    c.if-eq.false ∙ (rw (← is_another) at same)
