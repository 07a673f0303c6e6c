-- `view_text::text_of` meets its contract: what is written into an empty string is its text. Assumes nothing.
use mathlib.Core.Path.{ap, ◌∙◌}
use Rattle.std.proofs.Common.{List, ℕ, ◌++◌}
use Rattle.std.proofs.lemmas.Fmt.{contents_after_writes}
use Rattle.std.proofs.lemmas.Option.{IfSome_then}
use Rattle.view_text.proofs.text_of.Goals as goal

pub returns-in-Ok : goal.returns-in-Ok
returns-in-Ok g c =
    IfSome_then (g.D.Display.output c.args.value.now) c.in-Ok.ensures.writes
    (λ bytes w.
    contents_after_writes _ (λ t. t.bytes) (λ _ _ _ e. e) _ bytes _ w
    ∙ ap (λ (start : List ℕ). start ++ bytes) c.new-text.ensures)
