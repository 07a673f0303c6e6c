-- `spans_ok` meets its contract: span by span. Assumes nothing.
use Rattle.std.proofs.Common.{rules, ◌≡◌, List, [], ◌∷◌, refl, ap, ◌∙◌}
use Rattle.std.specs.List.{list_all}
use Rattle.std.proofs.lemmas.Iterator.{YieldsList-from_slice}
use Rattle.std.proofs.lemmas.Iterator.Search.{all_from_yields_List}
use borrow.Author.Tests.{tests}
use mathlib.Core.Bool.{Bool, ◌&&◌}
use Rattle.paper.specs.declared.Module.{Module}
use Rattle.paper.specs.declared.Span.{Span}
use Rattle.paper.specs.Bounds.{span_ok, spans_ok}
use Rattle.accept.proofs.spans_ok.Goals as goal

each_ok : (g : Module) (ps : List Span) → list_all (span_ok g) ps ≡ spans_ok g ps
each_ok g [] = refl
each_ok g (p ∷ ps) = ap (λ (b : Bool). span_ok g p && b) (each_ok g ps)

pub returns : goal.returns
returns c =
    all_from_yields_List (span_ok c.args.g) _ _ _ c.all.ensures.ran (YieldsList-from_slice c.args.ps cc) (λ x b q k. search (rules, tests))
    ∙ each_ok c.args.g c.args.ps
