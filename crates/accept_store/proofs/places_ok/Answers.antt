-- `accept_store::places_ok` meets its contract: place by place. Assumes nothing.
use mathlib.Core.Path.{refl, ◌∙◌}
use borrow.Author.Rules.{rules}
use borrow.Author.Tests.{tests}
use Rattle.std.proofs.lemmas.Iterator.{YieldsList-from_range}
use Rattle.std.proofs.lemmas.Iterator.Search.{all_from_yields_List}
use Rattle.paper.specs.Bounds.{place_ok}
use Rattle.downloads.proofs.Listed.{range_tested}
use Rattle.accept_store.proofs.places_ok.Goals as goal

pub returns : goal.returns
returns c =
    all_from_yields_List (place_ok c.args.ds.now) _ _ _ c.all.ensures.ran (YieldsList-from_range 0 16 16 refl refl) (λ x b q k. search (rules, tests))
    ∙ range_tested (place_ok c.args.ds.now) 0 16
