-- `accept_note::all_stored` meets its contract: code by code. Assumes nothing.
use mathlib.Core.Path.{refl, ◌∙◌}
use Prim.Native.Nat.{◌-◌}
use borrow.Author.Rules.{rules}
use borrow.Author.Tests.{tests}
use Rattle.std.proofs.lemmas.Iterator.{YieldsList-from_range}
use Rattle.std.proofs.lemmas.Iterator.Search.{all_from_yields_List}
use Rattle.paper.specs.Downloads.{is_stored}
use Rattle.paper.specs.Bounds.{all_stored}
use Rattle.downloads.proofs.Listed.{range_tested}
use Rattle.accept_note.proofs.all_stored.Goals as goal

pub returns : goal.returns
unfolding all_stored
returns c =
    let a = c.args in
    all_from_yields_List (is_stored a.ds.now) _ _ _ c.all.ensures.ran (YieldsList-from_range a.first a.code (a.code - a.first) refl refl) (λ x b q k. search (rules, tests))
    ∙ range_tested (is_stored a.ds.now) a.first (a.code - a.first)
