-- `accept_store::all_zero` meets its contract: the fold tests each byte. Assumes nothing.
use Rattle.std.proofs.Common.{true, eqb, ◌∙◌}
use mathlib.Core.Bool.{◌&&◌}
use borrow.Author.Rules.{rules}
use borrow.Author.Tests.{tests}
use Rattle.std.proofs.lemmas.Iterator.{YieldsList-from_slice}
use Rattle.std.proofs.lemmas.Iterator.Consumers.{fold_from_yields_List}
use Rattle.accept_store.proofs.Zeros.{fold_tested}
use Rattle.accept_store.proofs.all_zero.Goals as goal

pub returns : goal.returns
returns c =
    let xs = c.args.bytes.now in
    fold_from_yields_List _ (λ a x. a && eqb x 0) true _ c.fold.ensures.ran (YieldsList-from_slice xs cc) (λ a x b q k. search (rules, tests))
    ∙ fold_tested (λ b. eqb b 0) true xs
