-- `accept_store::store_ok` meets its contract: where nothing is stored, every place is accepted. Assumes nothing.
use mathlib.Core.Path.{◌≡◌, sym, ◌∙◌}
use mathlib.Core.Bool.{true}
use lib.ListN.{length}
use borrow.Author.Rules.{rules}
use Rattle.paper.specs.Downloads.{store_length}
use Rattle.accept_store.specs.Tests.{all_free}
use Rattle.accept_store.proofs.Places.{free_ok}
use Rattle.accept_store.proofs.store_ok.Goals as goal

pub returns-then-all_free : goal.returns-then-all_free
returns-then-all_free c =
    let n : length c.args.ds.now ≡ store_length = search rules in
    let free : all_free c.args.ds.now ≡ true = search rules in
    c.if-all_free.true ∙ sym (free_ok c.args.ds.now n free)
