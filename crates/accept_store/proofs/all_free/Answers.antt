-- `accept_store::all_free` meets its contract: its bytes are the places'. Assumes nothing.
use mathlib.Core.Path.{◌∙◌}
use borrow.Author.Rules.{rules}
use Rattle.accept_store.proofs.Zeros.{zeros_free}
use Rattle.accept_store.proofs.all_free.Goals as goal

pub returns : goal.returns
returns c =
    c.all_zero.ensures ∙ zeros_free c.args.ds.now (search rules)
