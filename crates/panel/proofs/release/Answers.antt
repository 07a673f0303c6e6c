-- `panel::release` meets its contract: the call for any module, for this one. Assumes nothing.
use borrow.Author.Rules.{rules}
use Rattle.panel.proofs.release.Goals as goal

pub returns : goal.returns
returns c =
    rw c.small.ensures at c.release.ensures
