-- `spans::grow_row` meets its contract: its test is the definition's. Assumes nothing.
use borrow.Author.Rules.{rules}
use borrow.Author.Tests.{ltb-true}
use Rattle.paper.specs.Strokes.{grown_by}
use Rattle.laws_memory.proofs.Tests.{and_parts}
use Rattle.spans.proofs.grow_row.Goals as goal

-- what is reached has a column
pub grow_columns-requires : goal.grow_columns-requires
grow_columns-requires c =
    (ltb-true _ _ (and_parts _ _ c.if-reached.true).0, search rules)

pub returns-then-reached : goal.returns-then-reached
unfolding grown_by
returns-then-reached c =
    rw c.if-reached.true c.grow_columns.ensures

pub returns-else-reached : goal.returns-else-reached
unfolding grown_by
returns-else-reached c =
    rw c.if-reached.false
