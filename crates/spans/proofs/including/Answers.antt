-- `spans::including` meets its contract: an empty span takes the column, any other is widened. Assumes nothing.
use mathlib.Core.Path.{ap₂}
use borrow.Author.Rules.{rules}
use borrow.Author.Tests.{eq-eqb, ne_eqb}
use Rattle.paper.specs.Strokes.{span_of, grown}
use Rattle.spans.proofs.including.Goals as goal

pub returns-then-to-eq0 : goal.returns-then-to-eq0
unfolding grown
returns-then-to-eq0 c =
    rw (eq-eqb _ _ c.if-to-eq0.true)

pub returns-else-to-eq0 : goal.returns-else-to-eq0
unfolding grown
returns-else-to-eq0 c =
    rw (ne_eqb _ _ c.if-to-eq0.false)
    (ap₂ span_of c.min.ensures c.max.ensures)
