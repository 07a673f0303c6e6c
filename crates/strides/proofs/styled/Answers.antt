-- `strides::styled` meets its contract. Assumes nothing.
use borrow.Author.Tests.{eq-eqb, ne_eqb}
use Rattle.strides.specs.Strides.{styled_by}
use Rattle.strides.proofs.styled.Goals as goal

pub returns-then-k-eq114 : goal.returns-then-k-eq114
unfolding styled_by
returns-then-k-eq114 c =
    rw (eq-eqb _ _ c.if-k-eq114.true)

pub returns-else-k-eq114 : goal.returns-else-k-eq114
unfolding styled_by
returns-else-k-eq114 c =
    rw (ne_eqb _ _ c.if-k-eq114.false)
