-- `strides::is_styling` meets its contract. Assumes nothing.
use borrow.Author.Tests.{lt-ltb, le-ltb}
use Rattle.strides.specs.Strides.{is_styling}
use Rattle.strides.proofs.is_styling.Goals as goal

pub returns-then-piece-i-lt3 : goal.returns-then-piece-i-lt3
unfolding is_styling
returns-then-piece-i-lt3 c =
    rw (lt-ltb _ 3 c.if-piece-i-lt3.true)

pub returns : goal.returns
unfolding is_styling
returns c =
    rw (le-ltb _ 3 c.if-piece-i-lt3.false)
