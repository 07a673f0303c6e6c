-- `strides::is_light` meets its contract. Assumes nothing.
use mathlib.Core.Path.{◌∙◌, sym}
use borrow.Author.Tests.{le-leb, lt-leb}
use Rattle.strides.specs.Strides.{is_light}
use Rattle.strides.proofs.is_light.Goals as goal

pub returns-then-b-ge32 : goal.returns-then-b-ge32
unfolding is_light
returns-then-b-ge32 c =
    rw (le-leb 0x20 _ c.if-b-ge32.true)

pub returns-then-is_move : goal.returns-then-is_move
unfolding is_light
returns-then-is_move c =
    rw (lt-leb 0x20 _ c.if-b-ge32.false, sym c.is_move.ensures ∙ c.if-is_move.true) c.if-is_move.true

pub returns-else-is_move : goal.returns-else-is_move
unfolding is_light
returns-else-is_move c =
    rw (lt-leb 0x20 _ c.if-b-ge32.false, sym c.is_move.ensures ∙ c.if-is_move.false) c.is_styling.ensures
