-- `moves_line::line_feed` meets its contract. By the mode. Assumes nothing.
use mathlib.Core.Path.{refl}
use native.Mathlib.Omega.{arith}
use borrow.Author.Tests.{eq-eqb, ne_eqb}
use Rattle.paper.specs.Moves.{line_feed_of}
use Rattle.moves.proofs.Done.{spot-at, does_only}
use Rattle.moves_line.proofs.line_feed.Goals as goal

pub returns-in-1 : goal.returns-in-1
unfolding line_feed_of
returns-in-1 c =
    rw (eq-eqb _ _ c.in-1.is) (does_only _ (spot-at c.line_down.ensures))

pub returns-in-2 : goal.returns-in-2
unfolding line_feed_of
returns-in-2 c =
    rw (ne_eqb c.args.p.view.mode 1 (omega (arith, c.in-2.is)), eq-eqb _ _ c.in-2.is) c.line_down_up.ensures

pub returns-in_default : goal.returns-in_default
unfolding line_feed_of
returns-in_default c =
    rw (ne_eqb c.args.p.view.mode 1 (omega arith), ne_eqb c.args.p.view.mode 2 (omega arith)) (does_only _ refl)
