-- `moves_tab::tab` meets its contract. With room for a cell it steps; else by the mode. Assumes nothing.
use native.Mathlib.Omega.{arith}
use borrow.Author.Tests.{le-leb, lt-leb, eq-eqb, ne_eqb}
use Rattle.paper.specs.Moves.{ht_of}
use Rattle.moves.proofs.Done.{spot-at, does_only}
use Rattle.moves_tab.proofs.tab.Goals as goal

pub returns-then-v-c : goal.returns-then-v-c
unfolding ht_of
returns-then-v-c c =
    rw (le-leb _ _ c.if-v-c.true) (does_only _ c.place.ensures)

pub returns-in-1 : goal.returns-in-1
unfolding ht_of
returns-in-1 c =
    rw (lt-leb _ _ c.if-v-c.false, eq-eqb _ _ c.in-1.is)
    (does_only _ (spot-at c.next_line.ensures))

pub returns-in-2 : goal.returns-in-2
unfolding ht_of
returns-in-2 c =
    rw (lt-leb _ _ c.if-v-c.false, ne_eqb c.args.p.view.mode 1 (omega (arith, c.in-2.is)), eq-eqb _ _ c.in-2.is)
    c.next_line_up.ensures

pub returns-in_default : goal.returns-in_default
unfolding ht_of
returns-in_default c =
    rw (lt-leb _ _ c.if-v-c.false, ne_eqb c.args.p.view.mode 1 (omega arith), ne_eqb c.args.p.view.mode 2 (omega arith))
    c.push_left.ensures
