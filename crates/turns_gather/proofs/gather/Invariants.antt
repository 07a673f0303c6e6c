-- `turns_gather::gather` meets its contract. The loop's invariant: the bytes so far leave the command half read, and it goes on.
-- Assumes nothing.
use Prim.Native.Nat.{◌-◌, ◌≤◌}
use lib.ListN.{length, drop}
use Rattle.paper.specs.declared.Reading.TheVariants.{More}
use Rattle.turns_light.specs.Turns.{Gathers}
use Rattle.turns_gather.proofs.Onward.{Onward}
use Rattle.turns_gather.proofs.gather.Given as goal

abbrev pub invariant-loop-i : goal.invariant-loop-i
invariant-loop-i l =
    (l.from ≤ l.i) × (l.i ≤ length l.piece) × Gathers l.g (More l.initial.h) (drop l.from l.piece) (More l.h) (drop l.i l.piece) × Onward l.initial.h l.piece l.from l.h l.i
