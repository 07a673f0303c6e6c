-- `find` meets its contract: what is left to search gives what all gives. Assumes nothing.
use mathlib.Core.Path.{◌≡◌}
use Prim.Native.Nat.{◌-◌}
use lib.ListN.{length}
use Rattle.paper.specs.Telegrams.{search_from}
use Rattle.telegrams.proofs.find.Given as goal

abbrev pub invariant-loop-place : goal.invariant-loop-place
invariant-loop-place l =
    search_from l.address l.piece l.from ≡ search_from l.address l.piece 0

abbrev pub decreases-loop-place : goal.decreases-loop-place
decreases-loop-place l =
    length l.piece - l.from
