-- `glass::copy_bytes` meets its contract. The loop's invariant: the bytes up to address a are copied, and counted. Assumes nothing.
use mathlib.Core.Path.{◌≡◌}
use Prim.Native.Nat.{◌≤◌, ◌-◌}
use lib.ListN.{length}
use Rattle.laws_memory.specs.Glass.{copied_from}
use Rattle.glass.proofs.copy_bytes.Given as goal

abbrev pub invariant-loop-a : goal.invariant-loop-a
invariant-loop-a l =
    (l.from ≤ l.a) × (l.a ≤ l.end) × (l.moved ≡ l.a - l.from) × (length l.glass ≡ length l.initial.glass)
    × (l.glass ≡ copied_from l.mem l.from (l.a - l.from) l.initial.glass)
