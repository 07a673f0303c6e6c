-- `turns::feed_all` meets its contract. The loop's invariant: from the whole piece it has come, byte by byte, to what is left of it.
-- Assumes nothing.
use borrow.Author.Rules.{rules}
use mathlib.Core.Path.{◌≡◌, refl, sym, ap, ◌∙◌}
use mathlib.Core.List.{List, []}
use Prim.Native.Nat.{ℕ, zero-le, ◌<◌, ◌≤◌, ◌-◌}
use native.Mathlib.Omega.{arith}
use lib.ListN.{length, drop, length-drop, drop_of_length-le}
use Rattle.paper.specs.declared.Fed.{Fed}
use Rattle.paper.specs.declared.State.{State}
use Rattle.paper.specs.declared.Refusal.TheVariants.{Accepted}
use Rattle.paper.specs.Bounds.{state_ok}
use Rattle.paper.specs.Calls.{run, fed_nothing}
use Rattle.laws_state.specs.Runs.{Reaches, here}
use Rattle.laws_state.proofs.Reached.{reaches_on, reaches_run, reaches_state, reaches_length, reaches_counts}
use Rattle.laws_state.specs.Told.{fed}
use Rattle.turns.proofs.feed_all.Given as goal

abbrev pub invariant-loop-i : goal.invariant-loop-i
invariant-loop-i l =
    (l.i ≤ length l.piece) × (length l.mem ≡ length l.initial.mem) × Reaches l.g l.font (fed l.initial.f l.initial.mem l.initial.store) l.piece (fed l.f l.mem l.store) (drop l.i l.piece)

abbrev pub decreases-loop-i : goal.decreases-loop-i
decreases-loop-i l =
    length l.piece - l.i
