-- `glass::shown_of` meets its contract: a difference that stops at 0. Assumes nothing.
use native.Mathlib.Omega.{arith}
use Rattle.paper.specs.Strokes.{shown}
use Rattle.glass.proofs.shown_of.Goals as goal

pub returns : goal.returns
unfolding shown
returns c = omega arith
