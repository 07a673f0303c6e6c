-- `state_apart::apart` meets its contract: a state is what its parts make. Assumes nothing.
use borrow.Author.Rules.{rules}
use Rattle.std.specs.Prelude.{Option}
use mathlib.Core.Path.{◌≡◌, sym, ap}
use Rattle.paper.specs.declared.Held.{Held}
use Rattle.paper.specs.declared.State.{State}
use Rattle.state_apart.proofs.apart.Goals as goal

abbrev held : State → Option Held → State
held s h = record { settings = s.settings; windows = s.windows; base = s.base; selected = s.selected; hold = h; half = s.half; spans = s.spans }

-- a state with what is held in it is that state
held_same : (s : State) (h : Option Held) → s.hold ≡ h → held s h ≡ s
held_same s h e = ap (held s) (sym e)

pub returns-in-Some : goal.returns-in-Some
returns-in-Some c =
    held_same _ _ c.in-Some.is
