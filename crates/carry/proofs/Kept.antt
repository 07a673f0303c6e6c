-- What every command leaves half read. Assumes nothing.
use mathlib.Core.Path.{◌≡◌, sym, ap, ◌∙◌}
use mathlib.Core.List.{List}
use Prim.Native.Nat.{ℕ}
use Rattle.paper.specs.declared.Module.{Module}
use Rattle.paper.specs.declared.Command.{Command}
use Rattle.paper.specs.declared.Half.{Half}
use Rattle.paper.specs.declared.Half.TheVariants.{Nothing}
use Rattle.paper.specs.declared.State.{State}
use Rattle.paper.specs.Downloads.{Faces}
use Rattle.paper.specs.Settings.{with_half}
use Rattle.paper.specs.Carry.{command_of}
use Rattle.carry_state.specs.declared.Done.{Done}
use Rattle.carry_state.specs.Says.{done}
use Rattle.carry_dots.specs.Does.{Does}
use Rattle.laws_state.proofs.Records.{command_nothing}

-- a command leaves nothing half read, and so comes to the same where that is said again
pub kept_half : {g : Module} {m m' : List ℕ} {d r : Done} (f : Faces) (s : State) (c : Command)
    → Does g m d m' (command_of g f (with_half s Nothing) c) → r ≡ done (with_half d.state Nothing) d.outcome
    → Does g m r m' (command_of g f (with_half s Nothing) c)
kept_half {g} {d = d} f s c h e =
    let free = ap (λ (t : State). t.half) h.state ∙ command_nothing g f s c in
    record {
      state = ap (λ (x : Done). x.state) e ∙ ap (λ (p : Half). with_half d.state p) (sym free) ∙ h.state;
      outcome = ap (λ (x : Done). x.outcome) e ∙ h.outcome;
      mem = h.mem;
    }
