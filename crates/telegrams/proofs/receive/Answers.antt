-- `receive` meets its contract: what is found lies in the piece. Assumes nothing.
use mathlib.Core.Path.{refl, sym, subst}
use Prim.Native.Nat.{◌+◌, ◌≤◌}
use lib.ListN.{length}
use Rattle.paper.specs.declared.Received.{Received}
use Rattle.paper.specs.Numbers.{refusal_number}
use Rattle.paper.specs.Telegrams.{Receives}
use Rattle.laws_telegrams.proofs.Places.{found_inside}
use Rattle.telegrams.proofs.receive.Goals as goal

pub handed-requires : goal.handed-requires
handed-requires c =
    subst (λ (f : Received). f.first + f.count ≤ length c.args.piece.now) (sym c.in-Ok.ensures) (found_inside _ _)

pub returns-in-Ok : goal.returns-in-Ok
unfolding refusal_number
returns-in-Ok c =
    subst (λ (f : Received). Receives c.args.piece f 0 c.in-Ok.telegram.after c.handed.result) c.in-Ok.ensures
    (record { answered = refl; goes_on = refl; own = c.handed.ensures })
