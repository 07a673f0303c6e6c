-- `view_show::link::rest` meets its contract.
use native.Mathlib.Omega.{arith}
use Prim.Native.Nat.{◌-◌}
use lib.ListN.{length, drop, length-drop}
use lib.Seq.{take_all}
use Rattle.view_show.proofs.link.rest.Goals as goal

pub returns : goal.returns
returns c =
    let a = c.args in take_all (length a.link.now - a.at) (drop a.at a.link.now) (rw length-drop (omega arith))
