-- `receive` meets its contract: what `find` answers, with its number. Assumes nothing.
use mathlib.Core.Path.{ap, ◌∙◌}
use Rattle.paper.specs.Numbers.{refusal_number}
use Rattle.face.specs.Face.{received_c, receive_c}
use Rattle.face_link.proofs.receive.Goals as goal

pub returns-in-Ok : goal.returns-in-Ok
unfolding receive_c refusal_number
returns-in-Ok c =
    ap received_c c.in-Ok.ensures

pub returns-in-Err : goal.returns-in-Err
unfolding receive_c
returns-in-Err c =
    rw c.refusal_number.ensures (ap received_c c.in-Err.ensures)
