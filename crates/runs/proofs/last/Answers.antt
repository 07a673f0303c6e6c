-- `runs::last` meets its contract, by its test. Assumes nothing.
use Rattle.runs.proofs.Lines.{last_cell}
use Rattle.runs.proofs.last.Goals as goal

pub push-requires : goal.push-requires
push-requires c =
    let v = c.args.p.view in
    record { usable = c.requires; mode_value = last_cell v.mode v.x c.args.cell.columns v.width c.if-v-c.true }
