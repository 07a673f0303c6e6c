-- `slot_bytes` meets its contract: a 16-bit number's high byte is below 256. Assumes nothing.
use Rattle.std.proofs.Common.{◌≡◌, ◌/◌, ◌%◌, arith}
use Rattle.record_bytes.proofs.slot_bytes.Goals as goal

pub returns : goal.returns
returns c =
    let t = c.args.t in
    let p : t.p / 256 % 256 ≡ t.p / 256 = omega arith in
    let q : t.q / 256 % 256 ≡ t.q / 256 = omega arith in
    let r : t.r / 256 % 256 ≡ t.r / 256 = omega arith in
    let s : t.s / 256 % 256 ≡ t.s / 256 = omega arith in
    rw (c.to_le_bytes.ensures, c.to_le_bytes-2.ensures, c.to_le_bytes-3.ensures, c.to_le_bytes-4.ensures, p, q, r, s)
