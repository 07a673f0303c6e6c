-- `images_places::store` meets its contract: a byte inside the range is stored, one outside is consumed. Assumes nothing.
use Prim.Native.Nat.{◌+◌}
use native.Mathlib.Omega.{arith}
use Rattle.images_places.proofs.Stored.{inside_facts, stored_in, stored_out}
use Rattle.images_places.proofs.store.Goals as goal

pub store-requires : goal.store-requires
store-requires c =
    let v = c.args.v in
    let f = inside_facts (v.x + c.args.column) v.width (v.y + c.args.row) v.height c.if-x-v.true in
    (record { across = omega arith; down = omega arith }, c.requires.1.1)

pub returns-then-x-v : goal.returns-then-x-v
returns-then-x-v c =
    let a = c.args in
    stored_in a.g a.v a.style a.column a.row a.byte a.mem.now c.if-x-v.true c.store.ensures

pub returns-else-x-v : goal.returns-else-x-v
returns-else-x-v c =
    let a = c.args in
    stored_out a.g a.v a.style a.column a.row a.byte a.mem.now c.if-x-v.false
