-- `runs_images::image_bytes` meets its contract. The loop's invariant: what is left gives what the whole run gives. Assumes nothing.
use mathlib.Core.Path.{◌∙◌}
use Prim.Native.Nat.{◌+◌, ◌<◌, ◌≤◌}
use native.Mathlib.Omega.{arith}
use lib.ListN.{length}
use borrow.Author.Tests.{eq-eqb, ne_eqb}
use Rattle.runs_images.proofs.Corner.{corner_in, corner_stored}
use Rattle.runs_images.proofs.Filling.{filling_begin, next_on, next_beyond, next_down, filling_next, filling_whole, filling_end}
use Rattle.runs_images.proofs.image_bytes.Goals as goal
use Rattle.runs_images.proofs.image_bytes.Goals.{After-place_after-next}

-- the place after a byte stored: not before the first, and in one of the image's rows
ahead : (c : After-place_after-next)
    → let a = c.args in
    let t = c.place_after-next.result in
    (a.column ≤ t.column) × (a.column + a.row ≤ t.column + t.row) × (t.row < a.height)
ahead c =
    let two = c.requires.column_lt_width.2 in
    let k = c.loop-i.invariant in
    let l : c.loop-i.i < length c.args.piece.now = omega arith in
    let placed = c.place_after-next.ensures in
    let stored = corner_stored c.args.p.view c.from_cursor-v.ensures c.requires.usable.1.0 _ _ _ _ _ _ c.store.ensures in (
      next_on _ _ _ _ _ _ _ _ _ _ two _ _ _ _ k l _ placed _ stored,
      next_beyond _ _ _ _ _ _ _ _ _ _ two _ _ _ _ k l _ placed _ stored,
      next_down _ _ _ _ _ _ _ _ _ _ two _ _ _ _ k l _ placed _ stored,
    )

pub from_cursor-v-requires : goal.from_cursor-v-requires
from_cursor-v-requires c =
    let place = c.requires.usable.1.0 in omega (arith, place.x, place.y)

pub loop-i-init : goal.loop-i-init
loop-i-init c =
    let a = c.args in
    filling_begin a.g a.p a.style a.width a.height a.column a.row a.mem.now a.piece.now a.from c.requires.column_lt_width.0 c.requires.column_lt_width.1 c.requires.column_lt_width.3

pub store-requires : goal.store-requires
store-requires c =
    let k = c.loop-i.invariant in
    let pre = c.requires.usable in (
      pre.0,
      (corner_in c.args.p.view c.from_cursor-v.ensures pre.1.0, record { size = k.size ∙ pre.1.1.size; small = pre.1.1.small }),
    )

pub place_after-next-requires : goal.place_after-next-requires
place_after-next-requires c =
    let k = c.loop-i.invariant in (k.down, omega (arith, k.across))

pub filled_to-requires : goal.filled_to-requires
filled_to-requires c =
    let f = ahead (goal.at.filled_to-requires c).After-place_after-next in record { width_bound = omega (arith, f); row_bound = (omega (arith, f), omega (arith, f), f.0, f.1) }

pub shape_of-mem-then-x-width : goal.shape_of-mem-then-x-width
shape_of-mem-then-x-width c =
    c.store.auto.mem ∙ c.loop-i.invariant.size

pub returns-then-x-width : goal.returns-then-x-width
returns-then-x-width c =
    let stored = corner_stored c.args.p.view c.from_cursor-v.ensures c.requires.usable.1.0 _ _ _ _ _ _ c.store.ensures in
    rw c.filled_to.ensures
    (filling_whole _ _ _ _ _ _ _ _ _ _ c.requires.column_lt_width.2 _ _ _ _ c.loop-i.invariant (omega arith)
    _ c.place_after-next.ensures _ stored (eq-eqb _ _ c.if-x-width.true))

pub loop-i-preserved : goal.loop-i-preserved
loop-i-preserved c =
    let stored = corner_stored c.args.p.view c.from_cursor-v.ensures c.requires.usable.1.0 _ _ _ _ _ _ c.store.ensures in
    filling_next _ _ _ _ _ _ _ _ _ _ c.requires.column_lt_width.2 _ _ _ _ c.loop-i.invariant (omega arith)
    _ c.place_after-next.ensures _ stored c.store.auto.mem (ne_eqb _ _ c.if-x-width.false)

pub filled_to-requires-2 : goal.filled_to-requires-2
filled_to-requires-2 c =
    let k = c.loop-i.invariant in
    record { width_bound = omega arith; row_bound = (omega arith, omega (arith, k.down), k.on, k.beyond) }

pub shape_of-mem : goal.shape_of-mem
shape_of-mem c =
    c.loop-i.invariant.size

pub returns : goal.returns
returns c =
    rw c.filled_to-2.ensures (filling_end _ _ _ _ _ _ _ _ _ _ _ _ _ _ c.loop-i.invariant c.requires.column_lt_width.3 (omega arith))
