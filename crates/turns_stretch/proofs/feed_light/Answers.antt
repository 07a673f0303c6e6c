-- `turns_stretch::feed_light` meets its contract. The loop's invariant: all so far is in the spot and the style. Assumes nothing.
use mathlib.Core.Path.{◌≡◌, sym, ◌∙◌}
use mathlib.Core.Bool.{true}
use Prim.Native.Nat.{◌+◌, ◌-◌, ◌<◌, ◌≤◌}
use native.Mathlib.Omega.{arith}
use lib.ListN.{length, length-drop}
use Rattle.paper.specs.declared.Outcome.TheVariants.{Carried}
use Rattle.paper.specs.Bounds.{state_ok}
use Rattle.paper.specs.Cells.{cell_width, cell_height}
use Rattle.laws_memory.specs.Rectangles.{Fits}
use Rattle.laws_state.specs.Room.{Room}
use Rattle.carry_state.proofs.Facts.{selected_small}
use Rattle.strides.specs.Strides.{is_styling}
use Rattle.turns_stretch.specs.Desk.{on_desk}
use Rattle.turns_stretch.proofs.Turns.{settles_within}
use Rattle.turns_stretch.proofs.Desk.{desk_room, desk_inked}
use Rattle.turns_stretch.proofs.Light.{Lit, lit_begin, lit_ok, lit-counts, lit-characters, lit_move, lit_style, light_some, light_style, style_whole}
use Rattle.turns_stretch.proofs.feed_light.Goals as goal
use Rattle.turns_stretch.proofs.feed_light.Goals.{In-loop-i, After-run-r, After-step-q, Else-is_move}

-- ---- what several goals ask

-- a cell has room at the spot, and the memory is whole
ok : (c : In-loop-i) → let a = c.args in state_ok a.g (on_desk a.f.state c.loop-i.style c.loop-i.p) ≡ true
ok c =
    let r = c.requires.0.ready in
    lit_ok r.usable c.requires.1.free c.loop-i.invariant r.state_is_ok

room : (c : In-loop-i)
    → let a = c.args in
    let l = c.loop-i in
    Room a.g l.p.view (cell_width a.g a.f.state.settings.width l.style) (cell_height l.style)
room c =
    let a = c.args in
    let l = c.loop-i in
    desk_room a.g c.requires.0.ready.usable a.f.state l.style l.p l.invariant.within (ok c) l.invariant.room

fits : (c : In-loop-i) → Fits c.args.g c.loop-i.mem
fits c =
    let f = c.requires.0.ready.fits in record { size = c.loop-i.invariant.size ∙ f.size; small = f.small }

-- all that are left can be counted
countable : (c : In-loop-i) → c.loop-i.carried + (length c.args.piece.now - c.loop-i.i) < 18446744073709551616
countable c =
    let a = c.args in
    let due = c.requires.0 in
    let n = lit-counts due.ready.usable c.requires.1.free c.loop-i.invariant in
    let d = length-drop c.loop-i.i a.piece.now in
    let e = length-drop a.from a.piece.now in
    omega (arith, n, d, e, due.countable, c.loop-i.invariant.low, c.loop-i.invariant.high)

-- how far the stretch has come with characters, and with a move
drawn : (c : After-run-r)
    → let a = c.args in
    let l = c.loop-i in
    let r = c.run-r.result in
    Lit a.g a.font.now a.store.now a.piece.now a.f a.mem.now a.from
    r.spot l.style (l.carried + (r.at - l.i)) Carried r.at c.run-r.new.mem
drawn c =
    let r = c.requires.0.ready in
    lit-characters r.usable c.requires.1.free c.loop-i.invariant c.run-r.result _ r.state_is_ok (omega arith) (omega arith)
    c.run-r.auto.mem (rw c.in_force-own.ensures at c.run-r.ensures)

moved : (c : After-step-q)
    → let a = c.args in
    let l = c.loop-i in
    Lit a.g a.font.now a.store.now a.piece.now a.f a.mem.now a.from
    c.step-q.result l.style (l.carried + 1) Carried (l.i + 1) c.step-q.new.mem
moved c =
    let r = c.requires.0.ready in
    lit_move r.usable c.requires.1.free c.loop-i.invariant c.step-q.result _ r.state_is_ok (omega (arith, c.loop-i-test.true))
    (sym c.is_move.ensures ∙ c.if-is_move.true) c.step-q.auto.mem (rw c.cell_width-c.ensures at c.step-q.ensures)

-- what is light and neither a character nor a move is a style, which stands whole in the piece
styling : (c : Else-is_move) → is_styling c.args.piece.now c.loop-i.i ≡ true
styling c =
    light_style c.args.piece.now c.loop-i.i (sym c.is_light.ensures ∙ c.if-not-is_light.false) (omega arith)
    (sym c.is_move.ensures ∙ c.if-is_move.false)

whole : (c : Else-is_move) → c.loop-i.i + 3 ≤ length c.args.piece.now
whole c =
    style_whole c.args.g c.args.piece.now c.loop-i.i (styling c)

-- ---- before the loop

pub spot_of-p0-requires : goal.spot_of-p0-requires
spot_of-p0-requires c =
    let r = c.requires.0.ready in
    (selected_small c.args.g c.args.f.state r.state_is_ok, omega (arith, r.usable.visible_part))

pub loop-i-init : goal.loop-i-init
loop-i-init c =
    let a = c.args in
    let r = c.requires.0.ready in
    lit_begin a.g a.font.now a.store.now a.piece.now a.f a.mem.now a.from _ r.usable r.state_is_ok c.requires.1.room
    (omega (arith, c.requires.0.inside)) c.spot_of-p0.ensures

-- ---- what is none of the three

pub settled-requires : goal.settled-requires
settled-requires c =
    let a = c.args in
    let r = c.requires.0.ready in
    settles_within a.g a.f.state c.loop-i.p.view r.usable r.state_is_ok c.loop-i.invariant.within

pub shape_of-mem-then-not-is_light : goal.shape_of-mem-then-not-is_light
shape_of-mem-then-not-is_light c =
    c.loop-i.invariant.size

pub returns-then-not-is_light : goal.returns-then-not-is_light
returns-then-not-is_light c =
    let l = c.loop-i in
    let a = c.args in
    let ends = sym c.is_light.ensures ∙ c.if-not-is_light.true in
    rw c.settled.ensures
    (record {
      some = light_some a.piece.now a.from l.i l.invariant.low c.requires.1.has ends;
      end = l.invariant.high;
      reached = l.invariant.reached;
    })

-- ---- characters

pub run-r-requires : goal.run-r-requires
run-r-requires c =
    let here = (goal.at.run-r-requires c).In-loop-i in
    let l = c.loop-i in
    let a = c.args in
    let due = c.requires.0 in
    let u = due.ready.usable in
    let inked = desk_inked a.g u a.f.state l.style l.p l.invariant.within (ok here) a.font.now due.font_whole in
    record { usable = (u, (room here, (inked, fits here))); from_in_bounds = (omega arith, omega arith) }

pub overflow_sub-carried : goal.overflow_sub-carried
overflow_sub-carried c =
    omega (arith, c.run-r.ensures.some)

pub overflow_add-carried : goal.overflow_add-carried
overflow_add-carried c =
    omega (arith, countable (goal.at.overflow_add-carried c).In-loop-i, c.loop-i.invariant.high, c.run-r.ensures.some, c.run-r.ensures.end)

pub in_range-p-requires : goal.in_range-p-requires
in_range-p-requires c =
    rw c.spot_of-p0.ensures (drawn (goal.at.in_range-p-requires c).After-run-r).within

pub loop-i-smaller-then-b-ge32 : goal.loop-i-smaller-then-b-ge32
loop-i-smaller-then-b-ge32 c =
    let ran = c.run-r.ensures in omega (arith, ran.some, ran.end)

pub loop-i-preserved-then-b-ge32 : goal.loop-i-preserved-then-b-ge32
loop-i-preserved-then-b-ge32 c =
    rw c.in_range-p.ensures (drawn (goal.at.loop-i-preserved-then-b-ge32 c).After-run-r)

-- ---- a move

pub overflow_add-carried-in-loop-i : goal.overflow_add-carried-in-loop-i
overflow_add-carried-in-loop-i c =
    omega (arith, countable (goal.at.overflow_add-carried-in-loop-i c).In-loop-i, c.loop-i.invariant.high)

pub step-q-requires : goal.step-q-requires
step-q-requires c =
    let here = (goal.at.step-q-requires c).In-loop-i in
    rw c.cell_width-c.ensures (c.requires.0.ready.usable, (room here, fits here))

pub in_range-p-requires-then-is_move : goal.in_range-p-requires-then-is_move
in_range-p-requires-then-is_move c =
    rw c.spot_of-p0.ensures (moved (goal.at.in_range-p-requires-then-is_move c).After-step-q).within

pub loop-i-preserved-then-is_move : goal.loop-i-preserved-then-is_move
loop-i-preserved-then-is_move c =
    rw c.in_range-p-then-is_move.ensures (moved (goal.at.loop-i-preserved-then-is_move c).After-step-q)

-- ---- a style

pub overflow_add-i-in-loop-i : goal.overflow_add-i-in-loop-i
overflow_add-i-in-loop-i c =
    omega (arith, whole (goal.at.overflow_add-i-in-loop-i c).Else-is_move)

pub bounds-piece-i-in-loop-i : goal.bounds-piece-i-in-loop-i
bounds-piece-i-in-loop-i c =
    omega (arith, whole (goal.at.bounds-piece-i-in-loop-i c).Else-is_move)

pub overflow_add-i-in-loop-i-2 : goal.overflow_add-i-in-loop-i-2
overflow_add-i-in-loop-i-2 c =
    omega (arith, whole (goal.at.overflow_add-i-in-loop-i-2 c).Else-is_move)

pub bounds-piece-i-in-loop-i-2 : goal.bounds-piece-i-in-loop-i-2
bounds-piece-i-in-loop-i-2 c =
    omega (arith, whole (goal.at.bounds-piece-i-in-loop-i-2 c).Else-is_move)

pub overflow_add-i-in-loop-i-3 : goal.overflow_add-i-in-loop-i-3
overflow_add-i-in-loop-i-3 c =
    omega (arith, whole (goal.at.overflow_add-i-in-loop-i-3 c).Else-is_move)

pub loop-i-smaller : goal.loop-i-smaller
loop-i-smaller c =
    omega (arith, whole (goal.at.loop-i-smaller c).Else-is_move)

pub loop-i-preserved : goal.loop-i-preserved
loop-i-preserved c =
    rw c.styled-style.ensures
    (lit_style c.requires.0.ready.usable c.requires.1.free c.loop-i.invariant (styling (goal.at.loop-i-preserved c).Else-is_move))

-- ---- the piece's end

pub settled-requires-2 : goal.settled-requires-2
settled-requires-2 c =
    let a = c.args in
    let r = c.requires.0.ready in
    settles_within a.g a.f.state c.loop-i.p.view r.usable r.state_is_ok c.loop-i.invariant.within

pub shape_of-mem : goal.shape_of-mem
shape_of-mem c =
    c.loop-i.invariant.size

pub returns : goal.returns
returns c =
    let k = c.loop-i.invariant in
    rw c.settled-2.ensures
    (record { some = omega (arith, c.requires.0.inside); end = k.high; reached = k.reached })
