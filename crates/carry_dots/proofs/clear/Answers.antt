-- `carry_dots::clear` meets its contract. Assumes nothing.
use mathlib.Core.Path.{refl}
use native.Mathlib.Omega.{arith}
use Rattle.paper.specs.declared.Command.TheVariants.{Clear}
use Rattle.paper.specs.Settings.{view_of}
use Rattle.paper.specs.Moves.{clear_of}
use Rattle.paper.specs.Carry.{asks, carried_out}
use Rattle.carry_state.proofs.Answers.{is_10, ends_at}
use Rattle.carry_state.proofs.Facts.{selected_small}
use Rattle.laws_state.proofs.Moves.{clear_kept}
use Rattle.laws_state.proofs.Views.{view-place}
use Rattle.carry_dots.proofs.Wrote.{does_move, settles}
use Rattle.carry_dots.proofs.clear.Goals as goal

pub spot_of-p-requires : goal.spot_of-p-requires
spot_of-p-requires c =
    (selected_small c.args.g c.args.s c.requires.state_is_ok, omega (arith, c.requires.usable.visible_part))

pub clear-q-requires : goal.clear-q-requires
clear-q-requires c =
    let r = c.requires in (
      r.usable,
      (rw c.spot_of-p.ensures (view-place c.args.g r.usable c.args.s r.state_is_ok), r.fits),
    )

pub settle-requires : goal.settle-requires
settle-requires c =
    let r = c.requires in
    let s = c.args.s in
    let v = view_of c.args.g s in
    settles c.args.g s c.args.mem.now (clear_of v) c.clear-q.result.view r
    (clear_kept v c.args.g (view-place c.args.g r.usable s r.state_is_ok))
    (rw c.spot_of-p.ensures at c.clear-q.ensures).view

pub returns : goal.returns
unfolding asks carried_out
returns c font =
    let s = c.args.s in
    does_move s (clear_of (view_of c.args.g s)) (rw c.spot_of-p.ensures at c.clear-q.ensures)
    (ends_at c.ends.ensures c.settle.ensures)
    (is_10 c.args.g font s Clear (record { carried = refl; owner = refl; domain = refl; defined = refl; room = refl; stored = refl }))
