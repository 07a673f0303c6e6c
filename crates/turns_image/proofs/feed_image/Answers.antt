-- `turns_image::feed_image` meets its contract: the run comes to what its bytes come to one by one. Assumes nothing.
use borrow.Author.Tests.{eq-eqb, ne_eqb}
use native.Mathlib.Omega.{arith}
use Rattle.carry_state.proofs.Facts.{selected_small}
use Rattle.laws_state.specs.Runs.{image}
use Rattle.laws_state.proofs.Views.{view-place}
use Rattle.turns_image.proofs.Images.{image_bounds, image_bytes_whole_turn, image-bytes-part-turn}
use Rattle.turns_image.proofs.feed_image.Goals as goal

pub spot_of-p-requires : goal.spot_of-p-requires
spot_of-p-requires c =
    let r = c.requires.0.ready in
    (selected_small c.args.g c.args.f.state r.state_is_ok, omega (arith, r.usable.visible_part))

pub image_bytes-r-requires : goal.image_bytes-r-requires
image_bytes-r-requires c =
    let a = c.args in
    let r = c.requires.0.ready in
    let k = image_bounds a.g a.f.state a.width a.height a.column a.row r.state_is_ok c.requires.1 in
    record { usable = (r.usable, (rw c.spot_of-p.ensures (view-place a.g r.usable a.f.state r.state_is_ok), r.fits)); column_lt_width = (k.0, k.1, omega (arith, k.2, r.two_rows), c.requires.0.inside) }

pub overflow_add-fed : goal.overflow_add-fed
overflow_add-fed c =
    omega (arith, c.requires.0.inside, c.requires.0.countable)

pub returns-then-r-width : goal.returns-then-r-width
returns-then-r-width c ds =
    let a = c.args in
    let r = c.requires.0.ready in
    let ran = c.image_bytes-r.ensures in
    let q = c.image_bytes-r.result in
    let k = image_bounds a.g a.f.state a.width a.height a.column a.row r.state_is_ok c.requires.1 in
    record {
      some = ran.some;
      end = ran.end;
      reached =
          image_bytes_whole_turn a.g a.font.now a.f a.mem.now ds a.piece.now a.i a.width a.height a.column a.row
          (image q.spans _ q.column q.row) q.at c.requires.1 k.0 c.requires.0.inside (rw c.spot_of-p.ensures at ran.done)
          (eq-eqb _ _ c.if-r-width.true);
    }

pub returns : goal.returns
returns c ds =
    let a = c.args in
    let r = c.requires.0.ready in
    let ran = c.image_bytes-r.ensures in
    let q = c.image_bytes-r.result in
    let k = image_bounds a.g a.f.state a.width a.height a.column a.row r.state_is_ok c.requires.1 in
    record {
      some = ran.some;
      end = ran.end;
      reached =
          image-bytes-part-turn a.g a.font.now a.f a.mem.now ds a.piece.now a.i a.width a.height a.column a.row
          (image q.spans _ q.column q.row) q.at c.requires.1 k.0 c.requires.0.inside (rw c.spot_of-p.ensures at ran.done)
          (ne_eqb _ _ c.if-r-width.false);
    }
