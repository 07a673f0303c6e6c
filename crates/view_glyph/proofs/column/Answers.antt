-- `view_glyph::column` is safe and gives the font's byte of a picture's column.
use Rattle.std.proofs.Common.{◌≡◌, ◌/◌, ◌^◌, refl, ap, ◌∙◌, arith}
use Rattle.paper.specs.Panel.{byte_of, lit}
use Rattle.view_glyph.specs.Glyph.{column_of}
use Rattle.view_glyph.proofs.Rows.{dot, row, room, upto}
use Rattle.view_glyph.proofs.column.Goals as goal

pub loop-i-init : goal.loop-i-init
unfolding byte_of
loop-i-init c = refl

pub overflow_add-byte : goal.overflow_add-byte
overflow_add-byte c =
    let left = room c.loop-i.i (dot c.args.dots.now c.args.k) c.loop-i-test.true in
    omega arith

pub loop-i-preserved : goal.loop-i-preserved
loop-i-preserved c =
    let here : c.worth_of-byte.result ≡ lit (128 / 2 ^ c.loop-i.i) (dot c.args.dots.now c.args.k c.loop-i.i) = grind arith in
    let next = row c.loop-i.i (dot c.args.dots.now c.args.k) c.loop-i-test.true in
    cc

pub returns : goal.returns
unfolding column_of
returns c =
    let whole : c.loop-i.i ≡ 7 = omega arith in
    c.loop-i.invariant ∙ ap (λ n. upto n (dot c.args.dots.now c.args.k)) whole
