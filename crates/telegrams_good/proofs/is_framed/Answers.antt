-- `is_framed` meets its contract: each way out has decided it. Assumes nothing.
use mathlib.Core.Path.{◌≡◌, sym, ◌∙◌}
use mathlib.Core.Bool.{◌&&◌}
use lib.Dec.{leb}
use Rattle.std.proofs.Common.{rules}
use native.Mathlib.Omega.{arith}
use Rattle.laws_telegrams.proofs.Good.{unframed, framed_by}
use Rattle.telegrams_good.proofs.is_framed.Goals as goal

pub returns-then-piece-place-ne2 : goal.returns-then-piece-place-ne2
returns-then-piece-place-ne2 c =
    let a = c.args in sym (unframed a.piece.now a.place (λ f. c.if-piece-place-ne2.true f.starts))

pub returns-then-piece-place-lt6 : goal.returns-then-piece-place-lt6
returns-then-piece-place-lt6 c =
    let a = c.args in sym (unframed a.piece.now a.place (λ f. omega arith))

pub overflow_add-count : goal.overflow_add-count
overflow_add-count c =
    omega arith

pub returns-then-piece-place : goal.returns-then-piece-place
returns-then-piece-place c =
    let a = c.args in
    let e = c.from-count.ensures in sym (unframed a.piece.now a.place (λ f. omega arith))

pub returns-then-piece-place-ne3 : goal.returns-then-piece-place-ne3
returns-then-piece-place-ne3 c =
    let a = c.args in
    let e = c.from-count.ensures in
    sym (unframed a.piece.now a.place (λ f. rw e at c.if-piece-place-ne3.true f.ends))

pub returns : goal.returns
returns c =
    let a = c.args in
    let e = c.from-count.ensures in
    let b : c.contains.result ≡ (leb 1 c.from-count.result && leb c.from-count.result 0x80) = search rules in
    b ∙ rw e (sym (framed_by a.piece.now a.place c.if-piece-place-ne2.false (omega arith) (rw e at c.if-piece-place-ne3.false)))
