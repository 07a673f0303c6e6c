-- `found` meets its contract: a good telegram lies in the piece. Assumes nothing.
use native.Mathlib.Omega.{arith}
use Rattle.laws_telegrams.proofs.Good.{good-framed}
use Rattle.telegrams.proofs.found.Goals as goal

pub overflow_add-place : goal.overflow_add-place
overflow_add-place c =
    let f = good-framed _ _ c.requires in omega arith

pub bounds-piece-place : goal.bounds-piece-place
bounds-piece-place c =
    let f = good-framed _ _ c.requires in omega arith

pub overflow_add-result : goal.overflow_add-result
overflow_add-result c =
    let f = good-framed _ _ c.requires in omega arith

pub overflow_add-result-3 : goal.overflow_add-result-3
overflow_add-result-3 c =
    let f = good-framed _ _ c.requires in let e = c.from-count.ensures in omega arith
