-- `view_parts::telegram_at` is safe and meets its contract: a good telegram lies in the link.
use mathlib.Core.Path.{ap}
use native.Mathlib.Omega.{arith}
use Rattle.paper.specs.declared.Received.{Received}
use Rattle.laws_telegrams.proofs.Good.{good-framed}
use Rattle.view_parts.proofs.telegram_at.Goals as goal

pub overflow_add-to : goal.overflow_add-to
overflow_add-to g c =
    let f = good-framed _ _ c.requires in omega arith

pub bounds-link-place : goal.bounds-link-place
bounds-link-place g c =
    let f = good-framed _ _ c.requires in omega arith

pub fed_end-requires : goal.fed_end-requires
fed_end-requires g c =
    let e = c.found-t.ensures in
    omega (arith, ap (λ (t : Received). t.first) e, ap (λ (t : Received). t.count) e, ap (λ (t : Received). t.after) e)

pub slice_bounds-bytes-end : goal.slice_bounds-bytes-end
slice_bounds-bytes-end g c =
    let f = good-framed _ _ c.requires in
    let a = ap (λ (t : Received). t.after) c.found-t.ensures in
    omega (arith, a)

pub returns : goal.returns
returns g c =
    let f = good-framed _ _ c.requires in
    let a = ap (λ (t : Received). t.after) c.found-t.ensures in
    (omega (arith, c.fed_end.ensures, a), omega (arith, a))
