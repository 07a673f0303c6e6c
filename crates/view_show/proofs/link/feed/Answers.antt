-- `view_show::link::feed` is safe and ends. The measure is how many bytes of the link are left.
use mathlib.Core.Path.{refl, ap, ◌∙◌}
use mathlib.Core.List.{List}
use Prim.Native.Nat.{ℕ}
use native.Mathlib.Omega.{arith}
use Rattle.paper.specs.Telegrams.{data_of, receive_call}
use Rattle.telegrams.specs.Found.{accepted}
use Rattle.view_show.proofs.Links.{ahead, few}
use Rattle.view_show.proofs.link.feed.Goals as goal

pub loop-t-init : goal.loop-t-init
loop-t-init c =
    (refl, refl, record { inside = omega arith; many = omega arith; counted = omega arith })

pub rest-requires : goal.rest-requires
rest-requires c =
    c.loop-t.invariant.2.inside

pub handed-requires : goal.handed-requires
handed-requires c =
    let i = c.loop-t.invariant.2 in
    let a = ahead _ _ _ c.in-Ok.t i.inside (c.in-Ok.ensures ∙ ap (λ (l : List ℕ). receive_call l c.args.address) c.rest.ensures) in
    rw c.rest-in-Ok.ensures a.inside

pub overflow_add-telegrams : goal.overflow_add-telegrams
overflow_add-telegrams c =
    let i = c.loop-t.invariant.2 in
    let a = ahead _ _ _ c.in-Ok.t i.inside (c.in-Ok.ensures ∙ ap (λ (l : List ℕ). receive_call l c.args.address) c.rest.ensures) in
    omega (arith, c.well_formed.1.0, i.many, a.longer, a.after)

pub overflow_add-carried : goal.overflow_add-carried
overflow_add-carried c =
    let i = c.loop-t.invariant.2 in
    let a = ahead _ _ _ c.in-Ok.t i.inside (c.in-Ok.ensures ∙ ap (λ (l : List ℕ). receive_call l c.args.address) c.rest.ensures) in
    let e = c.handed.ensures.bytes ∙ ap (λ (l : List ℕ). data_of l (accepted c.in-Ok.t)) c.rest-in-Ok.ensures in
    let n = few _ _ _ _ _ _ c.feed-f.ensures e a in
    omega (arith, c.well_formed.1.0, i.counted, n, a.longer, a.after)

pub overflow_add-answered : goal.overflow_add-answered
overflow_add-answered c =
    let i = c.loop-t.invariant.2 in
    let a = ahead _ _ _ c.in-Ok.t i.inside (c.in-Ok.ensures ∙ ap (λ (l : List ℕ). receive_call l c.args.address) c.rest.ensures) in
    let e = c.handed.ensures.bytes ∙ ap (λ (l : List ℕ). data_of l (accepted c.in-Ok.t)) c.rest-in-Ok.ensures in
    let n = few _ _ _ _ _ _ c.feed-f.ensures e a in
    omega (arith, c.well_formed.1.0, i.counted, n, a.longer, a.after)

pub overflow_add-at : goal.overflow_add-at
overflow_add-at c =
    let i = c.loop-t.invariant.2 in
    let a = ahead _ _ _ c.in-Ok.t i.inside (c.in-Ok.ensures ∙ ap (λ (l : List ℕ). receive_call l c.args.address) c.rest.ensures) in
    omega (arith, c.well_formed.1.0, a.after)

pub rest-requires-in-Ok : goal.rest-requires-in-Ok
rest-requires-in-Ok c =
    c.loop-t.invariant.2.inside

pub loop-t-smaller : goal.loop-t-smaller
loop-t-smaller c =
    let i = c.loop-t.invariant.2 in
    let a = ahead _ _ _ c.in-Ok.t i.inside (c.in-Ok.ensures ∙ ap (λ (l : List ℕ). receive_call l c.args.address) c.rest.ensures) in
    omega (arith, a.longer, a.after)

pub loop-t-preserved : goal.loop-t-preserved
loop-t-preserved c =
    let i = c.loop-t.invariant.2 in
    let a = ahead _ _ _ c.in-Ok.t i.inside (c.in-Ok.ensures ∙ ap (λ (l : List ℕ). receive_call l c.args.address) c.rest.ensures) in
    let e = c.handed.ensures.bytes ∙ ap (λ (l : List ℕ). data_of l (accepted c.in-Ok.t)) c.rest-in-Ok.ensures in
    let n = few _ _ _ _ _ _ c.feed-f.ensures e a in
    let lengths = c.loop-t.invariant in
    let kept = c.feed-f.auto in (
      kept.mem ∙ lengths.0,
      kept.store ∙ lengths.1,
      record {
        inside = a.after;
        many = omega (arith, i.many, a.longer);
        counted = omega (arith, i.counted, n, a.longer);
      },
    )
