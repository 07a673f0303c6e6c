-- `next` meets its contract. Assumes nothing.
use mathlib.Core.Path.{refl, ap}
use Prim.Native.Nat.{ℕ, ◌+◌}
use native.Mathlib.Omega.{arith}
use Rattle.telegrams_good.proofs.Turns.{comes, here, fewer, framed_here, first_turn, ahead, some_left, found_here, bad_here, next_turn, next_place}
use Rattle.telegrams_good.proofs.next.Goals as goal
use Rattle.telegrams_good.proofs.next.Goals.{else-k-size-via-then-k-size+else-sum-piece, else-k-size-via-else-k-size}

pub places-init : goal.places-init
places-init c =
    comes _ _ _ _ c.frame-found.ensures.found c.frame-found.ensures.none refl

pub bounds-piece-place : goal.bounds-piece-place
bounds-piece-place c =
    let f = framed_here c.places.invariant c.in-Some.is in omega (arith, f.inside)

pub bytes-init : goal.bytes-init
bytes-init c =
    first_turn c.places.invariant c.in-Some.is (ap (λ (n : ℕ). n + 4) c.from-size.ensures)

pub bounds-piece-place-in-bytes : goal.bounds-piece-place-in-bytes
bounds-piece-place-in-bytes c =
    let t = c.bytes.invariant in omega (arith, ahead t, some_left t c.bytes-test.true)

pub bounds-piece-place-then-k-size : goal.bounds-piece-place-then-k-size
bounds-piece-place-then-k-size c =
    ahead c.bytes.invariant

pub bytes-preserved : goal.bytes-preserved
bytes-preserved c =
    let t = c.bytes.invariant in
    let h = some_left t c.bytes-test.true in
    next_turn t h
    (λ l. elim c.else-k-size.branch [
      | else-k-size-via-then-k-size+else-sum-piece w ↦ bad_here t h l w.if-sum-piece.false
      | else-k-size-via-else-k-size w ↦ absurd (w.if-k-size.false l)
    ])

pub places-smaller : goal.places-smaller
places-smaller c =
    rw c.in-Some.is (fewer _ _ _ c.frame-found-in-Some.ensures.found (here c.places.invariant c.in-Some.is).0)

pub places-preserved : goal.places-preserved
places-preserved c =
    comes _ _ _ _ c.frame-found-in-Some.ensures.found c.frame-found-in-Some.ensures.none (next_place c.bytes.invariant c.bytes-test.false)

pub returns-then-sum-piece-clause-found : goal.returns-then-sum-piece-clause-found
returns-then-sum-piece-clause-found c =
    let t = c.bytes.invariant in
    found_here t (some_left t c.bytes-test.true) c.if-k-size.true c.if-sum-piece.true
