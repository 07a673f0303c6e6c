-- `glass::copy_bytes` meets its contract. The loop's invariant: the bytes up to address a are copied, and counted. Assumes nothing.
use mathlib.Core.Path.{◌≡◌, refl, ap, ◌∙◌}
use Prim.Native.Nat.{ℕ, ◌+◌, ◌-◌}
use native.Mathlib.Omega.{arith}
use lib.ListN.{get_or, set}
use Rattle.laws_memory.specs.Glass.{copied_from}
use Rattle.laws_memory.proofs.Glass.{bytes_none, bytes-turn}
use Rattle.glass.proofs.copy_bytes.Goals as goal

pub loop-a-init : goal.loop-a-init
loop-a-init c =
    let a = c.args in
    let none : 0 ≡ a.from - a.from = omega arith in
    (omega arith, omega arith, omega arith, refl, bytes_none a.mem.now a.from a.glass.now ∙ ap (λ (n : ℕ). copied_from a.mem.now a.from n a.glass.now) none)

pub loop-a-preserved : goal.loop-a-preserved
loop-a-preserved c =
    let head = c.loop-a in
    let a = c.args in
    let copying = c.copy_byte-moved in
    let here : head.a ≡ a.from + (head.a - a.from) = omega (arith, head.invariant.0) in
    let more : head.a - a.from + 1 ≡ head.a + 1 - a.from = omega (arith, head.invariant.0) in (
      omega (arith, head.invariant.0),
      omega arith,
      omega (arith, head.invariant.0, head.invariant.2, copying.ensures.1),
      omega (arith, copying.auto.glass),
      bytes-turn a.mem.now a.from a.glass.now (head.a - a.from) head.glass _ (omega (arith, here)) head.invariant.4
          (copying.ensures.0 ∙ ap (λ (i : ℕ). set head.glass i (get_or a.mem.now i 0)) here)
          ∙ ap (λ (n : ℕ). copied_from a.mem.now a.from n a.glass.now) more,
    )

pub returns : goal.returns
returns c =
    let head = c.loop-a in
    let whole : head.a ≡ c.args.end = omega (arith, head.invariant.1) in
    (rw whole at head.invariant.4, omega (arith, whole, head.invariant.2))
