-- `cells_tall::edge` meets its contract: no column, or one. Assumes nothing.
use mathlib.Core.Path.{◌≡◌, ap}
use Prim.Native.Nat.{ℕ, ◌+◌, ◌*◌}
use native.Mathlib.Nat.{mul-le-mul_left}
use native.Mathlib.Omega.{arith}
use Rattle.laws_laid.specs.Laid.{pair_turn}
use Rattle.laws_laid.proofs.Laid.{turned_none, turned_to_lem, times_none, times_one}
use Rattle.cells_tall.specs.Both.{both_stroke}
use Rattle.cells_tall.proofs.edge.Goals as goal

pub returns-then-count-eq0 : goal.returns-then-count-eq0
returns-then-count-eq0 c =
    let a = c.args in
    let none : a.count * a.to.times ≡ 0 = times_none a.count a.to.times (omega arith) in
    (turned_none (pair_turn (both_stroke a.flip (λ j. a.blank)) a.to.step a.a) (a.count * a.to.times) a.mem.now none, rw none (omega arith))

pub put_both-requires : goal.put_both-requires
put_both-requires c =
    let one = times_one c.args.count c.args.to.times (omega arith) in
    (rw one c.requires.n_in_bounds, c.requires.count_bound.1)

pub overflow_mul-result : goal.overflow_mul-result
overflow_mul-result c =
    omega (arith, mul-le-mul_left c.args.to.step c.args.to.few)

pub overflow_add-result : goal.overflow_add-result
overflow_add-result c =
    omega (arith, mul-le-mul_left c.args.to.step c.args.to.few, c.requires.n_in_bounds)

pub shape_of-mem : goal.shape_of-mem
shape_of-mem c =
    c.put_both.auto.mem

pub returns : goal.returns
returns c =
    let a = c.args in
    let one : a.to.times ≡ a.count * a.to.times = times_one a.count a.to.times (omega arith) in (
      turned_to_lem (pair_turn (both_stroke a.flip (λ j. a.blank)) a.to.step a.a) a.to.times (a.count * a.to.times) a.mem.now _ c.put_both.ensures one,
      ap (λ (t : ℕ). a.a + a.to.step * t) one,
    )
