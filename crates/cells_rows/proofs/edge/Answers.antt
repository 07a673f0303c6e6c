-- `cells_rows::edge` meets its contract, by its test. Assumes nothing.
use mathlib.Core.Path.{◌≡◌, ap}
use Prim.Native.Nat.{ℕ, ◌+◌, ◌*◌}
use native.Mathlib.Nat.{mul-le-mul_left}
use native.Mathlib.Omega.{arith}
use Rattle.laws_laid.specs.Laid.{byte_turn}
use Rattle.laws_laid.proofs.Laid.{turned_none, turned_to_lem, times_none, times_one}
use Rattle.glyphs_columns.specs.Columns.{mixed_by}
use Rattle.cells_rows.proofs.edge.Goals as goal

pub returns-then-count-eq0 : goal.returns-then-count-eq0
returns-then-count-eq0 g c =
    let a = c.args in
    let none : a.count * a.to.times ≡ 0 = times_none a.count a.to.times (omega arith) in
    (turned_none (byte_turn (λ j b. mixed_by g.row.MIXING a.blank b) a.to.step a.a) (a.count * a.to.times) a.mem.now none, rw none (omega arith))

pub put-requires : goal.put-requires
put-requires g c =
    let one = times_one c.args.count c.args.to.times (omega arith) in
    (rw one c.requires.n_in_bounds, c.requires.count_bound.1)

pub overflow_mul-result : goal.overflow_mul-result
overflow_mul-result g c =
    omega (arith, mul-le-mul_left c.args.to.step c.args.to.few)

pub overflow_add-result : goal.overflow_add-result
overflow_add-result g c =
    omega (arith, mul-le-mul_left c.args.to.step c.args.to.few, c.requires.n_in_bounds)

pub shape_of-mem : goal.shape_of-mem
shape_of-mem g c =
    c.put.auto.mem

pub returns : goal.returns
returns g c =
    let a = c.args in
    let one : a.to.times ≡ a.count * a.to.times = times_one a.count a.to.times (omega arith) in (
      turned_to_lem (byte_turn (λ j b. mixed_by g.row.MIXING a.blank b) a.to.step a.a) a.to.times (a.count * a.to.times) a.mem.now _ c.put.ensures one,
      ap (λ (t : ℕ). a.a + a.to.step * t) one,
    )
