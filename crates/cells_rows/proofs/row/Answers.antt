-- `cells_rows::row` meets its contract. The loop's invariant: the columns so far are laid, whatever the memory was before the blank one on the
-- left, and the next goes to address a. Assumes nothing.
use mathlib.Core.Path.{◌≡◌, refl, ap, ◌∙◌}
use Prim.Native.Nat.{ℕ, ◌+◌, ◌*◌, ◌<◌}
use native.Mathlib.Nat.{mul-le-mul_left}
use native.Mathlib.Omega.{arith}
use Rattle.laws_bytes.specs.Bytes.{tall_byte, reversed_byte}
use Rattle.laws_laid.specs.Laid.{byte_turn}
use Rattle.laws_laid.proofs.Laid.{turned_to_lem, columns_reach}
use Rattle.glyphs_columns.specs.Columns.{row_stroke, whole_of}
use Rattle.cells_rows.proofs.Rows.{row_left, row_glyph, row_right}
use Rattle.cells_rows.proofs.row.Goals as goal

-- a column more lies in memory
reaches : (from s n whole len a k : ℕ) → from + s * (whole * n) < len + s → k < whole → a ≡ from + s * (k * n) → a + s * n < len + s
reaches from s n whole len a k h l e = omega (arith, e, columns_reach from s n k 1 whole len (omega arith) h)

pub overflow_mul-step : goal.overflow_mul-step
overflow_mul-step g c =
    omega (arith, mul-le-mul_left c.args.to.step c.args.to.few)

pub edge-a-requires : goal.edge-a-requires
edge-a-requires g c =
    let a = c.args in
    let reach = columns_reach a.from a.to.step a.to.times 0 a.f.now.blanks (whole_of a.f.now.cols.now a.f.now.blanks a.f.now.lift) _ (omega arith) c.requires.n_in_bounds in
    record { count_bound = c.requires.blanks_bound; n_in_bounds = omega (arith, reach) }

pub loop-column-init : goal.loop-column-init
loop-column-init g c =
    let a = c.args in
    let none : a.f.now.blanks ≡ a.f.now.blanks + 0 = omega arith in (
      omega arith,
      refl,
      c.edge-a.ensures.1 ∙ ap (λ (k : ℕ). a.from + a.to.step * (k * a.to.times)) none,
      λ m e. turned_to_lem (byte_turn (row_stroke a.f.now.cols.now a.f.now.blanks a.f.now.lift a.f.now.style a.down a.r a.to.times g.row.MIXING) a.to.step a.from) _ _ m _ e
          (ap (λ (k : ℕ). k * a.to.times) none),
    )

pub put-requires : goal.put-requires
put-requires g c =
    let head = c.loop-column in
    let reach = reaches _ _ _ _ _ _ (c.args.f.now.blanks + head.column-index) c.requires.n_in_bounds (omega arith) head.invariant.2 in
    (omega (arith, reach, head.invariant.1, c.edge-a.auto.mem), omega arith)

pub overflow_add-a : goal.overflow_add-a
overflow_add-a g c =
    let head = c.loop-column in
    omega (arith, reaches _ _ _ _ _ _ (c.args.f.now.blanks + head.column-index) c.requires.n_in_bounds (omega arith) head.invariant.2)

pub loop-column-preserved : goal.loop-column-preserved
loop-column-preserved g c =
    let head = c.loop-column in
    let a = c.args in (
      omega arith,
      omega (arith, c.put.auto.mem),
      omega (arith, head.invariant.2),
      λ m e. row_glyph a.f.now.cols.now a.f.now.blanks a.f.now.lift a.f.now.style a.down a.r a.to.times g.row.MIXING a.to.step a.from (omega arith) m head.column-index head.a _ head.mem _
          (omega arith) (head.invariant.3 m e) head.invariant.2
          (c.reversed.ensures
          ∙ ap (reversed_byte a.f.now.style) (c.tall_byte-v.ensures ∙ ap (tall_byte a.down a.r) c.placed.ensures))
          c.put.ensures,
    )

pub edge-requires : goal.edge-requires
edge-requires g c =
    let head = c.loop-column in
    let a = c.args in
    let reach = columns_reach a.from a.to.step a.to.times (a.f.now.blanks + head.column-index) a.f.now.lift.down (whole_of a.f.now.cols.now a.f.now.blanks a.f.now.lift) _ (omega arith) c.requires.n_in_bounds in
    let same = c.edge-a.auto.mem in
    record { count_bound = (a.f.now.lift.one, omega (arith, head.invariant.1, same)); n_in_bounds = omega (arith, reach, head.invariant.1, head.invariant.2, same) }

pub shape_of-mem : goal.shape_of-mem
shape_of-mem g c =
    c.edge.auto.mem ∙ c.loop-column.invariant.1 ∙ c.edge-a.auto.mem

pub returns : goal.returns
returns g c =
    let head = c.loop-column in
    let a = c.args in
    let blank = c.reversed-blank.ensures in
    let all : a.f.now.blanks + head.column-index + a.f.now.lift.down ≡ whole_of a.f.now.cols.now a.f.now.blanks a.f.now.lift = omega arith in
    turned_to_lem (byte_turn (row_stroke a.f.now.cols.now a.f.now.blanks a.f.now.lift a.f.now.style a.down a.r a.to.times g.row.MIXING) a.to.step a.from) _ _ a.mem.now _
    (row_right a.f.now.cols.now a.f.now.blanks a.f.now.lift a.f.now.style a.down a.r a.to.times g.row.MIXING a.to.step a.from (omega arith) a.mem.now head.column-index a.f.now.lift.down head.a _
    head.mem _ (omega arith)
    (head.invariant.3 a.mem.now
    (row_left a.f.now.cols.now a.f.now.blanks a.f.now.lift a.f.now.style a.down a.r a.to.times g.row.MIXING a.to.step a.from (omega arith) a.mem.now _ _ blank c.edge-a.ensures.0))
    head.invariant.2 blank c.edge.ensures.0) (ap (λ (k : ℕ). k * a.to.times) all)
