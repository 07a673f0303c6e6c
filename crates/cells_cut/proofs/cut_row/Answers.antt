-- `cells_cut::cut_row` meets its contract. The loop's invariant: the first j columns are laid, and the next goes to address a.
-- Assumes nothing.
use mathlib.Core.Path.{◌≡◌, refl, ap, ◌∙◌}
use Prim.Native.Nat.{ℕ, ◌+◌, ◌*◌, ◌<◌}
use native.Mathlib.Nat.{mul-le-mul_left}
use native.Mathlib.Omega.{arith}
use lib.ListN.{length-set, get_or}
use Rattle.laws_bytes.specs.Bytes.{tall_byte, reversed_byte}
use Rattle.laws_laid.specs.Laid.{byte_turn}
use Rattle.laws_laid.proofs.Laid.{turned_to_lem, laid_more}
use Rattle.glyphs_columns.specs.Columns.{mixed_by, lifted_of, cell_stroke}
use Rattle.cells_cut.proofs.cut_row.Goals as goal

-- a column lies in memory
reaches : (from s width len a j : ℕ) → from + s * width < len + s → j < width → a ≡ from + s * j → a < len
reaches from s width len a j h l e = omega (arith, e, mul-le-mul_left s l)

pub loop-j-init : goal.loop-j-init
loop-j-init c =
    (omega arith, refl, omega arith, refl)

pub bounds-mem-a : goal.bounds-mem-a
bounds-mem-a c =
    let head = c.loop-j in
    omega (arith, head.invariant.1, reaches _ _ _ _ _ head.j c.requires.width_in_bounds (omega arith) head.invariant.2)

pub bounds-mem-a-in-loop-j : goal.bounds-mem-a-in-loop-j
bounds-mem-a-in-loop-j c =
    let head = c.loop-j in
    omega (arith, head.invariant.1, reaches _ _ _ _ _ head.j c.requires.width_in_bounds (omega arith) head.invariant.2)

pub overflow_add-a : goal.overflow_add-a
overflow_add-a c =
    let head = c.loop-j in
    omega (arith, reaches _ _ _ _ _ head.j c.requires.width_in_bounds (omega arith) head.invariant.2)

pub loop-j-preserved : goal.loop-j-preserved
loop-j-preserved c =
    let head = c.loop-j in
    let a = c.args in (
      omega arith,
      length-set head.mem head.a _ ∙ head.invariant.1,
      omega (arith, head.invariant.2),
      laid_more (cell_stroke a.f.now.cols.now a.f.now.blanks a.f.now.lift a.f.now.style a.r) a.s a.from head.j (head.j + 1) head.a _ a.mem.now head.mem head.invariant.3 head.invariant.2
          (c.mixed_by.ensures
          ∙ ap (λ (v : ℕ). mixed_by a.f.now.style.mixing v (get_or head.mem head.a 0))
          (c.reversed.ensures
          ∙ ap (reversed_byte a.f.now.style)
          (c.tall_byte-b.ensures
          ∙ ap (tall_byte a.f.now.style.down a.r) (c.placed-v.ensures ∙ ap (lifted_of a.f.now.lift) c.fetched.ensures))))
          (omega arith),
    )

pub returns : goal.returns
returns c =
    let head = c.loop-j in
    let a = c.args in
    turned_to_lem (byte_turn (cell_stroke a.f.now.cols.now a.f.now.blanks a.f.now.lift a.f.now.style a.r) a.s a.from) head.j a.width a.mem.now head.mem head.invariant.3 (omega arith)
