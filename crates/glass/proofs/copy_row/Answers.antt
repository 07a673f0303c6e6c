-- `glass::copy_row` meets its contract. The loop's invariant: the first j columns are copied, and counted.
-- Assumes nothing.
use mathlib.Core.Path.{refl, ap, ◌∙◌}
use Prim.Native.Nat.{ℕ, ◌<◌, ◌+◌}
use native.Mathlib.Omega.{arith}
use lib.ListN.{get_or}
use Rattle.paper.specs.Panel.{address, glass_length}
use Rattle.paper.specs.declared.Module.{Module}
use Rattle.paper.specs.declared.Span.{Span}
use Rattle.paper.specs.Strokes.{shown}
use Rattle.laws_memory.specs.Glass.{copied}
use Rattle.laws_memory.proofs.Addresses.{address-lt}
use Rattle.laws_memory.proofs.Rects.{rect_none, row_turn, row_end}
use Rattle.laws_memory.proofs.Glass.{shown-lt}
use Rattle.glass.proofs.copy_row.Goals as goal

-- the column of a turn is visible, so its place is on the glass
visible : (g : Module) (p : Span) (y j : ℕ) → j < shown g p → y < g.rows
    → (p.first + j < g.visible) × (address g (p.first + j) y < glass_length g)
visible g p y j h hy =
    let seen = shown-lt g p j h in (seen, address-lt g (p.first + j) y hy g.visible seen)

pub loop-j-init : goal.loop-j-init
loop-j-init c =
    (omega arith, refl, refl, rect_none _ _ _ _ (λ a i. omega arith))

pub overflow_add-first : goal.overflow_add-first
overflow_add-first c =
    let seen = visible c.args.g c.args.p c.args.y c.loop-j.j (omega arith) c.requires.0 in omega arith

pub at-a-requires : goal.at-a-requires
at-a-requires c =
    let seen = visible c.args.g c.args.p c.args.y c.loop-j.j (omega arith) c.requires.0 in omega arith

pub copy_byte-moved-requires : goal.copy_byte-moved-requires
copy_byte-moved-requires c =
    let seen = visible c.args.g c.args.p c.args.y c.loop-j.j (omega arith) c.requires.0 in omega arith

pub loop-j-preserved : goal.loop-j-preserved
loop-j-preserved c =
    let head = c.loop-j in
    let seen = visible c.args.g c.args.p c.args.y c.loop-j.j (omega arith) c.requires.0 in
    let place = c.at-a in
    let copying = c.copy_byte-moved in (
      omega arith,
      omega (arith, copying.ensures.1),
      omega (arith, copying.auto.glass),
      copying.ensures.0
          ∙ row_turn _ _ _ _ _ _ _ _ _ place.ensures.0 head.invariant.3 c.requires.0 (omega arith)
          (ap (λ (a : ℕ). get_or c.args.mem.now a 0) (omega arith)),
    )

pub returns : goal.returns
unfolding copied
returns c =
    (row_end _ _ _ _ _ _ _ _ c.loop-j.invariant.3 (omega arith) (omega arith), omega arith)
