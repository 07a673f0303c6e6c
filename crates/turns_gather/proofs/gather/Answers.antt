-- `turns_gather::gather` meets its contract. The loop's invariant: the bytes so far leave the command half read, and it goes on.
-- Assumes nothing.
use mathlib.Core.Path.{refl, sym, ◌∙◌}
use Prim.Native.Nat.{◌+◌, ◌-◌, ◌<◌, ◌≤◌}
use native.Mathlib.Omega.{arith}
use lib.ListN.{length, drop}
use Rattle.paper.specs.declared.Reading.TheVariants.{More}
use Rattle.laws_bytes.specs.Readings.{reading_ok}
use Rattle.turns_light.specs.Turns.{Gathers, here}
use Rattle.carry_command.specs.Heavy.{heavy}
use Rattle.turns_light.proofs.Gathering.{gathers_read, gathers_ok}
use Rattle.turns_gather.proofs.Onward.{Onward, onward_reads, onward_next}
use mathlib.Core.Path.{◌≡◌}
use mathlib.Core.Bool.{true}
use mathlib.Core.List.{List}
use Prim.Native.Nat.{ℕ}
use lib.ListN.{get_or}
use Rattle.paper.specs.declared.Module.{Module}
use Rattle.paper.specs.declared.Half.{Half}
use Rattle.paper.specs.declared.Reading.{Reading}
use Rattle.paper.specs.Reading.{read_of}
use Rattle.turns_light.specs.Turns.{light_start}
use Rattle.turns_gather.proofs.gather.Goals as goal

-- a byte that ends the bytes read together
handed : (g : Module) {half h : Half} (piece : List ℕ) {from : ℕ} (i : ℕ) {r : Reading} → from ≤ i → i < length piece
    → Gathers g (More half) (drop from piece) (More h) (drop i piece) → Onward half piece from h i → r ≡ read_of g h (get_or piece i 0)
    → (from < i + 1) × (i + 1 ≤ length piece) × Gathers g (More half) (drop from piece) r (drop (i + 1) piece)
    × (heavy (light_start half piece from) r ≡ true)
handed g piece i low inside gathers on read =
    (omega arith, omega arith, gathers_read piece i inside gathers read, (onward_reads g on read).handed)

pub loop-i-init : goal.loop-i-init
loop-i-init c =
    (omega arith, omega arith, here, record { other = c.requires.2; first = λ e. e })

-- what is half read is a proper beginning of a command
pub read-r-requires : goal.read-r-requires
unfolding reading_ok
read-r-requires c =
    gathers_ok c.loop-i.invariant.2 c.requires.1

pub loop-i-preserved : goal.loop-i-preserved
loop-i-preserved c =
    let a = c.args in
    let read = sym c.in-More.is ∙ c.read-r.ensures in (
      omega (arith, c.loop-i.invariant.0),
      omega arith,
      gathers_read a.piece.now c.loop-i.i (omega arith) c.loop-i.invariant.2 read,
      onward_next (onward_reads a.g c.loop-i.invariant.3 read) (sym c.is_image.ensures ∙ c.if-is_image.false),
    )

pub returns-in_default : goal.returns-in_default
returns-in_default c =
    handed c.args.g c.args.piece.now c.loop-i.i c.loop-i.invariant.0 (omega arith) c.loop-i.invariant.2 c.loop-i.invariant.3 c.read-r.ensures

pub returns-then-is_image : goal.returns-then-is_image
returns-then-is_image c =
    handed c.args.g c.args.piece.now c.loop-i.i c.loop-i.invariant.0 (omega arith) c.loop-i.invariant.2 c.loop-i.invariant.3
    (sym c.in-More.is ∙ c.read-r.ensures)

pub returns : goal.returns
unfolding heavy
returns c =
    let k = c.loop-i.invariant in
    let end : c.loop-i.i ≡ length c.args.piece.now = omega arith in
    (omega arith, omega arith, rw end at k.2, refl)
