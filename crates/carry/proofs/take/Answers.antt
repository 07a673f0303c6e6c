-- `carry::take` meets its contract: an arm for each reading. Assumes nothing.
use mathlib.Core.Path.{◌≡◌, refl}
use Rattle.paper.specs.declared.Half.TheVariants.{Nothing}
use Rattle.paper.specs.declared.Outcome.TheVariants.{Cancelled}
use Rattle.paper.specs.Downloads.{faces}
use Rattle.paper.specs.Bounds.{half_ok}
use Rattle.paper.specs.Settings.{view_of, with_half}
use Rattle.paper.specs.Carry.{take_of, take_store}
use Rattle.laws_bytes.specs.Readings.{reading_ok}
use Rattle.carry_state.specs.Says.{done}
use Rattle.carry_dots.proofs.Wrote.{does_answer, does_quiet, ready_half}
use Rattle.carry_command.specs.Heavy.{heavy}
use Rattle.carry.proofs.Kept.{kept_half}
use Rattle.carry.proofs.Handed.{is_unknown}
use Rattle.carry.proofs.take.Goals as goal

pub carry_out-d-requires : goal.carry_out-d-requires
unfolding reading_ok half_ok heavy view_of
carry_out-d-requires c =
    let told = c.in-Whole.is in
    rw c.all_read.ensures (
      ready_half c.args.g c.args.s c.args.mem.now Nothing refl c.requires.0,
      (rw told at c.requires.1.0, rw told at c.requires.1.1),
    )

pub returns-in-More : goal.returns-in-More
unfolding take_of take_store
returns-in-More c font =
    rw c.in-More.is (does_answer c.ends.ensures refl, refl)

pub returns-in-Whole : goal.returns-in-Whole
unfolding take_of take_store
returns-in-Whole c font =
    let a = c.args in
    let d = rw c.all_read.ensures at (c.carry_out-d.ensures font) in
    rw c.in-Whole.is (kept_half (faces font a.store.now) a.s _ d.0 (rw c.all_read-in-Whole.ensures at c.ends-in-Whole.ensures), d.1)

pub returns-in-GlyphEnd : goal.returns-in-GlyphEnd
returns-in-GlyphEnd c font =
    let d = c.glyph_end.ensures c.args.g font in
    rw c.in-GlyphEnd.is (does_quiet d.says, d.store)

pub returns-in-Cancels : goal.returns-in-Cancels
unfolding take_of take_store
returns-in-Cancels c font =
    let read : c.ends-in-Cancels.result ≡ done (with_half c.args.s Nothing) Cancelled = cc in
    rw c.in-Cancels.is (does_answer read refl, refl)

pub returns-in_default : goal.returns-in_default
unfolding take_of take_store
returns-in_default c font =
    rw (is_unknown _ c.args.r c.requires.1.1 c.in_default.in_default-own.keys5) (does_answer (rw c.all_read-in_default.ensures at c.ends-in_default.ensures) refl, refl)
