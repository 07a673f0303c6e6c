-- `carry_command::carry_out` meets its contract: an arm for each command. Assumes nothing.
use mathlib.Core.Path.{refl}
use Rattle.paper.specs.declared.Command.TheVariants.{Home, Clear, Return, Select, Mode, Set, Enlarge, CursorSet, Define, Cancel, Uncarried}
use Rattle.paper.specs.Numbers.{outcome_number}
use Rattle.paper.specs.Downloads.{faces}
use Rattle.paper.specs.Carry.{asks, leaves}
use Rattle.laws_bytes.specs.Readings.{command_ok}
use Rattle.laws_bytes.proofs.Tests.{between_facts}
use Rattle.carry_state.proofs.Answers.{is_14}
use Rattle.carry_state.proofs.Facts.{selected_small}
use Rattle.carry_dots.proofs.Wrote.{does_quiet}
use Rattle.carry_command.proofs.Kept.{kept, kept_quiet, kept_answered, cell_large}
use Rattle.carry_command.proofs.carry_out.Goals as goal

-- ---- what each command asks

pub mode-requires : goal.mode-requires
mode-requires c =
    selected_small c.args.g c.args.s c.requires.0.state_is_ok

pub enlarge-requires : goal.enlarge-requires
enlarge-requires c =
    selected_small c.args.g c.args.s c.requires.0.state_is_ok

pub set_cursor-requires : goal.set_cursor-requires
set_cursor-requires c =
    selected_small c.args.g c.args.s c.requires.0.state_is_ok

pub define-requires : goal.define-requires
unfolding command_ok
define-requires c =
    let f = between_facts 1 4 _ (rw c.in-Define.is at c.requires.1.0) in
    (c.is_held-held.ensures, f.0, f.1)

pub cancel-requires : goal.cancel-requires
unfolding command_ok
cancel-requires c =
    let f = between_facts 1 4 _ (rw c.in-Cancel.is at c.requires.1.0) in
    (c.is_held-held.ensures, f.0, f.1)

-- ---- what each command gives

pub returns-in-Character : goal.returns-in-Character
returns-in-Character c font =
    let a = c.args in
    cell_large (faces font a.store.now) a.s a.c c.in-Character.is c.requires.1.1 c.ends.ensures

pub returns-in-Home : goal.returns-in-Home
unfolding leaves
returns-in-Home c font =
    let a = c.args in
    let f = faces font a.store.now in
    rw c.in-Home.is (kept_quiet f a.s Home refl (c.home.ensures f))

pub returns-in-Clear : goal.returns-in-Clear
unfolding leaves
returns-in-Clear c font =
    let a = c.args in
    let f = faces font a.store.now in
    rw c.in-Clear.is (kept f a.s Clear refl (c.clear.ensures f))

pub returns-in-Return : goal.returns-in-Return
unfolding leaves
returns-in-Return c font =
    let a = c.args in
    let f = faces font a.store.now in
    rw c.in-Return.is (kept_quiet f a.s Return refl (c.carriage_return.ensures f))

pub returns-in-Select : goal.returns-in-Select
unfolding leaves
returns-in-Select c font =
    let a = c.args in
    let f = faces font a.store.now in
    rw c.in-Select.is (kept_quiet f a.s (Select _) refl (c.select.ensures f))

pub returns-in-Initialise : goal.returns-in-Initialise
returns-in-Initialise c font =
    rw c.in-Initialise.is (c.initialise.ensures font)

pub returns-in-Mode : goal.returns-in-Mode
unfolding leaves
returns-in-Mode c font =
    let a = c.args in
    let f = faces font a.store.now in
    rw c.in-Mode.is (kept_quiet f a.s (Mode _) refl (c.mode.ensures f))

pub returns-in-Set : goal.returns-in-Set
unfolding leaves
returns-in-Set c font =
    let a = c.args in
    let f = faces font a.store.now in
    rw c.in-Set.is (kept_quiet f a.s (Set _ _) refl (c.set.ensures f))

pub returns-in-Enlarge : goal.returns-in-Enlarge
unfolding leaves
returns-in-Enlarge c font =
    let a = c.args in
    let f = faces font a.store.now in
    rw c.in-Enlarge.is (kept_quiet f a.s (Enlarge _ _) refl (c.enlarge.ensures f))

pub returns-in-CursorSet : goal.returns-in-CursorSet
unfolding leaves
returns-in-CursorSet c font =
    let a = c.args in
    let f = faces font a.store.now in
    rw c.in-CursorSet.is (kept_quiet f a.s (CursorSet _ _) refl (c.set_cursor.ensures f))

pub returns-in-Define : goal.returns-in-Define
unfolding leaves
returns-in-Define c font =
    let a = c.args in
    let f = faces font a.store.now in
    rw c.in-Define.is (kept_quiet f a.s (Define _ _ _ _ _) refl (c.define.ensures f))

pub returns-in-Cancel : goal.returns-in-Cancel
unfolding leaves
returns-in-Cancel c font =
    let a = c.args in
    let f = faces font a.store.now in
    rw c.in-Cancel.is (kept_quiet f a.s (Cancel _) refl (c.cancel.ensures f))

pub returns-in-Uncarried : goal.returns-in-Uncarried
unfolding asks outcome_number
returns-in-Uncarried c font =
    let a = c.args in
    let f = faces font a.store.now in
    rw c.in-Uncarried.is
    (kept_answered f a.s Uncarried c.ends-in-Uncarried.ensures (is_14 a.g f a.s Uncarried refl) refl)

pub returns-in-Erase : goal.returns-in-Erase
returns-in-Erase c font =
    let d = c.erase.ensures font in
    rw c.in-Erase.is (does_quiet d.says, d.store)
