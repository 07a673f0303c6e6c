-- `turns::feed_some` meets its contract: a run of characters, a run of an image's bytes, or a command's bytes. Assumes nothing.
use borrow.Author.Rules.{rules}
use native.Mathlib.Omega.{arith}
use mathlib.Core.Path.{sym, ◌∙◌}
use Rattle.carry_state.proofs.Facts.{selected_small}
use Rattle.turns_light.proofs.Lightness.{light_is}
use Rattle.turns_half.proofs.Halves.{no_image}
use borrow.Enum.Refused.{opened}
use Rattle.turns.proofs.feed_some.Goals as goal

pub is_light-requires : goal.is_light-requires
is_light-requires c =
    let r = c.requires.ready in
    let u = r.usable in
    (selected_small c.args.g c.args.f.state r.state_is_ok, omega (arith, u.visible_part), u.glyph_small, c.requires.inside)

pub feed_light-requires : goal.feed_light-requires
feed_light-requires c =
    let a = c.args in
    (c.requires, light_is a.g a.f.state a.piece.now a.i (sym c.is_light.ensures ∙ c.if-is_light.true))

-- the turn is neither light nor an image's
pub feed_command-requires : goal.feed_command-requires
feed_command-requires c =
    let other = no_image c.args.f.state.half (opened c.in_default.in_default-own.keys2) in
    (c.requires, (other, sym c.is_light.ensures ∙ c.if-is_light.false))

pub returns-in-ImageData : goal.returns-in-ImageData
returns-in-ImageData c =
    c.feed_image.ensures c.args.store.now
