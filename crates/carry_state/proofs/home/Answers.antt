-- `carry_state::home` meets its contract. Assumes nothing.
use mathlib.Core.Path.{refl, ap, ◌∙◌}
use Rattle.paper.specs.declared.Command.TheVariants.{Home}
use Rattle.paper.specs.Carry.{asks, carried_out}
use Rattle.carry_state.proofs.Answers.{is_10, says, ends_at}
use Rattle.paper.specs.declared.View.{View}
use Rattle.paper.specs.Settings.{with_view, view_of}
use Rattle.paper.specs.Moves.{only, home_of}
use Rattle.laws_state.proofs.Moves.{home_kept}
use Rattle.laws_state.proofs.Views.{view-place}
use Rattle.carry_state.proofs.Facts.{selected_small, place_small}
use native.Mathlib.Omega.{arith}
use Rattle.carry_state.proofs.home.Goals as goal

pub view_of-view-requires : goal.view_of-view-requires
view_of-view-requires c =
    (selected_small c.args.g c.args.s c.requires.1, omega (arith, c.requires.0.visible_part))

pub with_view-requires : goal.with_view-requires
with_view-requires c =
    let i = view-place c.args.g c.requires.0 c.args.s c.requires.1 in
    let v = view_of c.args.g c.args.s in
    let p = place_small c.args.g v (only (home_of v)) c.requires.0 i (home_kept v c.args.g i) in (
      selected_small c.args.g c.args.s c.requires.1,
      rw (c.to-to.ensures, c.view_of-view.ensures) p.0,
      rw (c.to-to.ensures, c.view_of-view.ensures) p.1,
    )

pub returns : goal.returns
unfolding asks carried_out
returns c font =
    says
    (ends_at c.ends.ensures
    (c.with_view.ensures
    ∙ ap (λ (v : View). with_view c.args.s v)
    (c.to-to.ensures ∙ ap (λ (v : View). home_of v) c.view_of-view.ensures)))
    (is_10 _ font _ Home (record { carried = refl; owner = refl; domain = refl; defined = refl; room = refl; stored = refl }))
