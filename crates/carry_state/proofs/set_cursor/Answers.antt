-- `carry_state::set_cursor` meets its contract: 11 outside the window. Assumes nothing.
use mathlib.Core.Path.{refl, sym, ap, ◌∙◌}
use mathlib.Core.Bool.{not}
use Rattle.paper.specs.declared.Command.TheVariants.{CursorSet}
use Rattle.paper.specs.Carry.{asks, carried_out}
use Rattle.carry_state.proofs.Answers.{is_11, is_10, says, ends_at}
use Rattle.paper.specs.declared.Cursor.{Cursor}
use Rattle.paper.specs.Settings.{at_cursor, cursor}
use Rattle.carry_state.proofs.set_cursor.Goals as goal

pub returns-then-inside_window : goal.returns-then-inside_window
unfolding asks carried_out
returns-then-inside_window c font =
    let a = c.args in
    says
    (ends_at c.ends.ensures
    (c.at_cursor.ensures ∙ ap (λ (k : Cursor). at_cursor a.s (cursor a.x a.y k.mode)) c.cursor_of-c.ensures))
    (is_10 _ font _ (CursorSet _ _)
    (record {
      carried = refl;
      owner = refl;
      domain = ap not (sym c.inside_window.ensures ∙ c.if-inside_window.true);
      defined = refl;
      room = refl;
      stored = refl;
    }))

pub returns : goal.returns
unfolding asks carried_out
returns c font =
    says c.ends-2.ensures
    (is_11 _ font _ (CursorSet _ _) refl refl (ap not (sym c.inside_window.ensures ∙ c.if-inside_window.false)))
