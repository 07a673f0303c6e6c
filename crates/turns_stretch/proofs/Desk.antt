-- A state with a style and a spot put into it: what it is asked while a stretch goes on. Assumes nothing.
use mathlib.Core.Path.{◌≡◌, refl, ◌∙◌}
use mathlib.Core.Bool.{Bool, true, false}
use mathlib.Core.List.{List, []}
use Prim.Native.Nat.{ℕ, ◌≤◌}
use lib.ListN.{length}
use lib.Dec.{eqb}
use native.Mathlib.Omega.{arith}
use Rattle.paper.specs.declared.Module.{Module}
use Rattle.paper.specs.declared.Half.TheVariants.{Nothing}
use Rattle.paper.specs.declared.Settings.{Settings}
use Rattle.paper.specs.declared.Span.{Span}
use Rattle.paper.specs.declared.State.{State}
use Rattle.paper.specs.declared.Style.{Style}
use Rattle.paper.specs.declared.View.{View}
use Rattle.paper.specs.Panel.{font_length}
use Rattle.paper.specs.Settings.{with_settings, with_spans, with_style, with_view, at_cursor, cursor_in, view_of}
use Rattle.paper.specs.Bounds.{state_ok, settings_ok}
use Rattle.paper.specs.Cells.{cell_width, cell_height}
use Rattle.paper.specs.Carry.{exceeds}
use Rattle.laws_state.specs.Room.{Usable, Room}
use Rattle.laws_state.specs.Runs.{Within}
use Rattle.laws_state.proofs.Parts.{parts}
use Rattle.laws_state.proofs.Views.{view_room}
use Rattle.laws_state.proofs.Sheets.{at_settings, at_half_lem, sheet-view, sheet-exceeds}
use Rattle.laws_state.proofs.Tests.{by_cond}
use Rattle.glyphs.specs.Cell.{cell_of}
use Rattle.moves.specs.declared.Spot.{Spot}
use Rattle.text_cells.specs.Inked.{Inked}
use Rattle.runs_line.specs.Went.{under}
use Rattle.strides.specs.Strides.{styled_by}
use Rattle.turns_stretch.specs.Desk.{restyled, on_desk}
use Rattle.turns_stretch.proofs.Inks.{inks}

-- ---- settings and a cursor are put in side by side

-- other settings, before or after a cursor and spans are put in
pub settings_aside : (s : State) (v : Settings) (w : View) (ps : List Span)
    → with_settings (with_spans (with_view s w) ps) v ≡ with_spans (with_view (with_settings s v) w) ps
unfolding at_cursor cursor_in
settings_aside s v w ps = go (eqb s.selected 0) refl where
  go : (t : Bool) → eqb s.selected 0 ≡ t → with_settings (with_spans (with_view s w) ps) v ≡ with_spans (with_view (with_settings s v) w) ps
  go true e = rw e
  go false e = rw e

-- a style with another reverse or mixing has the same cell
pub styled_exceeds : (g : Module) (s : State) (y : Style) (k n : ℕ) → exceeds g (restyled s (styled_by y k n)) ≡ exceeds g (restyled s y)
unfolding styled_by cell_width view_of
styled_exceeds g s y k n =
    by_cond (λ (z : Style). exceeds g (restyled s z) ≡ exceeds g (restyled s y)) (eqb k 0x72) (λ _. refl) (λ _. refl)

module _ (g : Module) (u : Usable g) (s : State) (y : Style) (p : Spot) (i : Within (view_of g s) p.view) where
  part : g.visible ≤ g.columns
  part = omega (arith, u.visible_part)

  -- the range is the state's
  within_here : Within (view_of g (restyled s y)) p.view
  unfolding view_of
  within_here = i

  pub desk_view : view_of g (on_desk s y p) ≡ p.view
  desk_view = sheet-view g part (restyled s y) (under p []) within_here

  pub desk_settings : (on_desk s y p).settings ≡ with_style s.settings y
  desk_settings = at_settings (restyled s y) (cursor_in (restyled s y) p.view)

  pub desk_half : s.half ≡ Nothing → (on_desk s y p).half ≡ Nothing
  desk_half e = at_half_lem (restyled s y) (cursor_in (restyled s y) p.view) ∙ e

  pub desk_exceeds : exceeds g (restyled s y) ≡ false → exceeds g (on_desk s y p) ≡ false
  desk_exceeds e = sheet-exceeds g part (restyled s y) (under p []) within_here ∙ e

  module _ (ok : state_ok g (on_desk s y p) ≡ true) where
    settings_fine : settings_ok g (with_style s.settings y) ≡ true
    settings_fine = rw desk_settings at (parts g (on_desk s y p) ok).settings

    -- a cell has room at the spot
    pub desk_room : exceeds g (restyled s y) ≡ false → Room g p.view (cell_width g s.settings.width y) (cell_height y)
    desk_room e = rw (desk_view, desk_settings) at (view_room g u (on_desk s y p) ok (desk_exceeds e))

    -- and it can be drawn
    pub desk_inked : (font : List ℕ) → length font ≡ font_length g → Inked g font (cell_of g s.settings.width y) 0x20
    desk_inked font l = inks g font (with_style s.settings y) 0x20 l settings_fine (omega arith)
