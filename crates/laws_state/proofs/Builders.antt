-- Each way in which a state is made anew keeps every part of an accepted one. Assumes nothing.
use mathlib.Core.Path.{◌≡◌, refl}
use Rattle.std.specs.Prelude.{Option, None, Some}
use mathlib.Core.Bool.{Bool, true, false, cond, ◌&&◌, true≢false, or-true}
use mathlib.Core.List.{List, [], ◌∷◌}
use Prim.Native.Nat.{ℕ, zero, suc, ◌-◌, ◌≤◌}
use native.Mathlib.Omega.{arith}
use lib.ListN.{get_or, set}
use lib.Seq.{get_or-set_other}
use lib.Dec.{leb, eqb}
use borrow.Author.Tests.{eqb-false}
use Rattle.paper.specs.declared.Module.{Module}
use Rattle.paper.specs.declared.Settings.{Settings}
use Rattle.paper.specs.declared.Cursor.{Cursor}
use Rattle.paper.specs.declared.Window.{Window}
use Rattle.paper.specs.declared.Span.{Span}
use Rattle.paper.specs.declared.Half.{Half}
use Rattle.paper.specs.declared.Held.{Held}
use Rattle.paper.specs.declared.State.{State}
use Rattle.paper.specs.Reading.{between}
use Rattle.paper.specs.Settings.{with_settings, with_base, with_selected, with_half, with_spans, no_window, window_at, is_defined, selectable, defined, cancelled, with_cursor, at_cursor, inside_window}
use Rattle.paper.specs.Bounds.{settings_ok, cursor_ok, is_blank, window_ok, windows_ok, hold_ok, spans_ok, half_ok}
use Rattle.paper.specs.Carry.{is_held}
use Rattle.laws_bytes.proofs.Tests.{both_of}
use Rattle.laws_state.specs.Parts.{Parts}
use Rattle.laws_state.proofs.Tests.{by_cond}
use Rattle.laws_state.proofs.Parts.{cursor_whole, fits_true, window_facts, window_at_lem, windows_true, selected_facts, hold_facts, hold_true}

-- ---- a window put into its place

-- a test that the window put there passes, and that the place passed before, is passed at the place afterwards
at_set : (P : Window → Bool) (ws : List Window) (i j : ℕ) (w d : Window) → P w ≡ true → P (get_or ws j d) ≡ true
    → P (get_or (set ws i w) j d) ≡ true
at_set P [] i j w d h e = e
at_set P (x ∷ ws) zero zero w d h e = h
at_set P (x ∷ ws) zero (suc j) w d h e = e
at_set P (x ∷ ws) (suc i) zero w d h e = e
at_set P (x ∷ ws) (suc i) (suc j) w d h e = at_set P ws i j w d h e

-- windows that pass, with one more that passes
pub windows_set : (g : Module) (ws : List Window) (i : ℕ) (w : Window) → windows_ok g ws ≡ true → window_ok g w ≡ true
    → windows_ok g (set ws i w) ≡ true
windows_set g ws i w e h =
    windows_true g (set ws i w) (λ k l u. at_set (window_ok g) ws i (k - 1) w no_window h (window_at_lem g ws k e l u))

-- what may be selected may still be, after a define
pub selectable-set : (ws : List Window) (i j : ℕ) (w : Window) → is_defined w ≡ true → selectable ws j ≡ true
    → selectable (set ws i w) j ≡ true
unfolding selectable
selectable-set ws i j w d e = go (eqb j 0) e where
  go : (t : Bool) → cond t true (leb j 4 && is_defined (window_at ws j)) ≡ true
      → cond t true (leb j 4 && is_defined (window_at (set ws i w) j)) ≡ true
  go true e = refl
  go false e =
      let f = both_of (leb j 4) (is_defined (window_at ws j)) e in
      rw (f.0, at_set is_defined ws i (j - 1) w no_window d f.1)

-- and, unless it is the one, after a cancel
pub selectable_other : (ws : List Window) (k j : ℕ) (w : Window) → 1 ≤ k → eqb j k ≡ false → selectable ws j ≡ true
    → selectable (set ws (k - 1) w) j ≡ true
unfolding selectable
selectable_other ws k j w l n e = go (eqb j 0) refl e where
  go : (t : Bool) → eqb j 0 ≡ t → cond t true (leb j 4 && is_defined (window_at ws j)) ≡ true
      → cond t true (leb j 4 && is_defined (window_at (set ws (k - 1) w) j)) ≡ true
  go true z e = refl
  go false z e =
      let some = eqb-false j 0 z in
      let other = eqb-false j k n in
      rw (get_or-set_other ws (k - 1) (j - 1) w no_window (omega arith)) e

-- ---- holding

-- while nothing is held there is nothing to test
pub free_ok : (g : Module) (ws : List Window) (selected : ℕ) (h : Option Held) → is_held h ≡ false → hold_ok g ws selected h ≡ true
unfolding hold_ok is_held
free_ok g ws selected None e = refl
free_ok g ws selected (Some x) e = absurd (true≢false e)

-- what is held stays so after a define
pub hold_set : (g : Module) (ws : List Window) (selected i : ℕ) (w : Window) (h : Option Held) → is_defined w ≡ true → hold_ok g ws selected h ≡ true
    → hold_ok g (set ws i w) selected h ≡ true
unfolding hold_ok
hold_set g ws selected i w None d e = refl
hold_set g ws selected i w (Some x) d e =
    let f = hold_facts g ws selected x.window x.selected x.settings e in
    hold_true g (set ws i w) selected x.window x.selected x.settings
    (f.0, f.1, selectable-set ws i x.window w d f.2, selectable-set ws i x.selected w d f.3, f.4)

-- ---- windows

-- a window with a new cursor in it
pub moved_ok : (g : Module) (w : Window) (k : Cursor) → window_ok g w ≡ true → is_defined w ≡ true
    → cursor_ok w.width w.height k ≡ true → window_ok g (with_cursor w k) ≡ true
unfolding window_ok
moved_ok g w k e d h =
    let f = window_facts g w e d in
    rw (fits_true g w.left w.top w.width w.height f.0, h, or-true)

-- ---- the state

-- the seven parts
parts : {g : Module} {s : State} → settings_ok g s.settings ≡ true → windows_ok g s.windows ≡ true
    → cursor_ok g.columns g.rows s.base ≡ true → selectable s.windows s.selected ≡ true
    → hold_ok g s.windows s.selected s.hold ≡ true → half_ok g s.half ≡ true → spans_ok g s.spans ≡ true → Parts g s
parts v ws b k h p ps =
    record { settings = v; windows = ws; base = b; selected = k; hold = h; half = p; spans = ps }

module _ (g : Module) (s : State) (p : Parts g s) where
  -- another command half read
  pub half_parts : (q : Half) → half_ok g q ≡ true → Parts g (with_half s q)
  half_parts q h =
      parts p.settings p.windows p.base p.selected p.hold h p.spans

  -- other settings
  pub settings_parts : (v : Settings) → settings_ok g v ≡ true → Parts g (with_settings s v)
  settings_parts v h =
      parts h p.windows p.base p.selected p.hold p.half p.spans

  -- other spans
  pub spans_parts : (ps : List Span) → spans_ok g ps ≡ true → Parts g (with_spans s ps)
  spans_parts ps h =
      parts p.settings p.windows p.base p.selected p.hold p.half h

  -- the base window's cursor elsewhere
  pub base_parts : (k : Cursor) → cursor_ok g.columns g.rows k ≡ true → Parts g (with_base s k)
  base_parts k h =
      parts p.settings p.windows h p.selected p.hold p.half p.spans

  -- another window selected while nothing is held
  pub selected_parts : (k : ℕ) → selectable s.windows k ≡ true → is_held s.hold ≡ false → Parts g (with_selected s k)
  selected_parts k h n =
      parts p.settings p.windows p.base h (free_ok g s.windows k s.hold n) p.half p.spans

  -- a window defined, or moved in
  pub defined_parts : (k : ℕ) (w : Window) → window_ok g w ≡ true → is_defined w ≡ true → Parts g (defined s k w)
  defined_parts k w h d =
      parts p.settings (windows_set g s.windows (k - 1) w p.windows h) p.base
      (selectable-set s.windows (k - 1) s.selected w d p.selected) (hold_set g s.windows s.selected (k - 1) w s.hold d p.hold)
      p.half p.spans

  -- a window taken away while nothing is held, j then selected
  without_parts : (k j : ℕ) → is_held s.hold ≡ false → selectable (set s.windows (k - 1) no_window) j ≡ true
      → Parts g (with_selected (defined s k no_window) j)
  unfolding window_ok is_blank
  without_parts k j n h =
      parts p.settings (windows_set g s.windows (k - 1) no_window p.windows refl) p.base h (free_ok g (set s.windows (k - 1) no_window) j s.hold n) p.half p.spans

  -- a window cancelled
  pub cancelled_parts : (k : ℕ) → 1 ≤ k → is_held s.hold ≡ false → Parts g (cancelled s k)
  unfolding cancelled selectable
  cancelled_parts k l n =
      by_cond (Parts g) (eqb s.selected k) (λ _. without_parts k 0 n refl)
      (λ e. without_parts k s.selected n (selectable_other s.windows k s.selected no_window l e p.selected))

  -- the current window's cursor at a place of the window, with one of the three modes
  pub cursor_parts : (k : Cursor) → inside_window g s k.x k.y ≡ true → between 1 3 k.mode ≡ true
      → Parts g (at_cursor s k)
  unfolding at_cursor inside_window
  cursor_parts k h m =
      by_cond (Parts g) (eqb s.selected 0) (λ e. base_parts k (cursor_whole g.columns g.rows k (rw e at h) m))
      (λ e.
      let w = window_at s.windows s.selected in
      let f = selected_facts s.windows s.selected p.selected e in
      let o = window_at_lem g s.windows s.selected p.windows f.0 f.1 in
      defined_parts s.selected (with_cursor w k)
      (moved_ok g w k o f.2 (cursor_whole w.width w.height k (rw e at h) m)) f.2)
