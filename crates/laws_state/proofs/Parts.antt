-- An accepted state taken apart and put together, and the facts that its tests stand for. Assumes nothing.
use mathlib.Core.Path.{◌≡◌, refl}
use Rattle.paper.specs.declared.Held.{Held}
use mathlib.Core.Bool.{Bool, true, false, cond, ◌&&◌, ◌||◌}
use mathlib.Core.List.{List}
use Prim.Native.Nat.{ℕ, zero, suc, ◌+◌, ◌<◌, ◌≤◌}
use native.Mathlib.Omega.{arith}
use lib.Dec.{leb, ltb, eqb}
use borrow.Author.Tests.{leb-true, le-leb, ltb-true, lt-ltb, eqb-true, eqb-false, eq-eqb}
use Rattle.paper.specs.declared.Module.{Module}
use Rattle.paper.specs.declared.Settings.{Settings}
use Rattle.paper.specs.declared.Cursor.{Cursor}
use Rattle.paper.specs.declared.Window.{Window}
use Rattle.paper.specs.declared.State.{State}
use Rattle.paper.specs.Reading.{between}
use Rattle.paper.specs.Settings.{window_at, is_defined, selectable, fits, inside_window, hold_of}
use Rattle.paper.specs.Bounds.{settings_ok, cursor_ok, is_blank, window_ok, windows_ok, hold_ok, spans_ok, half_ok, state_ok}
use Rattle.laws_bytes.proofs.Tests.{both_of, between_facts, between_true}
use Rattle.laws_state.specs.Parts.{Parts}

module _ (g : Module) (s : State) where
  -- an accepted state has every part
  pub parts : state_ok g s ≡ true → Parts g s
  unfolding state_ok
  parts h =
      let settings = both_of (settings_ok g s.settings) _ h in
      let windows = both_of (windows_ok g s.windows) _ settings.1 in
      let base = both_of (cursor_ok g.columns g.rows s.base) _ windows.1 in
      let selected = both_of (selectable s.windows s.selected) _ base.1 in
      let hold = both_of (hold_ok g s.windows s.selected s.hold) _ selected.1 in
      let rest = both_of (half_ok g s.half) (spans_ok g s.spans) hold.1 in
      record {
        settings = settings.0;
        windows = windows.0;
        base = base.0;
        selected = selected.0;
        hold = hold.0;
        half = rest.0;
        spans = rest.1;
      }

  -- and a state with every part is accepted
  pub whole : Parts g s → state_ok g s ≡ true
  unfolding state_ok
  whole p = rw (p.settings, p.windows, p.base, p.selected, p.hold, p.half, p.spans)

-- ---- cursors and windows

-- a cursor in a window of w columns and h rows, with one of the three modes
abbrev pub InWindow : ℕ → ℕ → Cursor → Type 0
InWindow w h k = (k.x < w) × (k.y < h) × (1 ≤ k.mode) × (k.mode ≤ 3)

-- the cursor's test says so
pub cursor_facts : (w h : ℕ) (k : Cursor) → cursor_ok w h k ≡ true → InWindow w h k
unfolding cursor_ok
cursor_facts w h k e =
    let x = both_of (ltb k.x w) _ e in
    let y = both_of (ltb k.y h) (between 1 3 k.mode) x.1 in
    let mode = between_facts 1 3 k.mode y.1 in
    (ltb-true k.x w x.0, ltb-true k.y h y.0, mode.0, mode.1)

-- and back
pub cursor_true : (w h : ℕ) (k : Cursor) → InWindow w h k → cursor_ok w h k ≡ true
unfolding cursor_ok
cursor_true w h k f =
    rw (lt-ltb k.x w f.0, lt-ltb k.y h f.1, between_true 1 3 k.mode f.2 f.3)

-- from a test of its place and one of its mode
pub cursor_whole : (w h : ℕ) (k : Cursor) → (ltb k.x w && ltb k.y h) ≡ true → between 1 3 k.mode ≡ true
    → cursor_ok w h k ≡ true
unfolding cursor_ok
cursor_whole w h k e m = let f = both_of (ltb k.x w) (ltb k.y h) e in rw (f.0, f.1, m)

-- the cursor of the base window or of another, whichever is selected, passes both
pub picked_tests : (g : Module) (s : State) (base other : Cursor)
    → (eqb s.selected 0 ≡ true → InWindow g.columns g.rows base)
    → (eqb s.selected 0 ≡ false
    → InWindow (window_at s.windows s.selected).width (window_at s.windows s.selected).height other)
    → let k = cond (eqb s.selected 0) base other in
    (inside_window g s k.x k.y ≡ true) × (between 1 3 k.mode ≡ true)
unfolding inside_window
picked_tests g s base other f h = go (eqb s.selected 0) f h where
  w : Window
  w = window_at s.windows s.selected

  tests : (width height : ℕ) (k : Cursor) → InWindow width height k
      → ((ltb k.x width && ltb k.y height) ≡ true) × (between 1 3 k.mode ≡ true)
  tests width height k i =
      (rw (lt-ltb k.x width i.0, lt-ltb k.y height i.1), between_true 1 3 k.mode i.2 i.3)

  go : (t : Bool) → (t ≡ true → InWindow g.columns g.rows base) → (t ≡ false → InWindow w.width w.height other)
      → let k = cond t base other in
      (cond t (ltb k.x g.columns && ltb k.y g.rows) (ltb k.x w.width && ltb k.y w.height) ≡ true)
      × (between 1 3 k.mode ≡ true)
  go true f h = tests g.columns g.rows base (f refl)
  go false f h = tests w.width w.height other (h refl)

-- a window that is defined is not the blank one, so what is asked of any other holds of it
not_blank : (w : Window) (t : Bool) {u : Bool} → is_defined w ≡ true → is_blank w ≡ t → (t || u) ≡ true → u ≡ true
unfolding is_blank
not_blank w true d i e =
    let left = both_of (eqb w.left 0) _ i in
    let top = both_of (eqb w.top 0) _ left.1 in
    let width = both_of (eqb w.width 0) _ top.1 in
    let none = eqb-true w.width 0 width.0 in
    let some = ltb-true 0 w.width d in
    absurd (omega arith)
not_blank w false d i e = e

module _ (g : Module) where
  -- a rectangle of memory
  abbrev pub Fits : ℕ → ℕ → ℕ → ℕ → Type 0
  Fits left top width height =
      (1 ≤ width) × (1 ≤ height) × (left + width ≤ g.columns) × (top + height ≤ g.rows)

  -- a rectangle's test says so
  pub fits_facts : (left top width height : ℕ) → fits g left top width height ≡ true → Fits left top width height
  unfolding fits
  fits_facts left top width height e =
      let w = both_of (leb 1 width) _ e in
      let h = both_of (leb 1 height) _ w.1 in
      let f = both_of (leb (left + width) g.columns) (leb (top + height) g.rows) h.1 in (
        leb-true 1 width w.0,
        leb-true 1 height h.0,
        leb-true (left + width) g.columns f.0,
        leb-true (top + height) g.rows f.1,
      )

  -- and back
  pub fits_true : (left top width height : ℕ) → Fits left top width height → fits g left top width height ≡ true
  unfolding fits
  fits_true left top width height f =
      rw (
        le-leb 1 width f.0,
        le-leb 1 height f.1,
        le-leb (left + width) g.columns f.2,
        le-leb (top + height) g.rows f.3,
      )

  -- a window that is defined lies in memory, and its cursor in it
  pub window_facts : (w : Window) → window_ok g w ≡ true → is_defined w ≡ true
      → Fits w.left w.top w.width w.height × InWindow w.width w.height w.cursor
  unfolding window_ok
  window_facts w e d =
      let inside = fits g w.left w.top w.width w.height in
      let f = both_of inside (cursor_ok w.width w.height w.cursor) (not_blank w (is_blank w) d refl e) in
      (fits_facts w.left w.top w.width w.height f.0, cursor_facts w.width w.height w.cursor f.1)

  -- each of the four user windows passes
  pub window_at_lem : (ws : List Window) (k : ℕ) → windows_ok g ws ≡ true → 1 ≤ k → k ≤ 4 → window_ok g (window_at ws k) ≡ true
  unfolding windows_ok
  window_at_lem ws zero e l h = absurd (omega arith)
  window_at_lem ws (suc zero) e l h = (both_of (window_ok g (window_at ws 1)) _ e).0
  window_at_lem ws (suc (suc zero)) e l h =
      let a = both_of (window_ok g (window_at ws 1)) _ e in
      (both_of (window_ok g (window_at ws 2)) _ a.1).0
  window_at_lem ws (suc (suc (suc zero))) e l h =
      let a = both_of (window_ok g (window_at ws 1)) _ e in
      let b = both_of (window_ok g (window_at ws 2)) _ a.1 in
      (both_of (window_ok g (window_at ws 3)) _ b.1).0
  window_at_lem ws (suc (suc (suc (suc zero)))) e l h =
      let a = both_of (window_ok g (window_at ws 1)) _ e in
      let b = both_of (window_ok g (window_at ws 2)) _ a.1 in
      (both_of (window_ok g (window_at ws 3)) _ b.1).1
  window_at_lem ws (suc (suc (suc (suc (suc k))))) e l h = absurd (omega arith)

  -- all four, and back
  pub windows_true : (ws : List Window) → ((k : ℕ) → 1 ≤ k → k ≤ 4 → window_ok g (window_at ws k) ≡ true) → windows_ok g ws ≡ true
  unfolding windows_ok
  windows_true ws f =
      rw (
        f 1 (omega arith) (omega arith),
        f 2 (omega arith) (omega arith),
        f 3 (omega arith) (omega arith),
        f 4 (omega arith) (omega arith),
      )

-- a window that may be selected, other than the base, is one of four and defined
pub selected_facts : (ws : List Window) (k : ℕ) → selectable ws k ≡ true → eqb k 0 ≡ false
    → (1 ≤ k) × (k ≤ 4) × (is_defined (window_at ws k) ≡ true)
unfolding selectable
selected_facts ws k e z =
    let f = both_of (leb k 4) (is_defined (window_at ws k)) (rw z at e) in
    let some = eqb-false k 0 z in
    (omega arith, leb-true k 4 f.0, f.1)

-- the selected window, if it is not the base, lies in memory, and its cursor in it
pub selected_window : (g : Module) (s : State) → Parts g s → eqb s.selected 0 ≡ false
    → let w = window_at s.windows s.selected in
    Fits g w.left w.top w.width w.height × InWindow w.width w.height w.cursor
selected_window g s p e =
    let f = selected_facts s.windows s.selected p.selected e in
    window_facts g (window_at s.windows s.selected)
    (window_at_lem g s.windows s.selected p.windows f.0 f.1) f.2

-- ---- holding

-- window k held while `selected` is selected, `back` and `v` saved
abbrev pub HeldWell : Module → List Window → ℕ → ℕ → ℕ → Settings → Type 0
HeldWell g ws selected k back v =
    (1 ≤ k) × (k ≡ selected) × (selectable ws k ≡ true) × (selectable ws back ≡ true) × (settings_ok g v ≡ true)

module _ (g : Module) (ws : List Window) (selected k back : ℕ) (v : Settings) where
  -- the hold's test says so
  pub hold_facts : hold_ok g ws selected (hold_of k back v) ≡ true → HeldWell g ws selected k back v
  unfolding hold_ok
  hold_facts e =
      let some = both_of (leb 1 k) _ e in
      let same = both_of (eqb k selected) _ some.1 in
      let held = both_of (selectable ws k) _ same.1 in
      let saved = both_of (selectable ws back) (settings_ok g v) held.1 in
      (leb-true 1 k some.0, eqb-true k selected same.0, held.0, saved.0, saved.1)

  -- and back
  pub hold_true : HeldWell g ws selected k back v → hold_ok g ws selected (hold_of k back v) ≡ true
  unfolding hold_ok
  hold_true f = rw (le-leb 1 k f.0, eq-eqb k selected f.1, f.2, f.3, f.4)
