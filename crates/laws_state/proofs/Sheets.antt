-- A state with its cursor and spans where a sheet has them: its view is the sheet's, and what a run does not change is as it was.
-- Assumes nothing.
use mathlib.Core.Path.{◌≡◌, refl, sym, ap, ap₂}
use mathlib.Core.Bool.{Bool, true, false, cond}
use mathlib.Core.List.{List, [], ◌∷◌}
use Prim.Native.Nat.{ℕ, zero, suc, ◌+◌, ◌-◌, ◌≤◌}
use native.Mathlib.Omega.{arith}
use lib.ListN.{get_or, set}
use lib.Dec.{ltb, eqb}
use borrow.Author.Tests.{ltb-false, lt-ltb, le-ltb}
use Rattle.paper.specs.declared.Module.{Module}
use Rattle.paper.specs.declared.Cursor.{Cursor}
use Rattle.paper.specs.declared.Span.{Span}
use Rattle.paper.specs.declared.State.{State}
use Rattle.paper.specs.declared.View.{View}
use Rattle.paper.specs.declared.Window.{Window}
use Rattle.paper.specs.Settings.{no_window, with_base, with_spans, window_at, with_cursor, at_cursor, cursor, view, base_view, window_view, view_of, cursor_in, with_view}
use Rattle.paper.specs.Cells.{too_large}
use Rattle.paper.specs.Carry.{exceeds}
use Rattle.laws_state.specs.Runs.{Sheet, on_sheet, Within}
use Rattle.laws_state.proofs.Tests.{by_cond}

-- ---- a cursor set leaves the rest of the state

module _ (s : State) (k : Cursor) where
  pub at_settings : (at_cursor s k).settings ≡ s.settings
  unfolding at_cursor
  at_settings = by_cond (λ (q : State). q.settings ≡ s.settings) (eqb s.selected 0) (λ _. refl) (λ _. refl)

  pub at_selected_lem : (at_cursor s k).selected ≡ s.selected
  unfolding at_cursor
  at_selected_lem = by_cond (λ (q : State). q.selected ≡ s.selected) (eqb s.selected 0) (λ _. refl) (λ _. refl)

  pub at_half_lem : (at_cursor s k).half ≡ s.half
  unfolding at_cursor
  at_half_lem = by_cond (λ (q : State). q.half ≡ s.half) (eqb s.selected 0) (λ _. refl) (λ _. refl)

  pub at_spans : (at_cursor s k).spans ≡ s.spans
  unfolding at_cursor
  at_spans = by_cond (λ (q : State). q.spans ≡ s.spans) (eqb s.selected 0) (λ _. refl) (λ _. refl)

-- ---- the view of a state that a sheet was put into

-- a view by its parts
view_by : (v : View) (left top width height x y : ℕ) → left ≡ v.left → top ≡ v.top → width ≡ v.width → height ≡ v.height
    → x ≡ v.x → y ≡ v.y → view left top width height x y v.mode ≡ v
view_by v left top width height x y e1 e2 e3 e4 e5 e6 = rw (e1, e2, e3, e4, e5, e6)

-- the base's range, with the cursor where a view of it has it
base_back : (g : Module) (write : ℕ) (k : Cursor) (v : View) → g.visible ≤ g.columns → Within (base_view g write k) v
    → base_view g write (cursor (v.left + v.x) (v.top + v.y) v.mode) ≡ v
unfolding base_view
base_back g write k v part i = go (eqb write 1) (ltb k.x g.visible) i where
  go : (t u : Bool)
      → Within (cond t (view 0 0 g.columns g.rows k.x k.y k.mode)
      (cond u (view 0 0 g.visible g.rows k.x k.y k.mode)
      (view g.visible 0 (g.columns - g.visible) g.rows (k.x - g.visible) k.y k.mode))) v
      → cond t (view 0 0 g.columns g.rows (v.left + v.x) (v.top + v.y) v.mode)
      (cond (ltb (v.left + v.x) g.visible) (view 0 0 g.visible g.rows (v.left + v.x) (v.top + v.y) v.mode)
      (view g.visible 0 (g.columns - g.visible) g.rows (v.left + v.x - g.visible) (v.top + v.y) v.mode)) ≡ v
  go true u i = view_by v _ _ _ _ _ _ (sym i.left) (sym i.top) (sym i.width) (sym i.height) (omega (arith, i.left)) (omega (arith, i.top))
  go false true i =
      rw (lt-ltb (v.left + v.x) g.visible (omega (arith, i.left, i.x)))
      (view_by v _ _ _ _ _ _ (sym i.left) (sym i.top) (sym i.width) (sym i.height) (omega (arith, i.left)) (omega (arith, i.top)))
  go false false i =
      rw (le-ltb (v.left + v.x) g.visible (omega (arith, i.left)))
      (view_by v _ _ _ _ _ _ (sym i.left) (sym i.top) (sym i.width) (sym i.height) (omega (arith, i.left)) (omega (arith, i.top)))

-- a user window's, likewise
window_back : (ws : List Window) (k : ℕ) (v : View) → Within (window_view (get_or ws k no_window)) v
    → window_view (get_or (set ws k (with_cursor (get_or ws k no_window) (cursor v.x v.y v.mode))) k no_window) ≡ v
window_back [] k v i = absurd (omega (arith, i.x))
window_back (w ∷ ws) zero v i = view_by v _ _ _ _ _ _ (sym i.left) (sym i.top) (sym i.width) (sym i.height) refl refl
window_back (w ∷ ws) (suc k) v i = window_back ws k v i

-- the view of a state is the view that was put into it
pub view_back : (g : Module) (s : State) (v : View) → g.visible ≤ g.columns → Within (view_of g s) v → view_of g (with_view s v) ≡ v
unfolding view_of at_cursor cursor_in
view_back g s v part i = go (eqb s.selected 0) refl i where
  go : (t : Bool) → eqb s.selected 0 ≡ t
      → Within (cond t (base_view g s.settings.write s.base) (window_view (window_at s.windows s.selected))) v
      → view_of g (with_view s v) ≡ v
  go true e i = rw (e, e) (base_back g s.settings.write s.base v part i)
  go false e i = rw (e, e) (window_back s.windows (s.selected - 1) v i)

-- ---- put in once more, or as it was

-- a window's cursor set twice
set_twice : (ws : List Window) (k : ℕ) (a b : Cursor)
    → set (set ws k (with_cursor (get_or ws k no_window) a)) k (with_cursor (get_or (set ws k (with_cursor (get_or ws k no_window) a)) k no_window) b)
    ≡ set ws k (with_cursor (get_or ws k no_window) b)
set_twice [] k a b = refl
set_twice (w ∷ ws) zero a b = refl
set_twice (w ∷ ws) (suc k) a b = ap (λ (q : List Window). w ∷ q) (set_twice ws k a b)

-- a window's cursor set where it is
set_same : (ws : List Window) (k : ℕ) → set ws k (get_or ws k no_window) ≡ ws
set_same [] k = refl
set_same (w ∷ ws) zero = refl
set_same (w ∷ ws) (suc k) = ap (λ (q : List Window). w ∷ q) (set_same ws k)

-- one sheet after another is the other
pub sheet_twice : (s : State) (u v : View) (ps qs : List Span)
    → with_spans (with_view (with_spans (with_view s u) ps) v) qs ≡ with_spans (with_view s v) qs
unfolding at_cursor cursor_in
sheet_twice s u v ps qs = go (eqb s.selected 0) refl where
  go : (t : Bool) → eqb s.selected 0 ≡ t → with_spans (with_view (with_spans (with_view s u) ps) v) qs ≡ with_spans (with_view s v) qs
  go true e = rw (e, e)
  go false e =
      rw (e, e)
      (ap (λ (ws : List Window).
      record { settings = s.settings; windows = ws; base = s.base; selected = s.selected; hold = s.hold; half = s.half; spans = qs })
      (set_twice s.windows (s.selected - 1) (cursor u.x u.y u.mode) (cursor v.x v.y v.mode)))

-- the base's cursor by its view
base_same : (g : Module) (write : ℕ) (k : Cursor)
    → cursor ((base_view g write k).left + (base_view g write k).x) ((base_view g write k).top + (base_view g write k).y) (base_view g write k).mode ≡ k
unfolding base_view
base_same g write k =
    by_cond (λ (v : View). cursor (v.left + v.x) (v.top + v.y) v.mode ≡ k) (eqb write 1) (λ _. at (omega arith) (omega arith))
    (λ _. by_cond (λ (v : View). cursor (v.left + v.x) (v.top + v.y) v.mode ≡ k) (ltb k.x g.visible) (λ _. at (omega arith) (omega arith))
    (λ e. let l = ltb-false k.x g.visible e in at (omega arith) (omega arith)))
  where
    at : {x y : ℕ} → x ≡ k.x → y ≡ k.y → cursor x y k.mode ≡ k
    at e f = ap₂ (λ (x y : ℕ). cursor x y k.mode) e f

-- the view that a state has, put into it
pub view-same : (g : Module) (s : State) → with_view s (view_of g s) ≡ s
unfolding view_of at_cursor cursor_in
view-same g s = go (eqb s.selected 0) refl where
  go : (t : Bool) → eqb s.selected 0 ≡ t → with_view s (view_of g s) ≡ s
  go true e = rw e (ap (with_base s) (base_same g s.settings.write s.base))
  go false e =
      rw e
      (ap (λ (ws : List Window).
      record { settings = s.settings; windows = ws; base = s.base; selected = s.selected; hold = s.hold; half = s.half; spans = s.spans })
      (set_same s.windows (s.selected - 1)))

-- ---- what a run leaves as it was

module _ (g : Module) (part : g.visible ≤ g.columns) (s : State) (h : Sheet) (i : Within (view_of g s) h.view) where
  -- the view is the sheet's
  pub sheet-view : view_of g (on_sheet s h) ≡ h.view
  unfolding view_of
  sheet-view = view_back g s h.view part i

  -- whether a cell exceeds the range depends on nothing that a run changes
  pub sheet-exceeds : exceeds g (on_sheet s h) ≡ exceeds g s
  unfolding too_large
  sheet-exceeds = rw (sheet-view, at_settings s (cursor_in s h.view), i.width, i.height)
