-- The range in which a command works lies in memory, and a move in it keeps a state accepted. Assumes nothing.
use mathlib.Core.Path.{◌≡◌, refl, ap}
use mathlib.Core.Bool.{true, false}
use Prim.Native.Nat.{ℕ, ◌+◌, ◌≤◌}
use native.Mathlib.Omega.{arith}
use lib.Dec.{ltb, eqb}
use borrow.Author.Tests.{ltb-true, ltb-false}
use Rattle.paper.specs.declared.Module.{Module}
use Rattle.paper.specs.declared.Cursor.{Cursor}
use Rattle.paper.specs.declared.View.{View}
use Rattle.paper.specs.declared.State.{State}
use Rattle.paper.specs.Panel.{panel}
use Rattle.paper.specs.Settings.{in_domain, window_at, cursor, base_view, window_view, view_of, cursor_in, with_view}
use Rattle.paper.specs.Bounds.{cursor_ok, state_ok}
use Rattle.paper.specs.Cells.{too_large}
use Rattle.paper.specs.Moves.{Moved}
use Rattle.paper.specs.Carry.{width_now, height_now, exceeds}
use Rattle.laws_state.specs.Room.{Usable, InMemory, Room, Kept}
use Rattle.laws_state.proofs.Tests.{by_cond, neither}
use Rattle.laws_state.proofs.Parts.{parts, whole, cursor_facts, picked_tests, selected_window}
use Rattle.laws_state.proofs.Settings.{cell_size}
use Rattle.laws_state.proofs.Builders.{cursor_parts}

-- the 112 by 16 module is usable
pub panel_usable : Usable panel
unfolding panel in_domain
panel_usable =
    record {
      rows_some = omega arith;
      visible_some = omega arith;
      visible_part = omega arith;
      small = omega arith;
      columns_small = omega arith;
      rows_small = omega arith;
      glyph_some = omega arith;
      glyph_small = omega arith;
      bright = refl;
    }

-- the range of a user window is its rectangle
pub view-window : (g : Module) (s : State) → eqb s.selected 0 ≡ false
    → view_of g s ≡ window_view (window_at s.windows s.selected)
unfolding view_of
view-window g s e = rw e

module _ (g : Module) (u : Usable g) where
  -- the base's range lies in memory
  base_place : (write : ℕ) (k : Cursor) → cursor_ok g.columns g.rows k ≡ true → InMemory g (base_view g write k)
  unfolding base_view
  base_place write k e =
      let f = cursor_facts g.columns g.rows k e in
      by_cond (InMemory g) (eqb write 1) (λ _. omega arith)
      (λ _. by_cond (InMemory g) (ltb k.x g.visible)
      (λ t. let l = ltb-true k.x g.visible t in omega arith)
      (λ t. let l = ltb-false k.x g.visible t in omega arith))

  -- the base's range has the base cursor's mode
  base_mode : (write : ℕ) (k : Cursor) → (base_view g write k).mode ≡ k.mode
  unfolding base_view
  base_mode write k =
      by_cond (λ (q : View). q.mode ≡ k.mode) (eqb write 1) (λ _. refl)
      (λ _. by_cond (λ (q : View). q.mode ≡ k.mode) (ltb k.x g.visible) (λ _. refl) (λ _. refl))

  module _ (s : State) (h : state_ok g s ≡ true) where
    -- the range lies in memory, and the cursor in the range
    pub view-place : InMemory g (view_of g s)
    unfolding view_of
    view-place =
        let p = parts g s h in
        by_cond (InMemory g) (eqb s.selected 0) (λ _. base_place s.settings.write s.base p.base)
        (λ e. let f = selected_window g s p e in omega arith)

    -- the mode is MD1, MD2 or MD3
    pub view_mode : (1 ≤ (view_of g s).mode) × ((view_of g s).mode ≤ 3)
    unfolding view_of
    view_mode =
        let p = parts g s h in
        by_cond (λ (q : View). (1 ≤ q.mode) × (q.mode ≤ 3)) (eqb s.selected 0)
        (λ _.
        let f = cursor_facts g.columns g.rows s.base p.base in
        omega (arith, base_mode s.settings.write s.base))
        (λ e. let f = selected_window g s p e in omega arith)

    -- a cell that is not too large has room
    pub view_room : exceeds g s ≡ false → Room g (view_of g s) (width_now g s) (height_now s)
    unfolding too_large
    view_room e =
        let f = neither (ltb (view_of g s).width (width_now g s)) (ltb (view_of g s).height (height_now s)) e in
        let i = view-place in
        let c = cell_size g s.settings (parts g s h).settings u in
        let w = ltb-false (view_of g s).width (width_now g s) f.0 in
        let l = ltb-false (view_of g s).height (height_now s) f.1 in
        omega arith

    -- where a move of the range ends, the state is accepted
    pub view_kept : (t : Moved) → Kept (view_of g s) t → state_ok g (with_view s t.view) ≡ true
    unfolding cursor_in
    view_kept t k =
        let v = t.view in
        let m = view_mode in
        let f =
        picked_tests g s (cursor (v.left + v.x) (v.top + v.y) v.mode) (cursor v.x v.y v.mode)
        (λ _. let i = view-place in omega arith)
        (λ e.
        let r = view-window g s e in
        omega (arith, ap (λ (q : View). q.width) r, ap (λ (q : View). q.height) r)) in
        whole g _ (cursor_parts g s (parts g s h) (cursor_in s v) f.0 f.1)
