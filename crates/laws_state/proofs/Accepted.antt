-- Every byte leaves an accepted state accepted, and writes in memory only. Its downloads are in Downloads.
-- Assumes nothing.
use mathlib.Core.Path.{◌≡◌, refl}
use mathlib.Core.Bool.{true, or-true}
use mathlib.Core.List.{List}
use Prim.Native.Nat.{ℕ}
use native.Mathlib.Omega.{arith}
use borrow.Author.Tests.{lt-ltb, not-false}
use Rattle.paper.specs.declared.Module.{Module}
use Rattle.paper.specs.declared.Span.{Span}
use Rattle.paper.specs.declared.Half.TheVariants.{Nothing}
use Rattle.paper.specs.declared.Command.{Command}
use Rattle.paper.specs.declared.Command.TheVariants.{Character, Back, Tab, LineFeed, Home, Clear, Return, Select, Initialise, Mode, Set, Enlarge, CursorSet, Define, Cancel, Uncarried, Erase}
use Rattle.paper.specs.declared.State.{State}
use Rattle.paper.specs.Downloads.{Faces}
use Rattle.paper.specs.Reading.{between}
use Rattle.paper.specs.Strokes.{Stroke}
use Rattle.paper.specs.Settings.{top_left, initial_state, in_domain, in_enlargement, with_half, with_spans, window_at, is_defined, selectable, fits, new_window, defined, cursor_of, cursor, in_mode, inside_window, view_of}
use Rattle.paper.specs.Bounds.{is_blank, window_ok, windows_ok, hold_ok, spans_ok, half_ok, state_ok}
use Rattle.paper.specs.Moves.{Moved}
use Rattle.paper.specs.Cells.{memory_rect, range_of}
use Rattle.paper.specs.Carry.{moves, becomes, asks, width_now, height_now, carried_out, image_strokes, byte_means}
use Rattle.paper.specs.Calls.{settled}
use Rattle.laws_bytes.specs.Readings.{command_ok}
use Rattle.laws_bytes.proofs.Tests.{between_facts}
use Rattle.laws_state.specs.Room.{Usable, AllIn, Kept}
use Rattle.laws_state.specs.Parts.{Parts}
use Rattle.laws_state.specs.After.{Sound}
use Rattle.laws_state.proofs.Moves.{all_wider, home_kept, return_kept, clear_kept, image-inside, ht_kept, back_kept, feed_kept, character_kept}
use Rattle.laws_state.proofs.Parts.{parts, whole, cursor_facts, cursor_true, picked_tests, fits_facts, selected_window}
use Rattle.laws_state.proofs.Settings.{initial_ok, set_ok, enlarged_ok}
use Rattle.laws_state.proofs.Marks.{marks_ok}
use Rattle.laws_state.proofs.Builders.{half_parts, settings_parts, spans_parts, selected_parts, defined_parts, cancelled_parts, cursor_parts}
use Rattle.laws_state.proofs.Views.{view-place, view_room, view_kept}
use Rattle.laws_state.proofs.Cases.{Allowed, by_byte}

-- the current window's cursor is in it and has one of the three modes
cursor_now : (g : Module) (s : State) → Parts g s
    → (inside_window g s (cursor_of s).x (cursor_of s).y ≡ true) × (between 1 3 (cursor_of s).mode ≡ true)
unfolding cursor_of
cursor_now g s p =
    picked_tests g s s.base (window_at s.windows s.selected).cursor
    (λ _. cursor_facts g.columns g.rows s.base p.base) (λ e. (selected_window g s p e).1)

-- a new window is in memory with its cursor at its top left
new_ok : (g : Module) (left top width height : ℕ) → fits g left top width height ≡ true
    → (window_ok g (new_window left top width height) ≡ true) × (is_defined (new_window left top width height) ≡ true)
unfolding window_ok top_left
new_ok g left top width height e =
    let f = fits_facts g left top width height e in
    (rw (e, cursor_true width height top_left (omega arith), or-true), lt-ltb 0 width (omega arith))

module _ (g : Module) (u : Usable g) where
  -- the initial state, with any spans that pass
  pub initial_parts : (ps : List Span) → spans_ok g ps ≡ true → Parts g (with_spans (initial_state g) ps)
  unfolding initial_state windows_ok window_ok is_blank selectable hold_ok half_ok top_left
  initial_parts ps h =
      record {
        settings = initial_ok g u;
        windows = refl;
        base = cursor_true g.columns g.rows top_left (omega arith);
        selected = refl;
        hold = refl;
        half = refl;
        spans = h;
      }

  -- a state for which nothing is written
  becomes_sound : (q : State) → Parts g q → Sound g (becomes q)
  becomes_sound q p = record { state = whole g q p; strokes = tt }

  module _ (s : State) (h : state_ok g s ≡ true) where
    -- what lies in the range lies in memory
    view-inside : (ss : List Stroke) → AllIn (range_of (view_of g s)) ss → AllIn (memory_rect g) ss
    view-inside ss k =
        let i = view-place g u s h in
        all_wider (range_of (view_of g s)) (memory_rect g) (omega arith) (omega arith) (omega arith) (omega arith) ss k

    -- a move of the range
    moved_sound : (t : Moved) → Kept (view_of g s) t → Sound g (moves s t)
    moved_sound t k = record { state = view_kept g u s h t k; strokes = view-inside t.strokes k.inside }

    -- every command that is carried out
    pub carried_sound : (font : Faces) (c : Command) → command_ok c ≡ true → Allowed g font.store s c → Sound g (carried_out g font s c)
    unfolding carried_out command_ok asks in_mode
    carried_sound font (Character b) o a =
        let v = view_of g s in
        moved_sound _ (character_kept g _ s.settings.width s.settings.style b v (view_room g u s h a.room))
    carried_sound font Back o a =
        moved_sound _ (back_kept g (view_of g s) (width_now g s) (height_now s) (view_room g u s h a.room))
    carried_sound font Tab o a = moved_sound _ (ht_kept g (view_of g s) (width_now g s) (height_now s) (view_room g u s h a.room))
    carried_sound font LineFeed o a =
        moved_sound _ (feed_kept g (view_of g s) (width_now g s) (height_now s) (view_room g u s h a.room))
    carried_sound font Home o a = moved_sound _ (home_kept (view_of g s) g (view-place g u s h))
    carried_sound font Clear o a = moved_sound _ (clear_kept (view_of g s) g (view-place g u s h))
    carried_sound font Return o a = moved_sound _ (return_kept (view_of g s) g (view-place g u s h))
    carried_sound font (Select k) o a =
        becomes_sound _ (selected_parts g s (parts g s h) k (not-false (selectable s.windows k) a.defined) a.owner)
    carried_sound font Initialise o a =
        record { state = whole g _ (initial_parts s.spans (parts g s h).spans); strokes = (omega arith, tt) }
    carried_sound font (Mode n) o a =
        let p = parts g s h in
        becomes_sound _ (cursor_parts g s p (cursor (cursor_of s).x (cursor_of s).y n) (cursor_now g s p).0 o)
    carried_sound font (Set key n) o a =
        let p = parts g s h in
        let e = not-false (in_domain g key n) a.domain in
        becomes_sound _ (settings_parts g s p _ (set_ok g s.settings p.settings key n e))
    carried_sound font (Enlarge x y) o a =
        let p = parts g s h in
        let e = not-false (in_enlargement x y) a.domain in
        becomes_sound _ (settings_parts g s p _ (enlarged_ok g s.settings p.settings x y e))
    carried_sound font (CursorSet x y) o a =
        let p = parts g s h in
        let e = not-false (inside_window g s x y) a.domain in
        becomes_sound _ (cursor_parts g s p (cursor x y (cursor_of s).mode) e (cursor_now g s p).1)
    carried_sound font (Define k left top width height) o a =
        let w = new_ok g left top width height (not-false (fits g left top width height) a.domain) in
        becomes_sound _ (defined_parts g s (parts g s h) k (new_window left top width height) w.0 w.1)
    carried_sound font (Cancel k) o a =
        becomes_sound _ (cancelled_parts g s (parts g s h) k (between_facts 1 4 k o).0 a.owner)
    carried_sound font Uncarried o a = record { state = h; strokes = tt }
    carried_sound font (Erase i code) o a = record { state = h; strokes = tt }

  module _ (font : Faces) where
    -- every byte: its state is accepted, and what it writes lies in memory
    pub byte_sound : (s : State) (b : ℕ) → state_ok g s ≡ true → Sound g (byte_means g font s b)
    unfolding half_ok
    byte_sound s b h =
        let p = parts g s h in
        let v = view_of g s in
        by_byte g font (Sound g) s (λ q o e. record { state = whole g _ (half_parts g s p q e); strokes = tt })
        (λ q o column row c e.
        record {
          state = whole g _ (half_parts g s p q e);
          strokes = view-inside s h (image_strokes v s.settings.style column row c) (image-inside v s.settings.style column row c);
        })
        (λ c o a. carried_sound (with_half s Nothing) (whole g _ (half_parts g s p Nothing refl)) font c o a)
        b p.half

    -- a byte leaves an accepted state accepted
    pub state_kept : (s : State) (b : ℕ) → state_ok g s ≡ true → state_ok g (settled (byte_means g font s b)) ≡ true
    state_kept s b h =
        let f = byte_sound s b h in
        let t = byte_means g font s b in
        let p = parts g t.state f.state in
        whole g _ (spans_parts g t.state p _ (marks_ok g t.state.spans t.strokes f.strokes p.spans))
