-- A guest's bytes stay in the window that is held: nothing else of the state changes hands, and no cell outside is written.
-- Assumes nothing.
use mathlib.Core.Path.{◌≡◌, refl, sym, ap, subst, ◌∙◌}
use Rattle.std.specs.Prelude.{Option}
use mathlib.Core.Bool.{true, false, true≢false}
use mathlib.Core.List.{List, [], ◌∷◌}
use Prim.Native.Nat.{ℕ, zero, suc, ◌-◌, ◌<◌, ◌≤◌}
use native.Mathlib.Omega.{arith}
use lib.Dec.{eqb}
use lib.ListN.{get_or, set}
use lib.Seq.{get_or-set_other}
use borrow.Author.Tests.{ne_eqb, eqb-false}
use Rattle.paper.specs.declared.Module.{Module}
use Rattle.paper.specs.declared.Settings.{Settings}
use Rattle.paper.specs.declared.Cursor.{Cursor}
use Rattle.paper.specs.declared.Window.{Window}
use Rattle.paper.specs.declared.View.{View}
use Rattle.paper.specs.declared.Half.TheVariants.{Nothing}
use Rattle.paper.specs.declared.Held.{Held}
use Rattle.paper.specs.declared.Command.{Command}
use Rattle.paper.specs.declared.Command.TheVariants.{Character, Back, Tab, LineFeed, Home, Clear, Return, Select, Initialise, Mode, Set, Enlarge, CursorSet, Define, Cancel, Uncarried, Erase}
use Rattle.paper.specs.declared.Refusal.TheVariants.{Accepted}
use Rattle.paper.specs.declared.State.{State}
use Rattle.paper.specs.Downloads.{Faces, faces}
use Rattle.paper.specs.Strokes.{Stroke}
use Rattle.paper.specs.Settings.{no_window, with_half, window_at, with_cursor, at_cursor, in_mode, view_of, hold_of}
use Rattle.paper.specs.Bounds.{hold_ok, half_ok, state_ok}
use Rattle.paper.specs.Moves.{Moved}
use Rattle.paper.specs.Cells.{range_of}
use Rattle.paper.specs.Carry.{Meaning, moves, becomes, is_held, asks, width_now, height_now, carried_out, image_strokes, byte_means, byte_store}
use Rattle.paper.specs.Calls.{is_accepted, feed_refusal, Feeding, next, run, fed_nothing, feed_call, settled}
use Rattle.laws_state.specs.Room.{Usable, AllIn, Kept}
use Rattle.laws_state.specs.Guest.{Holding, Guest, window_rect, OnlyInside}
use Rattle.laws_state.proofs.Tests.{by_cond}
use Rattle.laws_state.proofs.Moves.{home_kept, return_kept, clear_kept, image-inside, ht_kept, back_kept, feed_kept, character_kept}
use Rattle.laws_state.proofs.Parts.{parts, whole, selected_window, hold_facts}
use Rattle.laws_state.proofs.Builders.{half_parts}
use Rattle.laws_state.proofs.Views.{view-place, view_room, view-window}
use Rattle.laws_state.proofs.Cases.{Allowed, by_byte}
use Rattle.laws_state.proofs.Downloads.{held_store}
use Rattle.laws_state.proofs.Records.{accepted_parts, accepted_kept}
use Rattle.laws_state.proofs.Refusals.{feed_given}
use Rattle.laws_state.proofs.Outside.{isolated}

-- a number of a window that its replacement has too stays at its place
field_set : (f : Window → ℕ) (ws : List Window) (i : ℕ) (w d : Window) → f w ≡ f (get_or ws i d)
    → f (get_or (set ws i w) i d) ≡ f (get_or ws i d)
field_set f [] i w d e = refl
field_set f (x ∷ ws) zero w d e = e
field_set f (x ∷ ws) (suc i) w d e = field_set f ws i w d e

-- the same, but for the cursor of the held window
record Stays (s r : State) : Type 0 where
  hold : r.hold ≡ s.hold
  selected : r.selected ≡ s.selected
  base : r.base ≡ s.base
  others : (j : ℕ) → 1 ≤ j → (j ≡ s.selected → ⊥) → window_at r.windows j ≡ window_at s.windows j
  left : (window_at r.windows s.selected).left ≡ (window_at s.windows s.selected).left
  top : (window_at r.windows s.selected).top ≡ (window_at s.windows s.selected).top
  width : (window_at r.windows s.selected).width ≡ (window_at s.windows s.selected).width
  height : (window_at r.windows s.selected).height ≡ (window_at s.windows s.selected).height

-- and what is written lies in the selected window
record Within (s : State) (t : Meaning) : Type 0 where
  state : Stays s t.state
  strokes : AllIn (window_rect (window_at s.windows s.selected)) t.strokes

-- what changes neither the hold nor a window
unmoved : (s r : State) → r.hold ≡ s.hold → r.selected ≡ s.selected → r.base ≡ s.base → r.windows ≡ s.windows
    → Stays s r
unmoved s r hold selected base windows =
    record {
      hold = hold;
      selected = selected;
      base = base;
      others = λ j l n. ap (λ (ws : List Window). window_at ws j) windows;
      left = ap (λ (ws : List Window). (window_at ws s.selected).left) windows;
      top = ap (λ (ws : List Window). (window_at ws s.selected).top) windows;
      width = ap (λ (ws : List Window). (window_at ws s.selected).width) windows;
      height = ap (λ (ws : List Window). (window_at ws s.selected).height) windows;
    }

module _ (s : State) (user : eqb s.selected 0 ≡ false) where
  -- the selected window's cursor elsewhere
  at_stays : (k : Cursor) → Stays s (at_cursor s k)
  unfolding at_cursor
  at_stays k =
      by_cond (Stays s) (eqb s.selected 0) (λ e. absurd (true≢false (sym e ∙ user)))
      (λ e.
      let i = s.selected - 1 in
      let w = with_cursor (window_at s.windows s.selected) k in
      let some = eqb-false s.selected 0 e in
      record {
        hold = refl;
        selected = refl;
        base = refl;
        others = λ j l n. get_or-set_other s.windows i (j - 1) w no_window (omega arith);
        left = field_set (λ (q : Window). q.left) s.windows i w no_window refl;
        top = field_set (λ (q : Window). q.top) s.windows i w no_window refl;
        width = field_set (λ (q : Window). q.width) s.windows i w no_window refl;
        height = field_set (λ (q : Window). q.height) s.windows i w no_window refl;
      })

  -- what lies in the range lies in the window
  window-inside : (g : Module) (ss : List Stroke) → AllIn (range_of (view_of g s)) ss
      → AllIn (window_rect (window_at s.windows s.selected)) ss
  window-inside g ss = subst (λ (q : View). AllIn (range_of q) ss) (view-window g s user)

  -- a move of the range
  moved_within : (g : Module) (t : Moved) → Kept (view_of g s) t → Within s (moves s t)
  moved_within g t k = record { state = at_stays _; strokes = window-inside g t.strokes k.inside }

  -- nothing is written and the cursor goes elsewhere
  placed_within : (k : Cursor) → Within s (becomes (at_cursor s k))
  placed_within k = record { state = at_stays k; strokes = tt }

  -- every command that is carried out while a window is held
  carried_within : (g : Module) → Usable g → (font : Faces) → state_ok g s ≡ true → is_held s.hold ≡ true
      → (c : Command) → Allowed g font.store s c → Within s (carried_out g font s c)
  unfolding carried_out asks in_mode
  carried_within g u font h held (Character b) a =
      let v = view_of g s in
      moved_within g _ (character_kept g _ s.settings.width s.settings.style b v (view_room g u s h a.room))
  carried_within g u font h held Back a =
      moved_within g _ (back_kept g (view_of g s) (width_now g s) (height_now s) (view_room g u s h a.room))
  carried_within g u font h held Tab a =
      moved_within g _ (ht_kept g (view_of g s) (width_now g s) (height_now s) (view_room g u s h a.room))
  carried_within g u font h held LineFeed a =
      moved_within g _ (feed_kept g (view_of g s) (width_now g s) (height_now s) (view_room g u s h a.room))
  carried_within g u font h held Home a = moved_within g _ (home_kept (view_of g s) g (view-place g u s h))
  carried_within g u font h held Clear a = moved_within g _ (clear_kept (view_of g s) g (view-place g u s h))
  carried_within g u font h held Return a = moved_within g _ (return_kept (view_of g s) g (view-place g u s h))
  carried_within g u font h held (Select k) a = absurd (true≢false (sym held ∙ a.owner))
  carried_within g u font h held Initialise a = absurd (true≢false (sym held ∙ a.owner))
  carried_within g u font h held (Mode n) a = placed_within _
  carried_within g u font h held (Set key n) a = record { state = unmoved s _ refl refl refl refl; strokes = tt }
  carried_within g u font h held (Enlarge x y) a = record { state = unmoved s _ refl refl refl refl; strokes = tt }
  carried_within g u font h held (CursorSet x y) a = placed_within _
  carried_within g u font h held (Define k left top width height) a = absurd (true≢false (sym held ∙ a.owner))
  carried_within g u font h held (Cancel k) a = absurd (true≢false (sym held ∙ a.owner))
  carried_within g u font h held Uncarried a = record { state = unmoved s _ refl refl refl refl; strokes = tt }
  carried_within g u font h held (Erase k code) a = absurd (true≢false (sym held ∙ a.owner))

module _ (g : Module) (u : Usable g) (font : Faces) where
  -- every byte while a window is held
  byte_within : (s : State) (b : ℕ) → state_ok g s ≡ true → is_held s.hold ≡ true → eqb s.selected 0 ≡ false
      → Within (with_half s Nothing) (byte_means g font s b)
  unfolding half_ok
  byte_within s b h held user =
      let p = parts g s h in
      let s₀ = with_half s Nothing in
      by_byte g font (Within s₀) s (λ q o e. record { state = unmoved s₀ _ refl refl refl refl; strokes = tt })
      (λ q o column row c e.
      record {
        state = unmoved s₀ _ refl refl refl refl;
        strokes = window-inside s user g (image_strokes (view_of g s) s.settings.style column row c) (image-inside (view_of g s) s.settings.style column row c);
      })
      (λ c o a. carried_within s₀ user g u font (whole g _ (half_parts g s p Nothing refl)) held c a)
      b p.half

-- ---- window k is held

module _ (g : Module) (k back : ℕ) (v : Settings) (s : State) (ds : List ℕ) (i : Holding g k back v s ds) where
  -- its state is accepted
  pub holding_state : state_ok g s ≡ true
  holding_state = (accepted_parts g s ds i.accepts).0

  -- the window held is the selected one, and not the base
  pub is_selected : (1 ≤ k) × (k ≡ s.selected)
  is_selected =
      let ok = subst (λ (q : Option Held). hold_ok g s.windows s.selected q ≡ true) i.held (parts g s holding_state).hold in
      let f = hold_facts g s.windows s.selected k back v ok in
      (f.0, f.1)

  -- so it is a user window that is selected
  pub is_user : eqb s.selected 0 ≡ false
  is_user = let f = is_selected in ne_eqb s.selected 0 (omega arith)

  -- the cursor of the window held is in it
  pub in_window_lem : let w = window_at s.windows k in (w.cursor.x < w.width) × (w.cursor.y < w.height)
  in_window_lem =
      let w = selected_window g s (parts g s holding_state) is_user in
      rw is_selected.1 (w.1.0, w.1.1)

  -- with no bytes all is kept
  no_guest : Guest k back v s s
  no_guest =
      let f = in_window_lem in
      record {
        hold = i.held;
        selected = sym is_selected.1;
        base = refl;
        others = λ j l n. refl;
        left = refl;
        top = refl;
        width = refl;
        height = refl;
        x = f.0;
        y = f.1;
      }

  -- what some bytes keep and then others, all of them keep
  then_guest : (r q : State) → Guest k back v s r → Guest k back v r q → Guest k back v s q
  then_guest r q a b =
      record {
        hold = b.hold;
        selected = b.selected;
        base = b.base ∙ a.base;
        others = λ j l n. b.others j l n ∙ a.others j l n;
        left = b.left ∙ a.left;
        top = b.top ∙ a.top;
        width = b.width ∙ a.width;
        height = b.height ∙ a.height;
        x = omega arith;
        y = omega arith;
      }

module _ (g : Module) (u : Usable g) (font : List ℕ) (k back : ℕ) (v : Settings) where
  module _ (s : State) (ds : List ℕ) (i : Holding g k back v s ds) (b : ℕ) where
    -- what a guest's byte means
    abbrev meant : Meaning
    meant = byte_means g (faces font ds) s b

    -- a guest's byte, by the selected window
    within : Within (with_half s Nothing) meant
    unfolding is_held
    within =
        byte_within g u (faces font ds) s b (holding_state g k back v s ds i) (ap is_held i.held) (is_user g k back v s ds i)

    -- a guest's byte writes in the window held
    pub byte_inside : AllIn (window_rect (window_at s.windows k)) meant.strokes
    byte_inside = rw (is_selected g k back v s ds i).1 within.strokes

    -- and leaves the downloads as they are
    pub byte_downloads : byte_store g (faces font ds) s b ≡ ds
    unfolding is_held
    byte_downloads = held_store g (faces font ds) s b (ap is_held i.held)

    -- after it the window is held as before
    pub byte_holding : Holding g k back v (settled meant) (byte_store g (faces font ds) s b)
    byte_holding = record { accepts = accepted_kept g u font s ds b i.accepts; held = within.state.hold ∙ i.held }

    -- it keeps the hold, the selection, the base cursor, the other windows and the held window's rectangle
    pub byte_guest : Guest k back v s (settled meant)
    byte_guest =
        let same = (is_selected g k back v s ds i).1 in
        let p = within.state in
        let f = in_window_lem g k back v _ _ byte_holding in
        let ws = meant.state.windows in
        let width : (window_at ws k).width ≡ (window_at s.windows k).width = rw same p.width in
        let height : (window_at ws k).height ≡ (window_at s.windows k).height = rw same p.height in
        record {
          hold = p.hold ∙ i.held;
          selected = p.selected ∙ sym same;
          base = p.base;
          others = λ j l n. p.others j l (λ e. n (e ∙ sym same));
          left = rw same p.left;
          top = rw same p.top;
          width = width;
          height = height;
          x = omega arith;
          y = omega arith;
        }

  -- ---- a whole piece

  -- a guest's bytes keep what one byte keeps
  pub run_guest : (f : Feeding) (bs : List ℕ) → Holding g k back v f.answer.state f.store
      → Guest k back v f.answer.state (run g font f bs).answer.state
  unfolding next
  run_guest f [] i = no_guest g k back v f.answer.state f.store i
  run_guest f (b ∷ bs) i =
      let s = f.answer.state in
      then_guest g k back v s f.store i (settled (meant s f.store i b)) _
      (byte_guest s f.store i b) (run_guest (next g font f b) bs (byte_holding s f.store i b))

  -- change no cell outside the window held
  pub run-outside : (f : Feeding) (bs : List ℕ) → Holding g k back v f.answer.state f.store
      → OnlyInside g k f.answer.state f.mem (run g font f bs).mem
  unfolding next
  run-outside f [] i = record { same = λ a out. refl }
  run-outside f (b ∷ bs) i =
      let s = f.answer.state in
      let q = byte_guest s f.store i b in
      record {
        same = λ a out.
            (run-outside (next g font f b) bs (byte_holding s f.store i b)).same a (rw (q.left, q.top, q.width, q.height) out)
            ∙ isolated g (window_rect (window_at s.windows k)) a out f.mem (meant s f.store i b).strokes
            (byte_inside s f.store i b);
      }

  -- and no download
  pub run_downloads : (f : Feeding) (bs : List ℕ) → Holding g k back v f.answer.state f.store
      → (run g font f bs).store ≡ f.store
  unfolding next
  run_downloads f [] i = refl
  run_downloads f (b ∷ bs) i =
      run_downloads (next g font f b) bs (byte_holding f.answer.state f.store i b)
      ∙ byte_downloads f.answer.state f.store i b

  -- ---- a feed, refused or not

  -- a feed keeps what a byte keeps
  pub feed_guest : (s : State) (ds m piece : List ℕ) → Holding g k back v s ds
      → Guest k back v s (feed_call g font s ds m piece).answer.state
  unfolding feed_call
  feed_guest s ds m piece i =
      by_cond (λ (q : Feeding). Guest k back v s q.answer.state) (is_accepted (feed_refusal g font s ds m))
      (λ _. run_guest (fed_nothing Accepted s ds m) piece i) (λ _. no_guest g k back v s ds i)

  module _ (s : State) (ds m piece : List ℕ) (h : s.hold ≡ hold_of k back v) where
    -- one that is not refused begins with an accepted state
    given : is_accepted (feed_refusal g font s ds m) ≡ true → Holding g k back v s ds
    given e = record { accepts = (feed_given g font s ds m e).2; held = h }

    -- it changes no cell outside its window, whatever the state record
    pub feed_outside : OnlyInside g k s m (feed_call g font s ds m piece).mem
    unfolding feed_call
    feed_outside =
        by_cond (λ (q : Feeding). OnlyInside g k s m q.mem) (is_accepted (feed_refusal g font s ds m))
        (λ e. run-outside (fed_nothing Accepted s ds m) piece (given e)) (λ _. record { same = λ a out. refl })

    -- and no download
    pub feed_downloads : (feed_call g font s ds m piece).store ≡ ds
    unfolding feed_call
    feed_downloads =
        by_cond (λ (q : Feeding). q.store ≡ ds) (is_accepted (feed_refusal g font s ds m))
        (λ e. run_downloads (fed_nothing Accepted s ds m) piece (given e)) (λ _. refl)
