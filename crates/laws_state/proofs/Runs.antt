-- A run of characters, and a run of an image's bytes, come to what feeding their bytes one by one comes to. Assumes nothing.
use mathlib.Core.Path.{◌≡◌, refl, sym, ap, ap₂, ◌∙◌}
use mathlib.Core.Bool.{Bool, true, false, cond}
use mathlib.Core.List.{List, [], ◌∷◌}
use Prim.Native.Nat.{ℕ, ◌+◌, ◌<◌, ◌≤◌}
use native.Mathlib.Nat.{add-zero}
use native.Mathlib.Omega.{arith}
use lib.ListN.{length}
use lib.Dec.{leb, ltb, eqb}
use borrow.Author.Tests.{ltb-true, ltb-false, eqb-false, eq-eqb, ne_eqb}
use Rattle.paper.specs.declared.Module.{Module}
use Rattle.paper.specs.declared.Command.TheVariants.{Character}
use Rattle.paper.specs.declared.Half.{Half}
use Rattle.paper.specs.declared.Half.TheVariants.{Nothing, ImageData}
use Rattle.paper.specs.declared.Outcome.{Outcome}
use Rattle.paper.specs.declared.Outcome.TheVariants.{Unfinished, Carried}
use Rattle.paper.specs.declared.Reading.TheVariants.{Whole}
use Rattle.paper.specs.declared.Refusal.{Refusal}
use Rattle.paper.specs.declared.Span.{Span}
use Rattle.paper.specs.declared.State.{State}
use Rattle.paper.specs.declared.View.{View}
use Rattle.paper.specs.Downloads.{Faces, faces, in_force}
use Rattle.paper.specs.Strokes.{mark_all}
use Rattle.paper.specs.Numbers.{outcome_number, is_carried, carried_by, answered_by}
use Rattle.paper.specs.Reading.{read_first, read_image, read_of}
use Rattle.paper.specs.Settings.{with_half, with_spans, with_view, cursor_in, view_of}
use Rattle.paper.specs.Bounds.{state_ok}
use Rattle.paper.specs.Moves.{Moved, character_of}
use Rattle.paper.specs.Carry.{asks, exceeds, moves, carried_out, command_of, take_of, byte_means, leaves, command_store, take_store, byte_store}
use Rattle.paper.specs.Calls.{feeding, settled, counted, next}
use Rattle.laws_state.specs.Room.{Usable, Room, Kept}
use Rattle.laws_state.specs.Runs.{Reaches, here, Sheet, moved_on, written_on, Written, written, characters_of, on_sheet, Within, Image, stored_on, Stored, stored, image_bytes_of, outcome_at, done_at, on_image}
use Rattle.laws_state.proofs.Tests.{by_cond}
use Rattle.laws_state.proofs.Moves.{character_kept}
use Rattle.laws_state.proofs.Views.{view_room}
use Rattle.laws_state.proofs.Reached.{reaches_next}
use Rattle.laws_state.proofs.Sheets.{at_settings, at_half_lem, at_spans, sheet_twice, sheet-view, sheet-exceeds}

-- ---- ranges

-- what is within a range is within any range that this is within
pub within_on : {a b c : View} → Within a b → Within b c → Within a c
within_on v w =
    record {
      left = w.left ∙ v.left;
      top = w.top ∙ v.top;
      width = w.width ∙ v.width;
      height = w.height ∙ v.height;
      x = omega (arith, w.x, v.width);
      y = omega (arith, w.y, v.height);
    }

-- a move that keeps its range stays within any range that it was within
pub within_kept : (u v : View) (t : Moved) → Within u v → Kept v t → Within u t.view
within_kept u v t i k =
    within_on i (record { left = k.left; top = k.top; width = k.width; height = k.height; x = k.x; y = k.y })

-- a cell that has room has it with the cursor elsewhere
pub within_room : (g : Module) (u v : View) (c l : ℕ) → Room g u c l → Within u v → Room g v c l
within_room g u v c l r i = omega arith

-- ---- characters

-- a character is read whole while nothing is half read
character_read : (g : Module) (s : State) (b : ℕ) → s.half ≡ Nothing → leb 0x20 b ≡ true → read_of g s.half b ≡ Whole (Character b)
unfolding read_of read_first
character_read g s b n l = ap (λ (p : Half). read_of g p b) n ∙ rw l

module _ (g : Module) (f : Faces) (s : State) (b : ℕ) (n : s.half ≡ Nothing) (l : leb 0x20 b ≡ true) where
  -- what it means where a cell has room
  pub character_means : exceeds g s ≡ false
      → byte_means g f s b ≡ moves s (character_of g (in_force s.settings.switch f) s.settings.width s.settings.style b (view_of g s))
  unfolding byte_means take_of command_of asks carried_out
  character_means e =
      ap (take_of g f s) (character_read g s b n l)
      ∙ ap (λ (p : Half). command_of g f (with_half s p) (Character b)) (sym n)
      ∙ rw e

  -- and that it leaves the downloads as they are
  pub character_store : byte_store g f s b ≡ f.store
  unfolding byte_store take_store command_store leaves
  character_store =
      ap (take_store g f s) (character_read g s b n l)
      ∙ by_cond (λ (ds : List ℕ). ds ≡ f.store) (is_carried (command_of g f (with_half s Nothing) (Character b)).outcome)
      (λ _. refl) (λ _. refl)

module _ (g : Module) (font ds : List ℕ) where
  -- a move of a state that a sheet was put into is a move of the sheet
  settled_on : (s : State) (h : Sheet) (t : Moved) → settled (moves (on_sheet s h) t) ≡ on_sheet s (moved_on g h t)
  settled_on s h t =
      ap (λ (ps : List Span). with_spans (with_view (on_sheet s h) t.view) (mark_all ps t.strokes)) (at_spans (on_sheet s h) (cursor_in (on_sheet s h) t.view))
      ∙ sheet_twice s h.view t.view h.spans (mark_all h.spans t.strokes)

  module _ (u : Usable g) (s : State) (ok : state_ok g s ≡ true) (free : s.half ≡ Nothing) (room : exceeds g s ≡ false)
      (r : Refusal) (a : ℕ) where
    -- the faces in force, in the state's settings
    abbrev pub own : Faces
    own = in_force s.settings.switch (faces font ds)

    -- the sheet after a character, in the state's settings
    abbrev pub penned : Sheet → ℕ → Sheet
    penned h b = written_on g own s.settings.width s.settings.style h b

    -- the cursor stays in the range
    pub penned_within : (h : Sheet) (b : ℕ) → Within (view_of g s) h.view → Within (view_of g s) (penned h b).view
    penned_within h b i =
        within_kept (view_of g s) h.view _ i
        (character_kept g own s.settings.width s.settings.style b h.view
        (within_room g (view_of g s) h.view _ _ (view_room g u s ok room) i))

    -- one character
    pub character_next : (h : Sheet) (c : ℕ) (o : Outcome) (b : ℕ) → Within (view_of g s) h.view → leb 0x20 b ≡ true
        → next g font (feeding r (on_sheet s h) c a o h.mem ds) b
        ≡ feeding r (on_sheet s (penned h b)) (c + 1) a Carried (penned h b).mem ds
    unfolding next outcome_number carried_by answered_by
    character_next h c o b i l =
        ap₂ (counted g (feeding r (on_sheet s h) c a o h.mem ds)) meaning
        (character_store g (faces font ds) (on_sheet s h) b awaits l)
        ∙ ap (λ (q : State). feeding r q (c + 1) (a + 0) Carried (penned h b).mem ds) (settled_on s h (character_of g own s.settings.width s.settings.style b h.view))
        ∙ ap (λ (n : ℕ). feeding r (on_sheet s (penned h b)) (c + 1) n Carried (penned h b).mem ds) (omega arith)
      where
        part : g.visible ≤ g.columns
        part = omega (arith, u.visible_part)

        awaits : (on_sheet s h).half ≡ Nothing
        awaits = at_half_lem s (cursor_in s h.view) ∙ free

        meaning : byte_means g (faces font ds) (on_sheet s h) b
            ≡ moves (on_sheet s h) (character_of g own s.settings.width s.settings.style b h.view)
        meaning =
            character_means g (faces font ds) (on_sheet s h) b awaits l (sheet-exceeds g part s h i ∙ room)
            ∙ rw (sheet-view g part s h i, at_settings s (cursor_in s h.view))

    -- THE LAW: after a character, those that follow it are reached as a run, each counted
    pub characters_reached : (bs : List ℕ) (h : Sheet) (c d : ℕ) → Within (view_of g s) h.view
        → let t = characters_of g own s.settings.width s.settings.style h bs in
        d + length t.rest ≡ c + length bs
        → Reaches g font (feeding r (on_sheet s h) c a Carried h.mem ds) bs (feeding r (on_sheet s t.on) d a Carried t.on.mem ds) t.rest
    characters_reached [] h c d i e = rw n here where
      n : d ≡ c
      n = omega arith
    characters_reached (b ∷ bs) h c d i e = go (leb 0x20 b) refl e (characters_reached bs (penned h b) (c + 1) d (penned_within h b i)) where
      again : Written
      again = characters_of g own s.settings.width s.settings.style (penned h b) bs

      go : (z : Bool) → leb 0x20 b ≡ z
          → let t = cond z again (written h (b ∷ bs)) in
          d + length t.rest ≡ c + length (b ∷ bs)
          → (d + length again.rest ≡ (c + 1) + length bs
          → Reaches g font (feeding r (on_sheet s (penned h b)) (c + 1) a Carried (penned h b).mem ds) bs
          (feeding r (on_sheet s again.on) d a Carried again.on.mem ds) again.rest)
          → Reaches g font (feeding r (on_sheet s h) c a Carried h.mem ds) (b ∷ bs) (feeding r (on_sheet s t.on) d a Carried t.on.mem ds) t.rest
      go true l e more =
          reaches_next b (character_next h c Carried b i l) (more (omega arith))
      go false l e more = rw n here where
        n : d ≡ c
        n = omega arith

-- ---- an image's bytes

-- the column of the next byte, while the image is not whole
pub column-next : (z : Bool) (column width : ℕ) → column < width → eqb (cond z column (column + 1)) width ≡ false → cond z column (column + 1) < width
column-next true column width l e = l
column-next false column width l e = let n = eqb-false (column + 1) width e in omega arith

module _ (g : Module) (font ds : List ℕ) (s : State) (r : Refusal) (a width height : ℕ) where
  -- the image after a byte, in the state's range and settings
  abbrev pub imaged : Image → ℕ → Image
  imaged i b = stored_on g (view_of g s) s.settings.style height i b

  -- the image's next byte is awaited
  abbrev pub awaiting : Image → State
  awaiting i = with_half (with_spans s i.spans) (ImageData width height i.column i.row)

  -- one byte of an image
  pub image-byte-next : (i : Image) (c : ℕ) (o : Outcome) (b : ℕ) → i.column < width
      → next g font (feeding r (awaiting i) c a o i.mem ds) b
      ≡ feeding r (on_image s width height (imaged i b)) (c + done_at width (imaged i b)) a (outcome_at width (imaged i b)) (imaged i b).mem ds
  unfolding next byte_means byte_store read_of read_image take_of take_store view_of outcome_number carried_by answered_by
  image-byte-next i c o b l =
      go (ltb (i.row + 1) height) refl (ltb (i.column + 1) width) refl
      ∙ ap (λ (n : ℕ). feeding r (on_image s width height (imaged i b)) (c + done_at width (imaged i b)) n (outcome_at width (imaged i b)) (imaged i b).mem ds) (add-zero a)
    where
      go : (z : Bool) → ltb (i.row + 1) height ≡ z → (q : Bool) → ltb (i.column + 1) width ≡ q
          → next g font (feeding r (awaiting i) c a o i.mem ds) b
          ≡ feeding r (on_image s width height (imaged i b)) (c + done_at width (imaged i b)) (a + 0) (outcome_at width (imaged i b)) (imaged i b).mem ds
      go true e q f = rw (e, ne_eqb i.column width (omega arith))
      go false e true f = let k = ltb-true (i.column + 1) width f in rw (e, f, ne_eqb (i.column + 1) width (omega arith))
      go false e false f = let k = ltb-false (i.column + 1) width f in rw (e, f, eq-eqb (i.column + 1) width (omega arith))

  -- a byte of an image, and then those that follow it, whatever the byte before came to
  image_byte_then : (o : Outcome) (b : ℕ) (bs : List ℕ) (i : Image) (c : ℕ) → i.column < width
      → let again = image_bytes_of g (view_of g s) s.settings.style width height (imaged i b) bs in
      ((imaged i b).column < width
      → Reaches g font (feeding r (awaiting (imaged i b)) c a Unfinished (imaged i b).mem ds) bs
      (feeding r (on_image s width height again.on) (c + done_at width again.on) a (outcome_at width again.on) again.on.mem ds) again.rest)
      → let t = image_bytes_of g (view_of g s) s.settings.style width height i (b ∷ bs) in
      Reaches g font (feeding r (awaiting i) c a o i.mem ds) (b ∷ bs)
      (feeding r (on_image s width height t.on) (c + done_at width t.on) a (outcome_at width t.on) t.on.mem ds) t.rest
  image_byte_then o b bs i c l more = go (eqb (imaged i b).column width) refl where
    again : Stored
    again = image_bytes_of g (view_of g s) s.settings.style width height (imaged i b) bs

    go : (z : Bool) → eqb (imaged i b).column width ≡ z
        → let t = cond z (stored (imaged i b) bs) again in
        Reaches g font (feeding r (awaiting i) c a o i.mem ds) (b ∷ bs)
        (feeding r (on_image s width height t.on) (c + done_at width t.on) a (outcome_at width t.on) t.on.mem ds) t.rest
    go true e = reaches_next b (image-byte-next i c o b l) here
    go false e =
        reaches_next b (image-byte-next i c o b l ∙ rw (e, add-zero c)) (more (column-next (ltb (i.row + 1) height) i.column width l e))

  -- after a byte of an image, those that follow it
  image-bytes-after : (bs : List ℕ) (i : Image) (c : ℕ) → i.column < width
      → let t = image_bytes_of g (view_of g s) s.settings.style width height i bs in
      Reaches g font (feeding r (awaiting i) c a Unfinished i.mem ds) bs
      (feeding r (on_image s width height t.on) (c + done_at width t.on) a (outcome_at width t.on) t.on.mem ds) t.rest
  image-bytes-after [] i c l = rw (ne_eqb i.column width (omega arith), add-zero c) here
  image-bytes-after (b ∷ bs) i c l = image_byte_then Unfinished b bs i c l (image-bytes-after bs (imaged i b) c)

  -- THE LAW: an image's bytes are reached as a run, the whole image counted
  pub image_bytes_reached : (o : Outcome) (b : ℕ) (bs : List ℕ) (i : Image) (c : ℕ) → i.column < width
      → let t = image_bytes_of g (view_of g s) s.settings.style width height i (b ∷ bs) in
      Reaches g font (feeding r (awaiting i) c a o i.mem ds) (b ∷ bs)
      (feeding r (on_image s width height t.on) (c + done_at width t.on) a (outcome_at width t.on) t.on.mem ds) t.rest
  image_bytes_reached o b bs i c l = image_byte_then o b bs i c l (image-bytes-after bs (imaged i b) c)
