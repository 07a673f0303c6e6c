-- No rule looks at the spans: from a state with other spans every byte means the same, and a run writes the same. So a refresh
-- between two pieces shows in nothing but the spans. Assumes nothing.
use mathlib.Core.Path.{◌≡◌, refl, sym, ap, ap₂, ◌∙◌}
use mathlib.Core.Bool.{Bool, true, false, cond, ◌&&◌}
use mathlib.Core.List.{List, [], ◌∷◌}
use Prim.Native.Nat.{ℕ}
use lib.Dec.{ltb, eqb}
use Rattle.paper.specs.declared.Module.{Module}
use Rattle.paper.specs.declared.Cursor.{Cursor}
use Rattle.paper.specs.declared.Span.{Span}
use Rattle.paper.specs.declared.Half.TheVariants.{Nothing}
use Rattle.paper.specs.declared.Command.{Command}
use Rattle.paper.specs.declared.Command.TheVariants.{Character, Back, Tab, LineFeed, Home, Clear, Return, Select, Initialise, Mode, Set, Enlarge, CursorSet, Define, Cancel, Uncarried, Erase}
use Rattle.paper.specs.declared.Reading.{Reading}
use Rattle.paper.specs.declared.Reading.TheVariants.{More, Whole, ImageByte, ImageEnd, GlyphEnd, Cancels, UnknownCode}
use Rattle.paper.specs.declared.Outcome.{Outcome}
use Rattle.paper.specs.declared.Outcome.TheVariants.{Carried, OutOfDomain, NotCarried, WindowHeld, TooLarge, NotDefined, NotStored}
use Rattle.paper.specs.declared.State.{State}
use Rattle.paper.specs.Numbers.{is_carried}
use Rattle.paper.specs.Downloads.{Faces, in_force}
use Rattle.paper.specs.Strokes.{apply_all, mark_all}
use Rattle.paper.specs.Reading.{read_of}
use Rattle.paper.specs.Settings.{with_half, with_spans, cancelled, cursor_of, at_cursor, in_mode, inside_window, view_of, cursor_in}
use Rattle.paper.specs.Moves.{Moved, ht_of, character_of, line_feed_of, clear_of}
use Rattle.paper.specs.Carry.{Meaning, means, moves, becomes, is_held, asked_of, width_now, height_now, carried_out, answers, command_of, image_strokes, glyph_ends, take_of, byte_means, leaves, command_store, take_store, byte_store}
use Rattle.paper.specs.Calls.{Feeding, feeding, counted, faces_now, next, run}
use Rattle.laws_memory.proofs.Strokes.{apply_append}
use Rattle.laws_memory.proofs.Spans.{marks_append}
use Rattle.demands.specs.Events.{StateRecord, state_record, meant, after, onwards, strokes_of}

-- ---- one byte

-- a meaning with other spans; shut, so that a test under it is not written out for each field of a state
unfoldable pub respan : List Span → Meaning → Meaning
respan ps t = means (with_spans t.state ps) t.outcome t.strokes

-- a test picks the same on both sides
same_cond : {A : Type 0} (f : A → A) (t : Bool) {a b c d : A} → c ≡ f a → d ≡ f b → cond t c d ≡ f (cond t a b)
same_cond f true p q = p
same_cond f false p q = q

module _ (ps : List Span) (s : State) where
  -- the current window's cursor elsewhere
  at_same : (k : Cursor) → at_cursor (with_spans s ps) k ≡ with_spans (at_cursor s k) ps
  unfolding at_cursor
  at_same k = same_cond (λ q. with_spans q ps) (eqb s.selected 0) refl refl

  -- a window cancelled
  cancelled-same : (k : ℕ) → cancelled (with_spans s ps) k ≡ with_spans (cancelled s k) ps
  unfolding cancelled
  cancelled-same k = same_cond (λ q. with_spans q ps) (eqb s.selected k) refl refl

  -- a command that is not carried out
  answered_same : (o : Outcome) → answers (with_spans s ps) o ≡ respan ps (answers s o)
  unfolding respan
  answered_same o = refl

  -- nothing is written and the cursor goes elsewhere
  placed_same : (k : Cursor) → becomes (at_cursor (with_spans s ps) k) ≡ respan ps (becomes (at_cursor s k))
  unfolding respan
  placed_same k = ap (λ (q : State). becomes q) (at_same k)

  module _ (g : Module) where
    -- what a command is asked
    asked-same : (ds : List ℕ) (c : Command) → asked_of g ds (with_spans s ps) c ≡ asked_of g ds s c
    unfolding inside_window view_of
    asked-same ds c = refl

    -- a move of the range
    moved_same : (t : Moved) → moves (with_spans s ps) t ≡ respan ps (moves s t)
    unfolding cursor_in respan
    moved_same t = ap (λ (q : State). means q Carried t.strokes) (at_same _)

    -- every command that is carried out
    carried_same : (font : Faces) (c : Command) → carried_out g font (with_spans s ps) c ≡ respan ps (carried_out g font s c)
    unfolding carried_out view_of cursor_in cursor_of in_mode respan
    carried_same font (Character b) =
        moved_same (character_of g (in_force s.settings.switch font) s.settings.width s.settings.style b (view_of g s))
    carried_same font Back = placed_same _
    carried_same font Tab = moved_same (ht_of g (view_of g s) (width_now g s) (height_now s))
    carried_same font LineFeed = moved_same (line_feed_of g (view_of g s) (height_now s))
    carried_same font Home = placed_same _
    carried_same font Clear = moved_same (clear_of (view_of g s))
    carried_same font Return = placed_same _
    carried_same font (Select k) = refl
    carried_same font Initialise = refl
    carried_same font (Mode n) = placed_same _
    carried_same font (Set key n) = refl
    carried_same font (Enlarge x y) = refl
    carried_same font (CursorSet x y) = placed_same _
    carried_same font (Define a left top width height) = refl
    carried_same font (Cancel a) = ap (λ (q : State). becomes q) (cancelled-same a)
    carried_same font Uncarried = refl
    carried_same font (Erase a code) = refl

    -- every command
    command_same : (font : Faces) (c : Command) → command_of g font (with_spans s ps) c ≡ respan ps (command_of g font s c)
    unfolding command_of
    command_same font c =
        let a = asked_of g font.store s c in
        rw (asked-same font.store c, carried_same font c)
        (same_cond (respan ps) a.not_carried (answered_same NotCarried)
        (same_cond (respan ps) (a.owners_only && is_held s.hold) (answered_same WindowHeld)
        (same_cond (respan ps) a.out_of_domain (answered_same OutOfDomain)
        (same_cond (respan ps) a.not_defined (answered_same NotDefined)
        (same_cond (respan ps) a.too_large (answered_same TooLarge)
        (same_cond (respan ps) a.not_stored (answered_same NotStored) refl))))))

    -- and the downloads that it leaves
    command_store-same : (font : Faces) (c : Command) → command_store g font (with_spans s ps) c ≡ command_store g font s c
    unfolding command_store respan
    command_store-same font c =
        ap (λ (t : Meaning). cond (is_carried t.outcome) (leaves c font.store) font.store) (command_same font c)

module _ (g : Module) (font : Faces) (ps : List Span) (s : State) where
  -- whatever is read
  reading_same : (r : Reading) → take_of g font (with_spans s ps) r ≡ respan ps (take_of g font s r)
  unfolding take_of glyph_ends view_of image_strokes respan
  reading_same (More p) = refl
  reading_same (Whole c) = command_same ps (with_half s Nothing) g font c
  reading_same (ImageByte column row b next) = refl
  reading_same (ImageEnd column row b) = refl
  reading_same (GlyphEnd d n c) = same_cond (respan ps) (ltb d.code d.last) refl refl
  reading_same Cancels = refl
  reading_same UnknownCode = refl

  -- every byte: the same outcome and strokes, and the same state but for the spans
  pub byte-same : (b : ℕ) → byte_means g font (with_spans s ps) b ≡ respan ps (byte_means g font s b)
  unfolding byte_means
  byte-same b = reading_same (read_of g s.half b)

  -- and the same downloads
  reading_store_same : (r : Reading) → take_store g font (with_spans s ps) r ≡ take_store g font s r
  unfolding take_store
  reading_store_same (More p) = refl
  reading_store_same (Whole c) = command_store-same ps (with_half s Nothing) g font c
  reading_store_same (ImageByte column row b next) = refl
  reading_store_same (ImageEnd column row b) = refl
  reading_store_same (GlyphEnd d n c) = refl
  reading_store_same Cancels = refl
  reading_store_same UnknownCode = refl

  pub byte_store-same : (b : ℕ) → byte_store g font (with_spans s ps) b ≡ byte_store g font s b
  unfolding byte_store
  byte_store-same b = reading_store_same (read_of g s.half b)

-- ---- a piece

-- a feed with other spans
abbrev pub refed : List Span → Feeding → Feeding
refed ps f =
    feeding f.answer.refusal (with_spans f.answer.state ps) f.answer.carried f.answer.answered
    f.answer.outcome f.mem f.store

-- the state record that a feed has come to
abbrev pub kept : Feeding → StateRecord
kept f = state_record f.answer.state f.store

module _ (g : Module) (font : List ℕ) where
  -- a byte more: the spans grow by what it writes, and no more can be told
  next-same : (ps : List Span) (f : Feeding) (b : ℕ)
      → next g font (refed ps f) b ≡ refed (mark_all ps (meant g font (kept f) b).strokes) (next g font f b)
  unfolding next respan
  next-same ps f b =
      ap₂ (counted g (refed ps f)) (byte-same g (faces_now font f) ps f.answer.state b)
      (byte_store-same g (faces_now font f) ps f.answer.state b)

  -- a run from other spans is the run, and the spans have grown by what it writes
  pub run-same : (ps : List Span) (f : Feeding) (bs : List ℕ)
      → run g font (refed ps f) bs ≡ refed (mark_all ps (strokes_of g font (kept f) bs)) (run g font f bs)
  unfolding next
  run-same ps f [] = refl
  run-same ps f (b ∷ bs) =
      let t = meant g font (kept f) b in
      let rest = strokes_of g font (after g font (kept f) b) bs in
      ap (λ (q : Feeding). run g font q bs) (next-same ps f b)
      ∙ run-same (mark_all ps t.strokes) (next g font f b) bs
      ∙ ap (λ (qs : List Span). refed qs (run g font (next g font f b) bs)) (sym (marks_append ps t.strokes rest))

  -- where a run ends, and what it has written
  pub run_kept : (f : Feeding) (bs : List ℕ) → kept (run g font f bs) ≡ onwards g font (kept f) bs
  unfolding next
  run_kept f [] = refl
  run_kept f (b ∷ bs) = run_kept (next g font f b) bs

  pub run_mem : (f : Feeding) (bs : List ℕ) → (run g font f bs).mem ≡ apply_all g f.mem (strokes_of g font (kept f) bs)
  unfolding next
  run_mem f [] = refl
  run_mem f (b ∷ bs) =
      let t = meant g font (kept f) b in
      run_mem (next g font f b) bs ∙ sym (apply_append g f.mem t.strokes (strokes_of g font (after g font (kept f) b) bs))

  pub run_spans : (f : Feeding) (bs : List ℕ)
      → (run g font f bs).answer.state.spans ≡ mark_all f.answer.state.spans (strokes_of g font (kept f) bs)
  run_spans f bs = ap (λ (q : Feeding). q.answer.state.spans) (run-same f.answer.state.spans f bs)
