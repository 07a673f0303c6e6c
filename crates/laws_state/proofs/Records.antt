-- Every byte leaves an accepted record accepted: its state, its downloads, and the note of its half-read define. Assumes nothing.
use mathlib.Core.Path.{◌≡◌, refl, ap, ◌∙◌}
use Rattle.std.specs.Prelude.{Option, None, Some}
use mathlib.Core.Bool.{Bool, true, false, true≢false}
use mathlib.Core.List.{List, [], ◌∷◌}
use Prim.Native.Nat.{ℕ}
use lib.Dec.{ltb, eqb}
use Rattle.paper.specs.declared.Module.{Module}
use Rattle.paper.specs.declared.Batch.{Batch}
use Rattle.paper.specs.declared.Columns.{Columns}
use Rattle.paper.specs.declared.Half.{Half}
use Rattle.paper.specs.declared.Half.TheVariants.{Nothing, GlyphWidth}
use Rattle.paper.specs.declared.Held.{Held}
use Rattle.paper.specs.declared.Command.{Command}
use Rattle.paper.specs.declared.Command.TheVariants.{Character, Back, Tab, LineFeed, Home, Clear, Return, Select, Initialise, Mode, Set, Enlarge, CursorSet, Define, Cancel, Uncarried, Erase}
use Rattle.paper.specs.declared.Reading.{Reading}
use Rattle.paper.specs.declared.Reading.TheVariants.{More, Whole, ImageByte, ImageEnd, GlyphEnd, Cancels, UnknownCode}
use Rattle.paper.specs.declared.State.{State}
use Rattle.paper.specs.Downloads.{Faces, faces}
use Rattle.paper.specs.Reading.{next_code, read_of}
use Rattle.paper.specs.Settings.{initial_state, with_half, cancelled, in_mode}
use Rattle.paper.specs.Bounds.{batch_ok, state_ok, store_ok, note_ok, half_note_ok, define_ok, accepted}
use Rattle.paper.specs.Carry.{Meaning, is_held, carried_out, command_of, noted, glyph_ends, take_of, byte_means, command_store, take_store, byte_store}
use Rattle.paper.specs.Calls.{Feeding, next, run, settled}
use Rattle.laws_bytes.specs.Readings.{reading_ok}
use Rattle.laws_bytes.proofs.Tests.{both_of}
use Rattle.laws_bytes.proofs.Readings.{reads_ok, glyph_end_facts}
use Rattle.laws_downloads.proofs.Notes.{note_kept}
use Rattle.laws_state.specs.Room.{Usable}
use Rattle.laws_state.proofs.Tests.{by_cond}
use Rattle.laws_state.proofs.Parts.{parts}
use Rattle.laws_state.proofs.Cases.{by_command}
use Rattle.laws_state.proofs.Sheets.{at_half_lem}
use Rattle.laws_state.proofs.Accepted.{state_kept}
use Rattle.laws_state.proofs.Notes.{note_read, reads_note}
use Rattle.laws_state.proofs.Downloads.{define_code, byte-stored}

-- ---- a record that is accepted: its state, its downloads, and the note of its half-read define

module _ (g : Module) (s : State) (ds : List ℕ) where
  pub accepted_parts : accepted g s ds ≡ true → (state_ok g s ≡ true) × (store_ok ds ≡ true) × (define_ok ds s.hold s.half ≡ true)
  unfolding accepted
  accepted_parts h =
      let f = both_of (state_ok g s) _ h in
      let e = both_of (store_ok ds) (define_ok ds s.hold s.half) f.1 in
      (f.0, e.0, e.1)

  pub accepted_whole : state_ok g s ≡ true → store_ok ds ≡ true → define_ok ds s.hold s.half ≡ true → accepted g s ds ≡ true
  unfolding accepted
  accepted_whole a b c = rw (a, b, c)

-- the note counts outside a hold only
define-outside : (ds : List ℕ) (h : Option Held) (p : Half) → (is_held h ≡ false → half_note_ok ds p ≡ true) → define_ok ds h p ≡ true
unfolding define_ok is_held
define-outside ds None p f = f refl
define-outside ds (Some x) p f = refl

pub outside-define : (ds : List ℕ) (h : Option Held) (p : Half) → define_ok ds h p ≡ true → is_held h ≡ false → half_note_ok ds p ≡ true
unfolding define_ok is_held
outside-define ds None p e n = e
outside-define ds (Some x) p e n = absurd (true≢false n)

-- nothing half read has none
pub define-nothing : (ds : List ℕ) (h : Option Held) → define_ok ds h Nothing ≡ true
unfolding half_note_ok
define-nothing ds h = define-outside ds h Nothing (λ _. refl)

-- ---- what is half read afterwards

-- a command that is carried out while nothing is half read leaves it so
carried_nothing : (g : Module) (f : Faces) (s : State) → s.half ≡ Nothing → (c : Command) → (carried_out g f s c).state.half ≡ Nothing
unfolding carried_out in_mode initial_state cancelled
carried_nothing g f s n (Character b) = at_half_lem s _ ∙ n
carried_nothing g f s n Back = at_half_lem s _ ∙ n
carried_nothing g f s n Tab = at_half_lem s _ ∙ n
carried_nothing g f s n LineFeed = at_half_lem s _ ∙ n
carried_nothing g f s n Home = at_half_lem s _ ∙ n
carried_nothing g f s n Clear = at_half_lem s _ ∙ n
carried_nothing g f s n Return = at_half_lem s _ ∙ n
carried_nothing g f s n (Select k) = n
carried_nothing g f s n Initialise = refl
carried_nothing g f s n (Mode m) = at_half_lem s _ ∙ n
carried_nothing g f s n (Set key m) = n
carried_nothing g f s n (Enlarge x y) = n
carried_nothing g f s n (CursorSet x y) = at_half_lem s _ ∙ n
carried_nothing g f s n (Define k left top width height) = n
carried_nothing g f s n (Cancel k) = by_cond (λ (q : State). q.half ≡ Nothing) (eqb s.selected k) (λ _. n) (λ _. n)
carried_nothing g f s n Uncarried = n
carried_nothing g f s n (Erase k code) = n

-- any command
pub command_nothing : (g : Module) (f : Faces) (s : State) (c : Command) → (command_of g f (with_half s Nothing) c).state.half ≡ Nothing
command_nothing g f s c =
    by_command g f (λ (t : Meaning). t.state.half ≡ Nothing) (with_half s Nothing) c (λ o. refl)
    (λ _. carried_nothing g f (with_half s Nothing) refl c)

-- the half-read define has its note right after any reading that has
module _ (g : Module) (f : Faces) (s : State) (ok : store_ok f.store ≡ true) where
  -- with a download that has come whole, stored or dropped
  glyph-define : (d : Batch) (n : Bool) (c : Columns) → batch_ok d ≡ true → (is_held s.hold ≡ false → note_ok f.store d n ≡ true)
      → define_ok (take_store g f s (GlyphEnd d n c)) s.hold (GlyphWidth (next_code d) (noted f.store s.hold d n)) ≡ true
  unfolding take_store half_note_ok
  glyph-define d n c b h = define-outside _ s.hold _ (λ e. rw e (note_kept f.store d n c ok b (h e)))

  take-define : (r : Reading) → reading_ok g r ≡ true → (is_held s.hold ≡ false → note_read f.store r ≡ true)
      → define_ok (take_store g f s r) (take_of g f s r).state.hold (take_of g f s r).state.half ≡ true
  unfolding take_store take_of glyph_ends
  take-define (More p) h n = define-outside f.store s.hold p n
  take-define (Whole c) h n =
      let t = command_of g f (with_half s Nothing) c in
      ap (define_ok (command_store g f (with_half s Nothing) c) t.state.hold) (command_nothing g f s c)
      ∙ define-nothing (command_store g f (with_half s Nothing) c) t.state.hold
  take-define (ImageByte column row b p) h n = define-outside f.store s.hold p n
  take-define (ImageEnd column row b) h n = define-nothing f.store s.hold
  take-define (GlyphEnd d m c) h n =
      by_cond (λ (t : Meaning). define_ok (take_store g f s (GlyphEnd d m c)) t.state.hold t.state.half ≡ true)
      (ltb d.code d.last)
      (λ _. glyph-define d m c (define_code g d m (glyph_end_facts g d m c h).0).1 n) (λ _. define-nothing _ s.hold)
  take-define Cancels h n = define-nothing f.store s.hold
  take-define UnknownCode h n = define-nothing f.store s.hold

-- ---- the whole record

module _ (g : Module) (u : Usable g) (font : List ℕ) where
  -- THE LAW: a byte leaves an accepted state, with its downloads, accepted
  pub accepted_kept : (s : State) (ds : List ℕ) (b : ℕ) → accepted g s ds ≡ true
      → accepted g (settled (byte_means g (faces font ds) s b)) (byte_store g (faces font ds) s b) ≡ true
  unfolding byte_means byte_store
  accepted_kept s ds b h =
      let p = accepted_parts g s ds h in
      let f = faces font ds in
      accepted_whole g _ _ (state_kept g u f s b p.0) (byte-stored g f s b p.0 p.1)
      (take-define g f s p.1 (read_of g s.half b) (reads_ok g s.half b (parts g s p.0).half)
      (λ e. reads_note g ds s.half b (outside-define ds s.hold s.half p.2 e)))

  -- and so does a piece
  pub run-accepted : (f : Feeding) (bs : List ℕ) → accepted g f.answer.state f.store ≡ true
      → accepted g (run g font f bs).answer.state (run g font f bs).store ≡ true
  unfolding next
  run-accepted f [] h = h
  run-accepted f (b ∷ bs) h = run-accepted (next g font f b) bs (accepted_kept f.answer.state f.store b h)
