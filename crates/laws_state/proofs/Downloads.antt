-- What a byte does to the downloads: it leaves them as many bytes as they were, while a window is held it leaves them alone, and
-- accepted ones stay accepted. Assumes nothing.
use mathlib.Core.Path.{◌≡◌, refl, sym, ◌∙◌}
use mathlib.Core.Bool.{Bool, true, false, true≢false}
use mathlib.Core.List.{List, [], ◌∷◌}
use Prim.Native.Nat.{ℕ, ◌≤◌}
use native.Mathlib.Omega.{arith}
use lib.ListN.{length}
use lib.Dec.{leb}
use borrow.Author.Tests.{leb-true}
use Rattle.paper.specs.declared.Module.{Module}
use Rattle.paper.specs.declared.Batch.{Batch}
use Rattle.paper.specs.declared.Columns.{Columns}
use Rattle.paper.specs.declared.Half.TheVariants.{Nothing, GlyphWidth}
use Rattle.paper.specs.declared.Command.{Command}
use Rattle.paper.specs.declared.Command.TheVariants.{Character, Back, Tab, LineFeed, Home, Clear, Return, Select, Initialise, Mode, Set, Enlarge, CursorSet, Define, Cancel, Uncarried, Erase}
use Rattle.paper.specs.declared.Reading.{Reading}
use Rattle.paper.specs.declared.Reading.TheVariants.{More, Whole, ImageByte, ImageEnd, GlyphEnd, Cancels, UnknownCode}
use Rattle.paper.specs.declared.State.{State}
use Rattle.paper.specs.Numbers.{outcome_number, is_carried}
use Rattle.paper.specs.Downloads.{put_in, erased, all_erased, Faces}
use Rattle.paper.specs.Reading.{read_of}
use Rattle.paper.specs.Settings.{with_half}
use Rattle.paper.specs.Bounds.{batch_ok, half_ok, state_ok, store_ok}
use Rattle.paper.specs.Carry.{asks, asked_of, is_held, command_of, leaves, command_store, take_store, byte_store}
use Rattle.paper.specs.Calls.{Feeding, faces_now, next, run}
use Rattle.laws_bytes.proofs.Tests.{both_of}
use Rattle.laws_bytes.proofs.Readings.{reads_ok, glyph_end_facts}
use Rattle.laws_downloads.proofs.Stored.{store_length_lem}
use Rattle.laws_downloads.proofs.Kept.{put_length, erase-length, none_length, put_ok, erase_ok, none_ok}
use Rattle.laws_state.proofs.Tests.{by_cond}
use Rattle.laws_state.proofs.Parts.{parts}

module _ (g : Module) (f : Faces) (s : State) (P : List ℕ → Type 0) (same : P f.store) where
  -- a command that is the owner's: while a window is held it is not carried out
  owners : (c : Command) → (asked_of g f.store s c).not_carried ≡ false → (asked_of g f.store s c).owners_only ≡ true
      → (is_held s.hold ≡ false → P (leaves c f.store)) → P (command_store g f s c)
  unfolding command_store command_of outcome_number
  owners c n o done = go (is_held s.hold) refl where
    go : (t : Bool) → is_held s.hold ≡ t → P (command_store g f s c)
    go true e = rw (n, o, e) same
    go false e = by_cond P (is_carried (command_of g f s c).outcome) (λ _. done e) (λ _. same)

  -- any other leaves them as they are
  others : (c : Command) → leaves c f.store ≡ f.store → P (command_store g f s c)
  unfolding command_store
  others c e = by_cond P (is_carried (command_of g f s c).outcome) (λ _. rw e same) (λ _. same)

  module _ (none : is_held s.hold ≡ false → P (all_erased f.store))
      (one : is_held s.hold ≡ false → (code : ℕ) → P (erased f.store code)) where
    -- every command
    by_command_store : (c : Command) → P (command_store g f s c)
    unfolding asks leaves
    by_command_store (Character b) = others (Character b) refl
    by_command_store Back = others Back refl
    by_command_store Tab = others Tab refl
    by_command_store LineFeed = others LineFeed refl
    by_command_store Home = others Home refl
    by_command_store Clear = others Clear refl
    by_command_store Return = others Return refl
    by_command_store (Select k) = others (Select k) refl
    by_command_store Initialise = owners Initialise refl refl none
    by_command_store (Mode n) = others (Mode n) refl
    by_command_store (Set key n) = others (Set key n) refl
    by_command_store (Enlarge x y) = others (Enlarge x y) refl
    by_command_store (CursorSet x y) = others (CursorSet x y) refl
    by_command_store (Define k left top width height) = others (Define k left top width height) refl
    by_command_store (Cancel k) = others (Cancel k) refl
    by_command_store Uncarried = others Uncarried refl
    by_command_store (Erase k code) = owners (Erase k code) refl refl (λ e. one e code)

-- what holds of the downloads as they are and, outside a hold, with all erased, one erased or one stored, holds after a byte
module _ (g : Module) (f : Faces) (s : State) (P : List ℕ → Type 0) (same : P f.store)
    (none : is_held s.hold ≡ false → P (all_erased f.store))
    (one : is_held s.hold ≡ false → (code : ℕ) → P (erased f.store code)) where
  by_take : (r : Reading)
      → ((d : Batch) (n : Bool) (c : Columns) → r ≡ GlyphEnd d n c → is_held s.hold ≡ false → P (put_in f.store d.code c))
      → P (take_store g f s r)
  unfolding take_store
  by_take (More p) put = same
  by_take (Whole c) put = by_command_store g f (with_half s Nothing) P same none one c
  by_take (ImageByte column row b next) put = same
  by_take (ImageEnd column row b) put = same
  by_take (GlyphEnd d n c) put = by_cond P (is_held s.hold) (λ _. same) (put d n c refl)
  by_take Cancels put = same
  by_take UnknownCode put = same

  pub by_store : (b : ℕ)
      → ((d : Batch) (n : Bool) (c : Columns) → read_of g s.half b ≡ GlyphEnd d n c → is_held s.hold ≡ false
      → P (put_in f.store d.code c))
      → P (byte_store g f s b)
  unfolding byte_store
  by_store b = by_take (read_of g s.half b)

-- as many bytes as before
pub store_byte_length : (g : Module) (f : Faces) (s : State) (b : ℕ) → length (byte_store g f s b) ≡ length f.store
store_byte_length g f s b =
    let ds = f.store in
    by_store g f s (λ (es : List ℕ). length es ≡ length ds) refl (λ _. none_length ds) (λ _ code. erase-length ds code) b
    (λ d _ c _ _. put_length ds d.code c)

-- while a window is held they stay as they are
pub held_store : (g : Module) (f : Faces) (s : State) (b : ℕ) → is_held s.hold ≡ true → byte_store g f s b ≡ f.store
held_store g f s b h =
    by_store g f s (λ (es : List ℕ). es ≡ f.store) refl (λ e. absurd (true≢false (sym h ∙ e)))
    (λ e code. absurd (true≢false (sym h ∙ e))) b (λ d n c _ e. absurd (true≢false (sym h ∙ e)))

-- a code of a define is one that a download may have
pub define_code : (g : Module) (d : Batch) (n : Bool) → half_ok g (GlyphWidth d n) ≡ true → (0x20 ≤ d.code) × (batch_ok d ≡ true)
unfolding half_ok batch_ok
define_code g d n h =
    let b = (both_of g.downloads (batch_ok d) h).1 in
    let first = both_of (leb 0x20 d.first) _ b in
    let code = both_of (leb d.first d.code) _ first.1 in
    let low = leb-true 0x20 d.first first.0 in
    let on = leb-true d.first d.code code.0 in
    (omega arith, b)

-- accepted downloads stay accepted
pub byte-stored : (g : Module) (f : Faces) (s : State) (b : ℕ) → state_ok g s ≡ true → store_ok f.store ≡ true
    → store_ok (byte_store g f s b) ≡ true
byte-stored g f s b h ok =
    let ds = f.store in
    by_store g f s (λ (es : List ℕ). store_ok es ≡ true) ok (λ _. none_ok ds (store_length_lem ds ok)) (λ _ code. erase_ok ds code ok) b
    (λ d n c e _.
    let w = glyph_end_facts g d n c (rw e at (reads_ok g s.half b (parts g s h).half)) in
    put_ok ds d.code c ok (define_code g d n w.0).0 w.1)

-- a piece leaves the downloads as many bytes as they were
pub store_run_length : (g : Module) (font : List ℕ) (f : Feeding) (bs : List ℕ) → length (run g font f bs).store ≡ length f.store
unfolding next
store_run_length g font f [] = refl
store_run_length g font f (b ∷ bs) =
    store_run_length g font (next g font f b) bs ∙ store_byte_length g (faces_now font f) f.answer.state b
