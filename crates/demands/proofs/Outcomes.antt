-- Demand 2, the outcome of a byte: each is given exactly when its row says. Assumes nothing.
use mathlib.Core.Path.{◌≡◌, refl, sym, ap, ap₂, subst, ◌∙◌}
use mathlib.Core.Logic.Iff
use mathlib.Core.Logic.{◌↔◌, ◌≢◌, inl, inr, ⊎_elim}
use mathlib.Core.Bool.{Bool, true, false, cond, ◌&&◌, true≢false, false≢true}
use mathlib.Core.List.{List, []}
use Prim.Native.Nat.{ℕ, ◌≤◌}
use native.Mathlib.Omega.{arith}
use lib.Dec.{ltb, eqb}
use borrow.Author.Tests.{eqb-false, ne_eqb, not-false}
use Rattle.paper.specs.declared.Module.{Module}
use Rattle.paper.specs.declared.Batch.{Batch}
use Rattle.paper.specs.declared.Columns.{Columns}
use Rattle.paper.specs.declared.Half.TheVariants.{Nothing, GlyphWidth}
use Rattle.paper.specs.declared.Command.{Command}
use Rattle.paper.specs.declared.Command.TheVariants.{Character, Back, Tab, LineFeed, Home, Clear, Return, Select, Initialise, Mode, Set, Enlarge, CursorSet, Define, Cancel, Uncarried, Erase}
use Rattle.paper.specs.declared.Reading.{Reading}
use Rattle.paper.specs.declared.Reading.TheVariants.{More, Whole, ImageByte, ImageEnd, GlyphEnd, Cancels, UnknownCode}
use Rattle.paper.specs.declared.Outcome.{Outcome}
use Rattle.paper.specs.declared.Outcome.TheVariants.{Unfinished, Carried, OutOfDomain, Cancelled, Unknown, NotCarried, WindowHeld, TooLarge, NotDefined, Dropped, NotStored}
use Rattle.paper.specs.declared.State.{State}
use Rattle.paper.specs.Numbers.{outcome_number}
use Rattle.paper.specs.Downloads.{put_in, Faces}
use Rattle.paper.specs.Reading.{batch, next_code, no_columns, read_of}
use Rattle.paper.specs.Settings.{with_half}
use Rattle.paper.specs.Carry.{Meaning, means, Asked, asked_of, is_held, carried_out, answers, command_of, noted, glyph_ends, take_of, byte_means, command_store, take_store, byte_store}
use Rattle.laws_state.proofs.Cases.{by_command}
use Rattle.demands.specs.Demands.{finishes, ends_image, IsCommand, EndsDefine, some_dropped, After14, After15, After11, After17, After16, ByteAnswers}
use Rattle.demands.proofs.Rows.{never, here, later, otherwise}

-- the number of what a byte comes to
abbrev number : Meaning → ℕ
number t = outcome_number t.outcome

-- every outcome has one of document 01's
number_range : (o : Outcome) → (9 ≤ outcome_number o) × (outcome_number o ≤ 19)
unfolding outcome_number
number_range Unfinished = omega arith
number_range Carried = omega arith
number_range OutOfDomain = omega arith
number_range Cancelled = omega arith
number_range Unknown = omega arith
number_range NotCarried = omega arith
number_range WindowHeld = omega arith
number_range TooLarge = omega arith
number_range NotDefined = omega arith
number_range Dropped = omega arith
number_range NotStored = omega arith

-- ---- a command read whole

-- what is carried out counts as carried out
carried_10 : (g : Module) (font : Faces) (s : State) (c : Command) → number (carried_out g font s c) ≡ 10
unfolding carried_out outcome_number
carried_10 g font s (Character b) = refl
carried_10 g font s Back = refl
carried_10 g font s Tab = refl
carried_10 g font s LineFeed = refl
carried_10 g font s Home = refl
carried_10 g font s Clear = refl
carried_10 g font s Return = refl
carried_10 g font s (Select k) = refl
carried_10 g font s Initialise = refl
carried_10 g font s (Mode n) = refl
carried_10 g font s (Set key n) = refl
carried_10 g font s (Enlarge x y) = refl
carried_10 g font s (CursorSet x y) = refl
carried_10 g font s (Define a left top width height) = refl
carried_10 g font s (Cancel a) = refl
carried_10 g font s Uncarried = refl
carried_10 g font s (Erase a code) = refl

-- what a command read whole is answered
record CommandAnswers (g : Module) (ds : List ℕ) (s : State) (c : Command) (t : Meaning) : Type 0 where
  number_10 : (number t ≡ 10) ↔ After16 s (asked_of g ds s c) ((asked_of g ds s c).not_stored ≡ false)
  number_11 : (number t ≡ 11) ↔ After15 s (asked_of g ds s c) ((asked_of g ds s c).out_of_domain ≡ true)
  number_14 : (number t ≡ 14) ↔ ((asked_of g ds s c).not_carried ≡ true)
  number_15 : (number t ≡ 15) ↔ After14 (asked_of g ds s c) (((asked_of g ds s c).owners_only && is_held s.hold) ≡ true)
  number_16 : (number t ≡ 16) ↔ After17 s (asked_of g ds s c) ((asked_of g ds s c).too_large ≡ true)
  number_17 : (number t ≡ 17) ↔ After11 s (asked_of g ds s c) ((asked_of g ds s c).not_defined ≡ true)
  number_19 : (number t ≡ 19) ↔ After16 s (asked_of g ds s c) ((asked_of g ds s c).not_stored ≡ true)
  no_9 : number t ≢ 9
  no_12 : number t ≢ 12
  no_13 : number t ≢ 13
  no_18 : number t ≢ 18
  unchanged : 11 ≤ number t → (t.state ≡ s) × (t.strokes ≡ [])

module _ (g : Module) (font : Faces) (s : State) (c : Command) where
  -- what is asked
  abbrev a : Asked
  a = asked_of g font.store s c

  -- the answers from a row on
  abbrev from_19 : Meaning
  from_19 = cond a.not_stored (answers s NotStored) (carried_out g font s c)

  abbrev from_16 : Meaning
  from_16 = cond a.too_large (answers s TooLarge) from_19

  abbrev from_17 : Meaning
  from_17 = cond a.not_defined (answers s NotDefined) from_16

  abbrev from_11 : Meaning
  from_11 = cond a.out_of_domain (answers s OutOfDomain) from_17

  abbrev from_15 : Meaning
  from_15 = cond (a.owners_only && is_held s.hold) (answers s WindowHeld) from_11

  -- a number that none of them gives
  module _ (i : ℕ) (not_10 : eqb 10 i ≡ false) where
    never_10 : number (carried_out g font s c) ≢ i
    never_10 e = eqb-false 10 i not_10 (sym (carried_10 g font s c) ∙ e)

    never_19 : eqb 19 i ≡ false → number from_19 ≢ i
    unfolding outcome_number
    never_19 not_19 = never number i a.not_stored (answers s NotStored) (carried_out g font s c) not_19 never_10

    never_16 : eqb 19 i ≡ false → eqb 16 i ≡ false → number from_16 ≢ i
    unfolding outcome_number
    never_16 not_19 not_16 = never number i a.too_large (answers s TooLarge) from_19 not_16 (never_19 not_19)

    never_17 : eqb 19 i ≡ false → eqb 16 i ≡ false → eqb 17 i ≡ false → number from_17 ≢ i
    unfolding outcome_number
    never_17 not_19 not_16 not_17 =
        never number i a.not_defined (answers s NotDefined) from_16 not_17 (never_16 not_19 not_16)

    never_11 : eqb 19 i ≡ false → eqb 16 i ≡ false → eqb 17 i ≡ false → eqb 11 i ≡ false → number from_11 ≢ i
    unfolding outcome_number
    never_11 not_19 not_16 not_17 not_11 =
        never number i a.out_of_domain (answers s OutOfDomain) from_17 not_11 (never_17 not_19 not_16 not_17)

    never_15 : eqb 19 i ≡ false → eqb 16 i ≡ false → eqb 17 i ≡ false → eqb 11 i ≡ false → eqb 15 i ≡ false → number from_15 ≢ i
    unfolding outcome_number
    never_15 not_19 not_16 not_17 not_11 not_15 =
        never number i (a.owners_only && is_held s.hold) (answers s WindowHeld) from_11 not_15
        (never_11 not_19 not_16 not_17 not_11)

    never_14 : eqb 19 i ≡ false → eqb 16 i ≡ false → eqb 17 i ≡ false → eqb 11 i ≡ false → eqb 15 i ≡ false → eqb 14 i ≡ false
        → number (command_of g font s c) ≢ i
    unfolding command_of outcome_number
    never_14 not_19 not_16 not_17 not_11 not_15 not_14 =
        never number i a.not_carried (answers s NotCarried) from_15 not_14 (never_15 not_19 not_16 not_17 not_11 not_15)

  -- a number that no row up to 14, to 15, to 11, to 17 or to 16 gives is given when what comes after them gives it
  past_14 : (i : ℕ) {P : Type 0} → eqb 14 i ≡ false → ((number from_15 ≡ i) ↔ P)
      → (number (command_of g font s c) ≡ i) ↔ After14 a P
  unfolding command_of outcome_number
  past_14 i not_14 h = later number i a.not_carried (answers s NotCarried) from_15 not_14 Iff.rfl h

  past_15 : (i : ℕ) {P : Type 0} → eqb 14 i ≡ false → eqb 15 i ≡ false → ((number from_11 ≡ i) ↔ P)
      → (number (command_of g font s c) ≡ i) ↔ After15 s a P
  unfolding outcome_number
  past_15 i not_14 not_15 h =
      past_14 i not_14
      (later number i (a.owners_only && is_held s.hold) (answers s WindowHeld) from_11 not_15 Iff.rfl h)

  past_11 : (i : ℕ) {P : Type 0} → eqb 14 i ≡ false → eqb 15 i ≡ false → eqb 11 i ≡ false → ((number from_17 ≡ i) ↔ P)
      → (number (command_of g font s c) ≡ i) ↔ After11 s a P
  unfolding outcome_number
  past_11 i not_14 not_15 not_11 h =
      past_15 i not_14 not_15 (later number i a.out_of_domain (answers s OutOfDomain) from_17 not_11 Iff.rfl h)

  past_17 : (i : ℕ) {P : Type 0} → eqb 14 i ≡ false → eqb 15 i ≡ false → eqb 11 i ≡ false → eqb 17 i ≡ false
      → ((number from_16 ≡ i) ↔ P) → (number (command_of g font s c) ≡ i) ↔ After17 s a P
  unfolding outcome_number
  past_17 i not_14 not_15 not_11 not_17 h =
      past_11 i not_14 not_15 not_11 (later number i a.not_defined (answers s NotDefined) from_16 not_17 Iff.rfl h)

  past_16 : (i : ℕ) {P : Type 0} → eqb 14 i ≡ false → eqb 15 i ≡ false → eqb 11 i ≡ false → eqb 17 i ≡ false → eqb 16 i ≡ false
      → ((number from_19 ≡ i) ↔ P) → (number (command_of g font s c) ≡ i) ↔ After16 s a P
  unfolding outcome_number
  past_16 i not_14 not_15 not_11 not_17 not_16 h =
      past_17 i not_14 not_15 not_11 not_17 (later number i a.too_large (answers s TooLarge) from_19 not_16 Iff.rfl h)

  command_answers : CommandAnswers g font.store s c (command_of g font s c)
  unfolding command_of outcome_number
  command_answers =
      let done = carried_out g font s c in
      record {
        number_10 =
            past_16 10 refl refl refl refl refl
            (otherwise number 10 a.not_stored (answers s NotStored) done refl (carried_10 g font s c) Iff.rfl);
        number_11 =
            past_15 11 refl refl
            (here number 11 a.out_of_domain (answers s OutOfDomain) from_17 refl (never_17 11 refl refl refl refl) Iff.rfl);
        number_14 =
            here number 14 a.not_carried (answers s NotCarried) from_15 refl (never_15 14 refl refl refl refl refl refl) Iff.rfl;
        number_15 =
            past_14 15 refl
            (here number 15 (a.owners_only && is_held s.hold) (answers s WindowHeld) from_11 refl
            (never_11 15 refl refl refl refl refl) Iff.rfl);
        number_16 =
            past_17 16 refl refl refl refl
            (here number 16 a.too_large (answers s TooLarge) from_19 refl (never_19 16 refl refl) Iff.rfl);
        number_17 =
            past_11 17 refl refl refl
            (here number 17 a.not_defined (answers s NotDefined) from_16 refl (never_16 17 refl refl refl) Iff.rfl);
        number_19 =
            past_16 19 refl refl refl refl refl
            (here number 19 a.not_stored (answers s NotStored) done refl (never_10 19 refl) Iff.rfl);
        no_9 = never_14 9 refl refl refl refl refl refl refl;
        no_12 = never_14 12 refl refl refl refl refl refl refl;
        no_13 = never_14 13 refl refl refl refl refl refl refl;
        no_18 = never_14 18 refl refl refl refl refl refl refl;
        unchanged =
            by_command g font (λ (t : Meaning). 11 ≤ number t → (t.state ≡ s) × (t.strokes ≡ [])) s c (λ o l. (refl, refl))
            (λ a l. absurd (omega (arith, carried_10 g font s c)));
      }

  -- one that is not carried out leaves the downloads as they are
  command_kept : number (command_of g font s c) ≢ 10 → command_store g font s c ≡ font.store
  unfolding command_store
  command_kept n = rw (ne_eqb (number (command_of g font s c)) 10 n)

-- ---- a byte

-- which of the readings it is
abbrev kind : Reading → ℕ
kind (More p) = 0
kind (Whole c) = 1
kind (ImageByte column row b next) = 2
kind (ImageEnd column row b) = 3
kind (GlyphEnd d n c) = 4
kind Cancels = 5
kind UnknownCode = 6

-- the command that was read whole
abbrev command_in : Reading → Command
command_in (More p) = Uncarried
command_in (Whole c) = c
command_in (ImageByte column row b next) = Uncarried
command_in (ImageEnd column row b) = Uncarried
command_in (GlyphEnd d n c) = Uncarried
command_in Cancels = Uncarried
command_in UnknownCode = Uncarried

-- the define whose download has come whole, its note of a drop, and that download's columns
abbrev batch_in : Reading → Batch
batch_in (More p) = batch 0 0 0
batch_in (Whole c) = batch 0 0 0
batch_in (ImageByte column row b next) = batch 0 0 0
batch_in (ImageEnd column row b) = batch 0 0 0
batch_in (GlyphEnd d n c) = d
batch_in Cancels = batch 0 0 0
batch_in UnknownCode = batch 0 0 0

abbrev note_in : Reading → Bool
note_in (More p) = false
note_in (Whole c) = false
note_in (ImageByte column row b next) = false
note_in (ImageEnd column row b) = false
note_in (GlyphEnd d n c) = n
note_in Cancels = false
note_in UnknownCode = false

abbrev columns_in : Reading → Columns
columns_in (More p) = no_columns 0
columns_in (Whole c) = no_columns 0
columns_in (ImageByte column row b next) = no_columns 0
columns_in (ImageEnd column row b) = no_columns 0
columns_in (GlyphEnd d n c) = c
columns_in Cancels = no_columns 0
columns_in UnknownCode = no_columns 0

-- neither is the case
neither : {A B : Type 0} → (A → ⊥) → (B → ⊥) → A ↔ B
neither a b = (λ x. absurd (a x), λ y. absurd (b y))

-- two readings of different kinds
unlike : (r q : Reading) → kind r ≢ kind q → r ≢ q
unlike r q n e = n (ap kind e)

-- one that is no command has no command's number
module _ (r : Reading) (other : kind r ≢ 1) where
  no_command : {P : Command → Type 0} → ((c : Command) × (r ≡ Whole c) × P c) → ⊥
  no_command x = other (ap kind x.1)

  not_command : {A : Type 0} {P : Command → Type 0} → (A → ⊥) → A ↔ ((c : Command) × (r ≡ Whole c) × P c)
  not_command n = neither n no_command

-- and one that ends no download ends no define
no_define : (r : Reading) (P : Batch → Bool → Type 0) → kind r ≢ 4 → EndsDefine r P → ⊥
no_define r P other x = other (ap kind x.3)

-- neither a command nor a download's last column
module _ (g : Module) (ds : List ℕ) (s : State) (r : Reading) (t : Meaning) (no_whole : kind r ≢ 1) (no_glyph : kind r ≢ 4) where
  plain_answers : (number t ≢ 11) × (number t ≢ 14) × (number t ≢ 15) × (number t ≢ 16) × (number t ≢ 17) × (number t ≢ 18) × (number t ≢ 19)
      → ((number t ≡ 9) ↔ (finishes r ≡ false)) → ((number t ≡ 10) ↔ (ends_image r ≡ true))
      → ((number t ≡ 12) ↔ (r ≡ Cancels)) → ((number t ≡ 13) ↔ (r ≡ UnknownCode))
      → (11 ≤ number t → (t.state ≡ s) × (t.strokes ≡ []))
      → ByteAnswers g ds s r t ds
  plain_answers n nine ten twelve thirteen same =
      record {
        listed = number_range t.outcome;
        number_9 = nine;
        number_10 = (λ e. inl (ten.0 e), ⊎_elim ten.1 (⊎_elim (λ x. absurd (no_command r no_whole x)) (λ x. absurd (no_define r _ no_glyph x))));
        number_11 = not_command r no_whole n.0;
        number_12 = twelve;
        number_13 = thirteen;
        number_14 = not_command r no_whole n.1;
        number_15 = neither n.2 (⊎_elim (no_command r no_whole) (no_define r _ no_glyph));
        number_16 = not_command r no_whole n.3;
        number_17 = not_command r no_whole n.4;
        number_18 = neither n.5 (no_define r _ no_glyph);
        number_19 = not_command r no_whole n.6;
        unchanged = same;
        untouched = λ _ _. refl;
        stored = λ d n c e. absurd (no_glyph (ap kind e));
        unfinished = λ _ _. refl;
      }

-- one that is a command has the command's
a_command : (g : Module) (ds : List ℕ) (s : State) (c : Command) {A : Type 0} (P : Asked → Type 0) → (A ↔ P (asked_of g ds s c))
    → A ↔ IsCommand g ds s (Whole c) P
a_command g ds s c P h =
    (λ e. (c, refl, h.0 e), λ x. h.1 (subst (λ (q : Command). P (asked_of g ds s q)) (sym (ap command_in x.1)) x.2))

-- ---- a download's last column

-- what a define read to its end is answered is said of its own batch and note
pub ends_own : (d : Batch) (n : Bool) (c : Columns) (P : Batch → Bool → Type 0) → EndsDefine (GlyphEnd d n c) P
    → (ltb d.code d.last ≡ false) × P d n
ends_own d n c P x =
    subst (λ (q : Reading). (ltb (batch_in q).code (batch_in q).last ≡ false) × P (batch_in q) (note_in q)) (sym x.3) (x.4, x.5)

module _ (g : Module) (ds : List ℕ) (s : State) (d : Batch) (n : Bool) (c : Columns) where
  -- it ends the define, or not
  abbrev Ends : (Batch → Bool → Type 0) → Type 0
  Ends P = EndsDefine (GlyphEnd d n c) P

  -- the answers that a define may be given: 9 before its end, else 15, 18 and 10
  glyph_by : (t : Meaning)
      → (number t ≢ 11) × (number t ≢ 12) × (number t ≢ 13) × (number t ≢ 14) × (number t ≢ 16) × (number t ≢ 17) × (number t ≢ 19)
      → ((number t ≡ 9) ↔ (ltb d.code d.last ≡ true))
      → ((number t ≡ 10) ↔ Ends (λ q k. (is_held s.hold ≡ false) × (some_dropped ds q k ≡ false)))
      → ((number t ≡ 15) ↔ Ends (λ q k. is_held s.hold ≡ true))
      → ((number t ≡ 18) ↔ Ends (λ q k. (is_held s.hold ≡ false) × (some_dropped ds q k ≡ true)))
      → (11 ≤ number t → (t.state ≡ s) × (t.strokes ≡ []))
      → (11 ≤ number t → number t ≢ 18 → cond (is_held s.hold) ds (put_in ds d.code c) ≡ ds)
      → ByteAnswers g ds s (GlyphEnd d n c) t (cond (is_held s.hold) ds (put_in ds d.code c))
  glyph_by t others nine ten fifteen eighteen same kept =
      let r = GlyphEnd d n c in
      record {
        listed = number_range t.outcome;
        number_9 = (λ e. rw (nine.0 e), λ e. nine.1 (not-false (ltb d.code d.last) e));
        number_10 = (λ e. inr (inr (ten.0 e)), ⊎_elim (λ e. absurd (false≢true e)) (⊎_elim (λ x. absurd (no_command r (omega arith) x)) ten.1));
        number_11 = not_command r (omega arith) others.0;
        number_12 = neither others.1 (unlike r Cancels (omega arith));
        number_13 = neither others.2 (unlike r UnknownCode (omega arith));
        number_14 = not_command r (omega arith) others.3;
        number_15 = (λ e. inr (fifteen.0 e), ⊎_elim (λ x. absurd (no_command r (omega arith) x)) fifteen.1);
        number_16 = not_command r (omega arith) others.4;
        number_17 = not_command r (omega arith) others.5;
        number_18 = eighteen;
        number_19 = not_command r (omega arith) others.6;
        unchanged = same;
        untouched = kept;
        stored = λ q m k e.
            ap₂ (λ (b : Batch) (v : Columns). cond (is_held s.hold) ds (put_in ds b.code v)) (ap batch_in e) (ap columns_in e);
        unfinished = λ _ e. absurd (true≢false e);
      }

module _ (g : Module) (font : Faces) (s : State) (d : Batch) (n : Bool) (c : Columns) where
  -- the same of any meaning that it comes to
  as_meant : {t : Meaning} → take_of g font s (GlyphEnd d n c) ≡ t
      → ByteAnswers g font.store (with_half s Nothing) (GlyphEnd d n c) t (take_store g font s (GlyphEnd d n c))
      → ByteAnswers g font.store (with_half s Nothing) (GlyphEnd d n c) (take_of g font s (GlyphEnd d n c))
      (take_store g font s (GlyphEnd d n c))
  as_meant e a = rw e a

  glyph-answers : ByteAnswers g font.store (with_half s Nothing) (GlyphEnd d n c) (take_of g font s (GlyphEnd d n c))
      (take_store g font s (GlyphEnd d n c))
  unfolding take_of glyph_ends take_store outcome_number
  glyph-answers =
      go (ltb d.code d.last) (is_held s.hold) (some_dropped ds d n) refl refl refl
    where
      ds : List ℕ
      ds = font.store

      s₀ : State
      s₀ = with_half s Nothing

      go : (l h x : Bool) → ltb d.code d.last ≡ l → is_held s.hold ≡ h → some_dropped ds d n ≡ x
          → ByteAnswers g ds s₀ (GlyphEnd d n c) (take_of g font s (GlyphEnd d n c)) (take_store g font s (GlyphEnd d n c))
      go true h x e f k =
          as_meant (rw e)
          (glyph_by g ds s₀ d n c (means (with_half s (GlyphWidth (next_code d) (noted ds s.hold d n))) Unfinished []) (omega arith)
          (λ _. e, λ _. refl)
          (neither (omega arith) (λ x. true≢false (sym e ∙ (ends_own d n c _ x).0)))
          (neither (omega arith) (λ x. true≢false (sym e ∙ (ends_own d n c _ x).0)))
          (neither (omega arith) (λ x. true≢false (sym e ∙ (ends_own d n c _ x).0)))
          (λ l. absurd (omega arith)) (λ l. absurd (omega arith)))
      go false true x e f k =
          as_meant (rw (e, f))
          (glyph_by g ds s₀ d n c (means s₀ WindowHeld []) (omega arith) (neither (omega arith) (λ x. true≢false (sym x ∙ e)))
          (neither (omega arith) (λ x. true≢false (sym f ∙ (ends_own d n c _ x).1.0)))
          (λ _. (d, n, c, refl, e, f), λ _. refl)
          (neither (omega arith) (λ x. true≢false (sym f ∙ (ends_own d n c _ x).1.0)))
          (λ _. (refl, refl)) (λ _ _. rw f))
      go false false true e f k =
          as_meant (rw (e, f, k))
          (glyph_by g ds s₀ d n c (means s₀ Dropped []) (omega arith) (neither (omega arith) (λ x. true≢false (sym x ∙ e)))
          (neither (omega arith) (λ x. true≢false (sym k ∙ (ends_own d n c _ x).1.1)))
          (neither (omega arith) (λ x. false≢true (sym f ∙ (ends_own d n c _ x).1)))
          (λ _. (d, n, c, refl, e, (f, k)), λ _. refl)
          (λ _. (refl, refl)) (λ _ other. absurd (other refl)))
      go false false false e f k =
          as_meant (rw (e, f, k))
          (glyph_by g ds s₀ d n c (means s₀ Carried []) (omega arith) (neither (omega arith) (λ x. true≢false (sym x ∙ e)))
          (λ _. (d, n, c, refl, e, (f, k)), λ _. refl)
          (neither (omega arith) (λ x. false≢true (sym f ∙ (ends_own d n c _ x).1)))
          (neither (omega arith) (λ x. false≢true (sym k ∙ (ends_own d n c _ x).1.1)))
          (λ l. absurd (omega arith)) (λ l. absurd (omega arith)))

-- whatever is read
reading_answers : (g : Module) (font : Faces) (s : State) (r : Reading)
    → ByteAnswers g font.store (with_half s Nothing) r (take_of g font s r) (take_store g font s r)
unfolding take_of take_store outcome_number
reading_answers g font s (More p) =
    let r = More p in
    plain_answers g _ _ r _ (omega arith) (omega arith) (omega arith) (λ _. refl, λ _. refl) (neither (omega arith) false≢true)
    (neither (omega arith) (unlike r Cancels (omega arith))) (neither (omega arith) (unlike r UnknownCode (omega arith)))
    (λ l. absurd (omega arith))
reading_answers g font s (Whole c) =
    let s₀ = with_half s Nothing in
    let ds = font.store in
    let r = Whole c in
    let a = command_answers g font s₀ c in
    let ten = a_command g ds s₀ c (λ q. After16 s₀ q (q.not_stored ≡ false)) a.number_10 in
    let fifteen = a_command g ds s₀ c (λ q. After14 q ((q.owners_only && is_held s₀.hold) ≡ true)) a.number_15 in
    record {
      listed = number_range (command_of g font s₀ c).outcome;
      number_9 = neither a.no_9 true≢false;
      number_10 = (λ e. inr (inl (ten.0 e)), ⊎_elim (λ e. absurd (false≢true e)) (⊎_elim ten.1 (λ x. absurd (no_define r _ (omega arith) x))));
      number_11 = a_command g ds s₀ c (λ q. After15 s₀ q (q.out_of_domain ≡ true)) a.number_11;
      number_12 = neither a.no_12 (unlike r Cancels (omega arith));
      number_13 = neither a.no_13 (unlike r UnknownCode (omega arith));
      number_14 = a_command g ds s₀ c (λ q. q.not_carried ≡ true) a.number_14;
      number_15 = (λ e. inl (fifteen.0 e), ⊎_elim fifteen.1 (λ x. absurd (no_define r _ (omega arith) x)));
      number_16 = a_command g ds s₀ c (λ q. After17 s₀ q (q.too_large ≡ true)) a.number_16;
      number_17 = a_command g ds s₀ c (λ q. After11 s₀ q (q.not_defined ≡ true)) a.number_17;
      number_18 = neither a.no_18 (no_define r _ (omega arith));
      number_19 = a_command g ds s₀ c (λ q. After16 s₀ q (q.not_stored ≡ true)) a.number_19;
      unchanged = a.unchanged;
      untouched = λ l _. command_kept g font s₀ c (omega arith);
      stored = λ d n q e. absurd (unlike r (GlyphEnd d n q) (omega arith) e);
      unfinished = λ e _. command_kept g font s₀ c (omega arith);
    }
reading_answers g font s (ImageByte column row b next) =
    let r = ImageByte column row b next in
    plain_answers g _ _ r _ (omega arith) (omega arith) (omega arith) (λ _. refl, λ _. refl) (neither (omega arith) false≢true)
    (neither (omega arith) (unlike r Cancels (omega arith))) (neither (omega arith) (unlike r UnknownCode (omega arith)))
    (λ l. absurd (omega arith))
reading_answers g font s (ImageEnd column row b) =
    let r = ImageEnd column row b in
    plain_answers g _ _ r _ (omega arith) (omega arith) (omega arith) (neither (omega arith) true≢false) (λ _. refl, λ _. refl)
    (neither (omega arith) (unlike r Cancels (omega arith))) (neither (omega arith) (unlike r UnknownCode (omega arith)))
    (λ l. absurd (omega arith))
reading_answers g font s (GlyphEnd d n c) = glyph-answers g font s d n c
reading_answers g font s Cancels =
    plain_answers g _ _ Cancels _ (omega arith) (omega arith) (omega arith) (neither (omega arith) true≢false)
    (neither (omega arith) false≢true) (λ _. refl, λ _. refl)
    (neither (omega arith) (unlike Cancels UnknownCode (omega arith))) (λ l. (refl, refl))
reading_answers g font s UnknownCode =
    plain_answers g _ _ UnknownCode _ (omega arith) (omega arith) (omega arith) (neither (omega arith) true≢false)
    (neither (omega arith) false≢true) (neither (omega arith) (unlike UnknownCode Cancels (omega arith)))
    (λ _. refl, λ _. refl) (λ l. (refl, refl))

module _ (g : Module) (font : Faces) where
  -- every byte
  pub byte-answers : (s : State) (b : ℕ)
      → ByteAnswers g font.store (with_half s Nothing) (read_of g s.half b) (byte_means g font s b) (byte_store g font s b)
  unfolding byte_means byte_store
  byte-answers s b = reading_answers g font s (read_of g s.half b)
