-- The three demands on the five calls, sentence by sentence. proofs/Demands shows each of them. Assumes nothing.
use Rattle.std.specs.Prelude.{◌≡◌, ◌↔◌, ◌≢◌, ◌⊎◌, Bool, true, false, cond, not, ◌&&◌, ◌||◌, List, [], ◌∷◌, ◌++◌, ℕ, zero, suc, ◌+◌, ◌<◌, ◌≤◌, ltb, eqb, length, get_or, replicate}
use Rattle.paper.specs.declared.Module.{Module}
use Rattle.paper.specs.declared.Settings.{Settings}
use Rattle.paper.specs.declared.Span.{Span}
use Rattle.paper.specs.declared.Batch.{Batch}
use Rattle.paper.specs.declared.Columns.{Columns}
use Rattle.paper.specs.declared.Half.TheVariants.{Nothing}
use Rattle.paper.specs.declared.Command.{Command}
use Rattle.paper.specs.declared.Reading.{Reading}
use Rattle.paper.specs.declared.Reading.TheVariants.{More, Whole, ImageByte, ImageEnd, GlyphEnd, Cancels, UnknownCode}
use Rattle.paper.specs.declared.Refusal.{Refusal}
use Rattle.paper.specs.declared.Refusal.TheVariants.{Accepted}
use Rattle.paper.specs.declared.State.{State}
use Rattle.paper.specs.Panel.{panel, memory_length, glass_length, font_length, column_of, row_of}
use Rattle.paper.specs.Downloads.{store_length, is_dropped, put_in, all_erased}
use Rattle.paper.specs.Strokes.{no_span, no_spans, span_holds, apply_all, refreshed, shown_all}
use Rattle.paper.specs.Numbers.{refusal_number, outcome_number, carried_by, answered_by}
use Rattle.paper.specs.Reading.{between}
use Rattle.paper.specs.Settings.{initial_settings, initial_state, with_half, with_spans, window_at, is_defined}
use Rattle.paper.specs.Bounds.{all_stored, accepted}
use Rattle.paper.specs.Cells.{erase_stroke}
use Rattle.paper.specs.Carry.{Asked, asked_of, is_held, Meaning}
use Rattle.paper.specs.Calls.{Feeding, feeding, settled, run, fed_nothing, started, start_call, feed_call, held_by, hold_call, released, release_call, emptied, Refreshing, refresh_call}
use Rattle.laws_marked.specs.Marked.{window_one}
use Rattle.laws_state.specs.Guest.{Holding, Guest, OnlyInside}
use Rattle.demands.specs.Events.{Event, refresh, StateRecord, state_record, Play, refreshed_then, followed, play, spans_since, owed, visible}

-- ==== DEMAND 1. "Any bytes, buffers and state record may be handed in. Each call answers or refuses by document 01's numbers,
-- in its order. A refused call changes no lent byte and hands the state back unchanged."
-- Every number is given exactly when its row holds and none that is tested before it does; 0 is a call that is not refused.

-- n is one of these numbers
abbrev pub one_of : List ℕ → ℕ → Bool
one_of [] n = false
one_of (i ∷ is) n = eqb n i || one_of is n

-- ---- "Start: 1."

abbrev pub start_number : Module → List ℕ → List ℕ → ℕ
start_number g m ds = refusal_number (start_call g m ds).answer.refusal

pub record StartAnswers (g : Module) (m ds : List ℕ) : Type 0 where
  pub listed : one_of (0 ∷ 1 ∷ []) (start_number g m ds) ≡ true
  -- 1: "memory is not 1,024 bytes"
  pub number_1 : (start_number g m ds ≡ 1) ↔ (length m ≢ memory_length g)
  pub number_0 : (start_number g m ds ≡ 0) ↔ (length m ≡ memory_length g)
  -- "refused, it gives the initial state with both spans empty", and the memory does not change
  pub refused : start_number g m ds ≢ 0 → ((start_call g m ds).answer.state ≡ initial_state g) × ((start_call g m ds).mem ≡ m)
  -- "Start does the same [as initialise] and marks all as written."
  pub taken : start_number g m ds ≡ 0
      → ((start_call g m ds).answer.state ≡ started g) × ((start_call g m ds).mem ≡ apply_all g m (erase_stroke g ∷ []))
  -- "Initialise erases all": the state that start gives, refused or not, has no downloads
  pub downloads : (start_call g m ds).store ≡ all_erased ds

-- ---- "Feed: 1, 2, 8."

abbrev pub feed_number : Module → List ℕ → State → List ℕ → List ℕ → List ℕ → ℕ
feed_number g font s ds m bytes = refusal_number (feed_call g font s ds m bytes).answer.refusal

-- "nothing lent and nothing in the state changes, and every count given back is 0", and the outcome is 9
pub record NothingFed (s : State) (ds m : List ℕ) (f : Feeding) : Type 0 where
  pub state : f.answer.state ≡ s
  pub downloads : f.store ≡ ds
  pub mem : f.mem ≡ m
  pub carried : f.answer.carried ≡ 0
  pub answered : f.answer.answered ≡ 0
  pub outcome : outcome_number f.answer.outcome ≡ 9

pub record FeedAnswers (g : Module) (font : List ℕ) (s : State) (ds m bytes : List ℕ) : Type 0 where
  pub listed : one_of (0 ∷ 1 ∷ 2 ∷ 8 ∷ []) (feed_number g font s ds m bytes) ≡ true
  -- 1: "memory is not 1,024 bytes"
  pub number_1 : (feed_number g font s ds m bytes ≡ 1) ↔ (length m ≢ memory_length g)
  -- 2: "font is not 1,120 bytes"
  pub number_2 : (feed_number g font s ds m bytes ≡ 2) ↔ ((length m ≡ memory_length g) × (length font ≢ font_length g))
  -- 8: "state record breaks a bound of this paper"
  pub number_8 : (feed_number g font s ds m bytes ≡ 8)
      ↔ ((length m ≡ memory_length g) × ((length font ≡ font_length g) × (accepted g s ds ≡ false)))
  pub number_0 : (feed_number g font s ds m bytes ≡ 0)
      ↔ ((length m ≡ memory_length g) × ((length font ≡ font_length g) × (accepted g s ds ≡ true)))
  pub refused : feed_number g font s ds m bytes ≢ 0 → NothingFed s ds m (feed_call g font s ds m bytes)

-- ---- "Hold: 8, 6, 4, 5." It is lent the downloads to be read only, and so are release and refresh

abbrev pub hold_number : Module → State → List ℕ → ℕ → ℕ
hold_number g s ds k = refusal_number (hold_call g s ds k).refusal

pub record HoldAnswers (g : Module) (s : State) (ds : List ℕ) (k : ℕ) : Type 0 where
  pub listed : one_of (0 ∷ 8 ∷ 6 ∷ 4 ∷ 5 ∷ []) (hold_number g s ds k) ≡ true
  -- 8: "state record breaks a bound of this paper"
  pub number_8 : (hold_number g s ds k ≡ 8) ↔ (accepted g s ds ≡ false)
  -- 6: "hold while held"
  pub number_6 : (hold_number g s ds k ≡ 6) ↔ ((accepted g s ds ≡ true) × (is_held s.hold ≡ true))
  -- 4: "window to hold is not 1 to 4"
  pub number_4 : (hold_number g s ds k ≡ 4)
      ↔ ((accepted g s ds ≡ true) × ((is_held s.hold ≡ false) × (between 1 4 k ≡ false)))
  -- 5: "window to hold is not defined"
  pub number_5 : (hold_number g s ds k ≡ 5)
      ↔ ((accepted g s ds ≡ true) × ((is_held s.hold ≡ false)
      × ((between 1 4 k ≡ true) × (is_defined (window_at s.windows k) ≡ false))))
  pub number_0 : (hold_number g s ds k ≡ 0)
      ↔ ((accepted g s ds ≡ true) × ((is_held s.hold ≡ false)
      × ((between 1 4 k ≡ true) × (is_defined (window_at s.windows k) ≡ true))))
  pub refused : hold_number g s ds k ≢ 0 → (hold_call g s ds k).state ≡ s
  -- "Hold k drops a half-read command, saves all settings and the selected window, and selects k."
  pub taken : hold_number g s ds k ≡ 0 → (hold_call g s ds k).state ≡ held_by s k

-- ---- "Release: 8, 7."

abbrev pub release_number : Module → State → List ℕ → ℕ
release_number g s ds = refusal_number (release_call g s ds).refusal

pub record ReleaseAnswers (g : Module) (s : State) (ds : List ℕ) : Type 0 where
  pub listed : one_of (0 ∷ 8 ∷ 7 ∷ []) (release_number g s ds) ≡ true
  -- 8: "state record breaks a bound of this paper"
  pub number_8 : (release_number g s ds ≡ 8) ↔ (accepted g s ds ≡ false)
  -- 7: "release while not held"
  pub number_7 : (release_number g s ds ≡ 7) ↔ ((accepted g s ds ≡ true) × (is_held s.hold ≡ false))
  pub number_0 : (release_number g s ds ≡ 0) ↔ ((accepted g s ds ≡ true) × (is_held s.hold ≡ true))
  pub refused : release_number g s ds ≢ 0 → (release_call g s ds).state ≡ s
  -- "Release drops a half-read command and puts the saved settings and selection back"
  pub taken : release_number g s ds ≡ 0 → (release_call g s ds).state ≡ released s

-- ---- "Refresh: 1, 3, 8."

abbrev pub refresh_number : Module → State → List ℕ → List ℕ → List ℕ → ℕ
refresh_number g s ds m glass = refusal_number (refresh_call g s ds m glass).answer.refusal

pub record RefreshAnswers (g : Module) (s : State) (ds m glass : List ℕ) : Type 0 where
  pub listed : one_of (0 ∷ 1 ∷ 3 ∷ 8 ∷ []) (refresh_number g s ds m glass) ≡ true
  -- 1: "memory is not 1,024 bytes"
  pub number_1 : (refresh_number g s ds m glass ≡ 1) ↔ (length m ≢ memory_length g)
  -- 3: "glass is not 224 bytes"
  pub number_3 : (refresh_number g s ds m glass ≡ 3) ↔ ((length m ≡ memory_length g) × (length glass ≢ glass_length g))
  -- 8: "state record breaks a bound of this paper"
  pub number_8 : (refresh_number g s ds m glass ≡ 8)
      ↔ ((length m ≡ memory_length g) × ((length glass ≡ glass_length g) × (accepted g s ds ≡ false)))
  pub number_0 : (refresh_number g s ds m glass ≡ 0)
      ↔ ((length m ≡ memory_length g) × ((length glass ≡ glass_length g) × (accepted g s ds ≡ true)))
  -- the state and the glass stay, and the count is 0
  pub refused : refresh_number g s ds m glass ≢ 0
      → ((refresh_call g s ds m glass).answer.state ≡ s) × ((refresh_call g s ds m glass).answer.moved ≡ 0)
      × ((refresh_call g s ds m glass).glass ≡ glass)
  -- "Refresh copies each span's visible columns, changes no other glass byte, empties both spans, and reports the number of
  -- bytes moved, which is the sum of the visible span lengths"
  pub taken : refresh_number g s ds m glass ≡ 0
      → ((refresh_call g s ds m glass).answer.state ≡ emptied g s)
      × ((refresh_call g s ds m glass).answer.moved ≡ shown_all g s.spans)
      × ((refresh_call g s ds m glass).glass ≡ refreshed g m s.spans glass)

-- ==== DEMAND 2. "After every byte, dots, cursors, windows, modes and outcome are document 01's; an out-of-range command has the
-- effect given there and no other." Feeding single bytes shows every outcome; a fed piece is the fold.

-- ---- one byte

-- t is what document 01 has one byte come to, and es the downloads that it leaves: "So feeding single bytes shows every outcome."
pub record ByteFed (g : Module) (m : List ℕ) (t : Meaning) (es : List ℕ) (f : Feeding) : Type 0 where
  pub refusal : refusal_number f.answer.refusal ≡ 0
  pub outcome : f.answer.outcome ≡ t.outcome
  -- dots
  pub mem : f.mem ≡ apply_all g m t.strokes
  -- cursors, windows, modes, settings, what is half read; and the spans, grown by what was written
  pub state : f.answer.state ≡ settled t
  pub downloads : f.store ≡ es
  -- "two counts: commands carried out, and commands answered 11 to 17", to which "18 and 19 belong"
  pub carried : f.answer.carried ≡ carried_by t.outcome
  pub answered : f.answer.answered ≡ answered_by t.outcome

-- what a byte is read as: it finishes nothing, or ends an image, or a download's columns, or a define, or makes a command whole of
-- which P holds
abbrev pub finishes : Reading → Bool
finishes (More p) = false
finishes (Whole c) = true
finishes (ImageByte column row b next) = false
finishes (ImageEnd column row b) = true
finishes (GlyphEnd d n c) = not (ltb d.code d.last)
finishes Cancels = true
finishes UnknownCode = true

abbrev pub ends_image : Reading → Bool
ends_image (More p) = false
ends_image (Whole c) = false
ends_image (ImageByte column row b next) = false
ends_image (ImageEnd column row b) = true
ends_image (GlyphEnd d n c) = false
ends_image Cancels = false
ends_image UnknownCode = false

abbrev pub ends_glyph : Reading → Bool
ends_glyph (More p) = false
ends_glyph (Whole c) = false
ends_glyph (ImageByte column row b next) = false
ends_glyph (ImageEnd column row b) = false
ends_glyph (GlyphEnd d n c) = true
ends_glyph Cancels = false
ends_glyph UnknownCode = false

abbrev pub IsCommand : Module → List ℕ → State → Reading → (Asked → Type 0) → Type 0
IsCommand g ds s r P = (c : Command) × (r ≡ Whole c) × P (asked_of g ds s c)

-- a define "read to its end": the columns of its last code have come; P of its codes and its note of a drop
abbrev pub EndsDefine : Reading → (Batch → Bool → Type 0) → Type 0
EndsDefine r P = (d : Batch) × (n : Bool) × (c : Columns) × (r ≡ GlyphEnd d n c) × (ltb d.code d.last ≡ false) × P d n

-- "one of its codes was dropped": one before the last, or the last
abbrev pub some_dropped : List ℕ → Batch → Bool → Bool
some_dropped ds d n = n || is_dropped ds d.code

-- "Order for one command: .. then 14, 15, 11, 17, 16", and 19 "after 15 and 11": P, and of a row and those before it none holds
abbrev pub After14 : Asked → Type 0 → Type 0
After14 a P = (a.not_carried ≡ false) × P

abbrev pub After15 : State → Asked → Type 0 → Type 0
After15 s a P = After14 a (((a.owners_only && is_held s.hold) ≡ false) × P)

abbrev pub After11 : State → Asked → Type 0 → Type 0
After11 s a P = After15 s a ((a.out_of_domain ≡ false) × P)

abbrev pub After17 : State → Asked → Type 0 → Type 0
After17 s a P = After11 s a ((a.not_defined ≡ false) × P)

abbrev pub After16 : State → Asked → Type 0 → Type 0
After16 s a P = After17 s a ((a.too_large ≡ false) × P)

-- s is the state with nothing half read, ds its downloads, r what the byte was read as, t what it comes to, es the downloads
-- afterwards
pub record ByteAnswers (g : Module) (ds : List ℕ) (s : State) (r : Reading) (t : Meaning) (es : List ℕ) : Type 0 where
  pub listed : (9 ≤ outcome_number t.outcome) × (outcome_number t.outcome ≤ 19)
  -- 9: "when that byte finished nothing"
  pub number_9 : (outcome_number t.outcome ≡ 9) ↔ (finishes r ≡ false)
  -- 10: "when it finished a command that was carried out"
  pub number_10 : (outcome_number t.outcome ≡ 10)
      ↔ ((ends_image r ≡ true)
      ⊎ (IsCommand g ds s r (λ a. After16 s a (a.not_stored ≡ false))
      ⊎ EndsDefine r (λ d n. (is_held s.hold ≡ false) × (some_dropped ds d n ≡ false))))
  -- 11: "command read whole, a parameter out of its domain"
  pub number_11 : (outcome_number t.outcome ≡ 11) ↔ IsCommand g ds s r (λ a. After15 s a (a.out_of_domain ≡ true))
  -- 12: "cancelled at a byte"
  pub number_12 : (outcome_number t.outcome ≡ 12) ↔ (r ≡ Cancels)
  -- 13: "unknown code, given at the byte that makes it unknown"
  pub number_13 : (outcome_number t.outcome ≡ 13) ↔ (r ≡ UnknownCode)
  -- 14: "not carried, read whole"
  pub number_14 : (outcome_number t.outcome ≡ 14) ↔ IsCommand g ds s r (λ a. a.not_carried ≡ true)
  -- 15: "refused because a window is held, read whole"
  pub number_15 : (outcome_number t.outcome ≡ 15)
      ↔ (IsCommand g ds s r (λ a. After14 a ((a.owners_only && is_held s.hold) ≡ true))
      ⊎ EndsDefine r (λ d n. is_held s.hold ≡ true))
  -- 16: "a character, BS, HT or LF while the character cell exceeds the range"
  pub number_16 : (outcome_number t.outcome ≡ 16) ↔ IsCommand g ds s r (λ a. After17 s a (a.too_large ≡ true))
  -- 17: "select of an undefined window"
  pub number_17 : (outcome_number t.outcome ≡ 17) ↔ IsCommand g ds s r (λ a. After11 s a (a.not_defined ≡ true))
  -- 18: "a define read to its end answers 18 exactly if one of its codes was dropped"
  pub number_18 : (outcome_number t.outcome ≡ 18)
      ↔ EndsDefine r (λ d n. (is_held s.hold ≡ false) × (some_dropped ds d n ≡ true))
  -- 19: "Erasing an absent code: 19, tested after 15 and 11"
  pub number_19 : (outcome_number t.outcome ≡ 19) ↔ IsCommand g ds s r (λ a. After16 s a (a.not_stored ≡ true))
  -- "no dot, cursor, window or setting changes by a command so answered": nothing is half read, and that is all
  pub unchanged : 11 ≤ outcome_number t.outcome → (t.state ≡ s) × (t.strokes ≡ [])
  -- nor does a download, but for a define of which a code was dropped: "its other codes stay stored"
  pub untouched : 11 ≤ outcome_number t.outcome → outcome_number t.outcome ≢ 18 → es ≡ ds
  -- "Each is stored when its last byte arrives", and "While held, define and erase .. store or erase nothing"
  pub stored : (d : Batch) (n : Bool) (c : Columns) → r ≡ GlyphEnd d n c → es ≡ cond (is_held s.hold) ds (put_in ds d.code c)
  -- any other byte that finishes nothing leaves them as they are
  pub unfinished : outcome_number t.outcome ≡ 9 → ends_glyph r ≡ false → es ≡ ds

-- "a define read to its end answers 18 exactly if one of its codes was dropped": afterwards one of them, first to last, is not
-- stored
abbrev pub DefineEnds : Batch → Meaning → List ℕ → Type 0
DefineEnds d t es = (outcome_number t.outcome ≡ 18) ↔ (all_stored es d.first (d.last + 1) ≡ false)

-- an answer of 11 to 19 as the byte is fed: nothing changes, and one command more is answered
pub record OnlyAnswered (s : State) (ds m : List ℕ) (f : Feeding) : Type 0 where
  pub mem : f.mem ≡ m
  pub state : f.answer.state ≡ with_half s Nothing
  pub downloads : outcome_number f.answer.outcome ≢ 18 → f.store ≡ ds
  pub carried : f.answer.carried ≡ 0
  pub answered : f.answer.answered ≡ 1

-- ---- a piece

-- one more byte fed, by itself, and its counts added
abbrev pub fed_once : Module → List ℕ → Feeding → ℕ → Feeding
fed_once g font f b =
    let h = feed_call g font f.answer.state f.store f.mem (b ∷ []) in
    feeding h.answer.refusal h.answer.state (f.answer.carried + h.answer.carried)
    (f.answer.answered + h.answer.answered) h.answer.outcome h.mem h.store

-- every byte of a piece fed by itself
abbrev pub fed_singly : Module → List ℕ → Feeding → List ℕ → Feeding
fed_singly g font f [] = f
fed_singly g font f (b ∷ bs) = fed_singly g font (fed_once g font f b) bs

-- "A feed takes the whole piece and gives two counts .. It also gives the outcome of the piece's last byte"
pub record PieceFed (g : Module) (font : List ℕ) (s : State) (ds m bytes : List ℕ) : Type 0 where
  -- the piece is the fold of its bytes
  pub folded : feed_call g font s ds m bytes ≡ run g font (fed_nothing Accepted s ds m) bytes
  -- and is what its bytes give one by one, counts summed
  pub singly : feed_call g font s ds m bytes ≡ fed_singly g font (fed_nothing Accepted s ds m) bytes

-- ==== DEMAND 3. "From any accepted state with a user window held and the glass in step, any bytes, cut anywhere, with refreshes
-- anywhere between, give what document 01 gives for the joined bytes; no cell outside the window changes, its cursor stays
-- inside; after a last refresh the glass equals the visible memory, and each refresh moved only the spans written since the one
-- before."

-- what is begun with: window k is held, the glass equals the visible memory, both spans are empty, and the lent bytes are as
-- many as asked
pub record InStep (g : Module) (font : List ℕ) (k back : ℕ) (v : Settings) (s : State) (ds m glass : List ℕ) : Type 0 where
  pub holding : Holding g k back v s ds
  pub spans : s.spans ≡ no_spans g
  pub shows : glass ≡ visible g m
  pub memory : length m ≡ memory_length g
  pub fonts : length font ≡ font_length g

-- the span of an address's row holds its column
abbrev pub in_spans : Module → List Span → ℕ → Bool
in_spans g ps a = span_holds (get_or ps (row_of g a) no_span) (column_of g a)

-- how many of the addresses below n are in the spans
abbrev pub spanned_below : Module → List Span → ℕ → ℕ
spanned_below g ps zero = 0
spanned_below g ps (suc a) = spanned_below g ps a + cond (in_spans g ps a) 1 0

-- from glass `was` came glass `is`: "Refresh copies each span's visible columns, changes no other glass byte"
pub record CopiedOnly (g : Module) (ps : List Span) (m was is : List ℕ) : Type 0 where
  pub size : length is ≡ length was
  pub copied : (a : ℕ) → a < glass_length g → in_spans g ps a ≡ true → get_or is a 0 ≡ get_or m a 0
  pub kept : (a : ℕ) → a < glass_length g → in_spans g ps a ≡ false → get_or is a 0 ≡ get_or was a 0

-- a refresh of a whole play, which answered r, moved n bytes and left this glass: b is the play before it and rest the play after
-- it, and ps are the spans written since the refresh before it
pub record RefreshedAt {S A : Type 0} (g : Module) (ps : List Span) (b : Play S A) (r : A) (n : ℕ) (glass : List ℕ)
    (rest whole : Play S A) : Type 0 where
  -- this is its place
  pub place : whole ≡ followed b (refreshed_then r n rest)
  -- "each refresh moved only the spans written since the one before"
  pub only : CopiedOnly g ps b.mem b.glass glass
  -- "and reports the number of bytes moved, which is the sum of the visible span lengths": both
  pub number : n ≡ spanned_below g ps (glass_length g)
  pub sum : n ≡ shown_all g ps

-- p is what the pieces and refreshes come to, one is what the joined bytes come to, fed at once, and last is p with one more
-- refresh
pub record Served (g : Module) (font : List ℕ) (k back : ℕ) (v : Settings) (s : State) (ds m glass : List ℕ)
    (events : List Event) (p : Play StateRecord Refusal) (one : Feeding) (last : Play StateRecord Refusal) : Type 0 where
  -- no call is refused
  pub refusals : p.answers ≡ replicate (length events) Accepted
  -- "what document 01 gives for the joined bytes": memory, the summed counts, and the state: cursors, settings, windows, hold
  -- and what is half read; its spans hold what was written since the last refresh
  pub mem : p.mem ≡ one.mem
  pub carried : p.carried ≡ one.answer.carried
  pub answered : p.answered ≡ one.answer.answered
  pub state : p.state.state ≡ with_spans one.answer.state (spans_since g font (state_record s ds) [] events)
  -- "no cell outside the window changes"
  pub outside : OnlyInside g k s m p.mem
  -- "its cursor stays inside", and its rectangle, the hold, the selection, the base and the other windows are as they were
  pub guest : Guest k back v s p.state.state
  -- "While held, define and erase .. store or erase nothing"
  pub downloads : p.state.downloads ≡ ds
  -- "after a last refresh the glass equals the visible memory"
  pub shows : last.glass ≡ visible g p.mem
  -- "each refresh moved only the spans written since the one before", wherever it stands among the events
  pub each : (before after : List Event) → events ≡ before ++ refresh ∷ after
      → let b = play g font s ds m glass before in
      let r = refresh_call g b.state.state b.state.downloads b.mem b.glass in
      RefreshedAt g (spans_since g font (state_record s ds) [] before) b r.answer.refusal r.answer.moved r.glass
      (play g font r.answer.state b.state.downloads b.mem r.glass after) p
  -- as many bytes as these have, "224 at most"
  pub moved : p.moved ≡ owed g font (state_record s ds) [] events
  pub most : (i : ℕ) → get_or p.moved i 0 ≤ glass_length g

-- ---- one panel that is begun with: started, fed the define of marked case 11, its window held, and refreshed

abbrev pub window_fed : (font m ds : List ℕ) → Feeding
window_fed font m ds = let a = start_call panel m ds in feed_call panel font a.answer.state a.store a.mem window_one

abbrev pub window_held : (font m ds glass : List ℕ) → Refreshing
window_held font m ds glass =
    let f = window_fed font m ds in
    refresh_call panel (hold_call panel f.answer.state f.store 1).state f.store f.mem glass

abbrev pub BegunInStep : (font m ds glass : List ℕ) → Type 0
BegunInStep font m ds glass =
    let r = window_held font m ds glass in
    let f = window_fed font m ds in
    InStep panel font 1 0 (initial_settings panel) r.answer.state f.store f.mem r.glass

-- lent to it
abbrev pub some_font : List ℕ
some_font = replicate (font_length panel) 0

abbrev pub some_memory : List ℕ
some_memory = replicate (memory_length panel) 0x3C

abbrev pub some_downloads : List ℕ
some_downloads = replicate store_length 0x5A

abbrev pub some_glass : List ℕ
some_glass = replicate (glass_length panel) 0xC3
