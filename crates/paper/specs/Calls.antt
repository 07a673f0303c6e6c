-- The five calls of document 01, each one definition that gives for every input what it answers and what state, downloads, memory
-- and glass hold afterwards. A state is handed in with its downloads, which hold, release and refresh leave as they are. "Numbers
-- given back" says which refusals each tests, in order. Assumes nothing.
use Rattle.std.specs.Prelude.{ℕ, ◌+◌, Bool, true, false, cond, not, List, [], ◌∷◌, length, eqb, Option, None, Some}
use Rattle.paper.specs.declared.Module.{Module}
use Rattle.paper.specs.declared.Half.TheVariants.{Nothing}
use Rattle.paper.specs.declared.Held.{Held}
use Rattle.paper.specs.declared.Outcome.{Outcome}
use Rattle.paper.specs.declared.Outcome.TheVariants.{Unfinished}
use Rattle.paper.specs.declared.Refusal.{Refusal}
use Rattle.paper.specs.declared.Refusal.TheVariants.{Accepted, MemoryLength, FontLength, GlassLength, NoSuchWindow, UndefinedWindow, HeldAlready, NotHeld, BrokenState}
use Rattle.paper.specs.declared.State.{State}
use Rattle.paper.specs.declared.Answer.{Answer}
use Rattle.paper.specs.declared.Fed.{Fed}
use Rattle.paper.specs.declared.Refreshed.{Refreshed}
use Rattle.paper.specs.Panel.{memory_length, glass_length, font_length}
use Rattle.paper.specs.Downloads.{all_erased, Faces, faces}
use Rattle.paper.specs.Strokes.{no_spans, apply_all, mark_all, refreshed, shown_all}
use Rattle.paper.specs.Numbers.{refusal_number, carried_by, answered_by}
use Rattle.paper.specs.Reading.{between}
use Rattle.paper.specs.Settings.{initial_state, hold_of, with_settings, with_selected, with_hold, with_half, with_spans, window_at, is_defined}
use Rattle.paper.specs.Bounds.{accepted}
use Rattle.paper.specs.Cells.{erase_stroke}
use Rattle.paper.specs.Carry.{Meaning, is_held, byte_means, byte_store}

-- 1, 2, 3: "memory is not 1,024 bytes", "font is not 1,120 bytes", "glass is not 224 bytes"
abbrev pub is_not : ℕ → List ℕ → Bool
is_not n l = not (eqb (length l) n)

-- "nothing lent and nothing in the state changes" unless a call is accepted, which is number 0
unfoldable pub is_accepted : Refusal → Bool
is_accepted r = eqb (refusal_number r) 0

-- ---- start

-- "Start: 1."
unfoldable pub start_refusal : Module → List ℕ → Refusal
start_refusal g m = cond (is_not (memory_length g) m) MemoryLength Accepted

pub record Starting : Type 0 where
  pub answer : Answer
  pub mem : List ℕ
  pub store : List ℕ

abbrev pub starting : Answer → List ℕ → List ℕ → Starting
starting a m ds = record { answer = a; mem = m; store = ds }

abbrev pub answer : Refusal → State → Answer
answer r s = record { refusal = r; state = s }

-- "Start does the same [as initialise] and marks all as written."
abbrev pub started : Module → State
started g = with_spans (initial_state g) (mark_all (initial_state g).spans (erase_stroke g ∷ []))

-- "Start takes no state; refused, it gives the initial state with both spans empty": no download is stored in either
unfoldable pub start_call : Module → List ℕ → List ℕ → Starting
start_call g m ds =
    cond (is_accepted (start_refusal g m))
    (starting (answer Accepted (started g)) (apply_all g m (erase_stroke g ∷ [])) (all_erased ds))
    (starting (answer (start_refusal g m) (initial_state g)) m (all_erased ds))

-- ---- feed

-- "Feed: 1, 2, 8."
unfoldable pub feed_refusal : Module → List ℕ → State → List ℕ → List ℕ → Refusal
feed_refusal g font s ds m =
    cond (is_not (memory_length g) m) MemoryLength
    (cond (is_not (font_length g) font) FontLength (cond (not (accepted g s ds)) BrokenState Accepted))

pub record Feeding : Type 0 where
  pub answer : Fed
  pub mem : List ℕ
  pub store : List ℕ

abbrev pub feeding : Refusal → State → ℕ → ℕ → Outcome → List ℕ → List ℕ → Feeding
feeding r s c a o m ds =
    record { answer = record { refusal = r; state = s; carried = c; answered = a; outcome = o }; mem = m; store = ds }

-- the state that a meaning leaves: its strokes have grown the spans
abbrev pub settled : Meaning → State
settled t = with_spans t.state (mark_all t.state.spans t.strokes)

-- one byte taken: its strokes move the memory and grow the spans, its outcome is counted, and these are the downloads
abbrev pub counted : Module → Feeding → Meaning → List ℕ → Feeding
counted g f t ds =
    feeding f.answer.refusal (settled t)
    (f.answer.carried + carried_by t.outcome)
    (f.answer.answered + answered_by t.outcome)
    t.outcome
    (apply_all g f.mem t.strokes)
    ds

-- the font and the downloads so far
abbrev pub faces_now : List ℕ → Feeding → Faces
faces_now font f = faces font f.store

unfoldable pub next : Module → List ℕ → Feeding → ℕ → Feeding
next g font f b =
    counted g f (byte_means g (faces_now font f) f.answer.state b) (byte_store g (faces_now font f) f.answer.state b)

-- "A feed takes the whole piece"
abbrev pub run : Module → List ℕ → Feeding → List ℕ → Feeding
run g font f [] = f
run g font f (b ∷ bs) = run g font (next g font f b) bs

-- "9 .. when the piece is empty or when the call is refused"; "every count given back is 0"
abbrev pub fed_nothing : Refusal → State → List ℕ → List ℕ → Feeding
fed_nothing r s ds m = feeding r s 0 0 Unfinished m ds

unfoldable pub feed_call : Module → List ℕ → State → List ℕ → List ℕ → List ℕ → Feeding
feed_call g font s ds m piece =
    cond (is_accepted (feed_refusal g font s ds m)) (run g font (fed_nothing Accepted s ds m) piece)
    (fed_nothing (feed_refusal g font s ds m) s ds m)

-- ---- hold and release

-- "Hold: 8, 6, 4, 5."
unfoldable pub hold_refusal : Module → State → List ℕ → ℕ → Refusal
hold_refusal g s ds k =
    cond (not (accepted g s ds)) BrokenState
    (cond (is_held s.hold) HeldAlready
    (cond (not (between 1 4 k)) NoSuchWindow
    (cond (not (is_defined (window_at s.windows k))) UndefinedWindow Accepted)))

-- "Hold k drops a half-read command, saves all settings and the selected window, and selects k."
unfoldable pub held_by : State → ℕ → State
held_by s k = with_hold (with_selected (with_half s Nothing) k) (hold_of k s.selected s.settings)

unfoldable pub hold_call : Module → State → List ℕ → ℕ → Answer
hold_call g s ds k =
    cond (is_accepted (hold_refusal g s ds k)) (answer Accepted (held_by s k)) (answer (hold_refusal g s ds k) s)

-- "Release: 8, 7."
unfoldable pub release_refusal : Module → State → List ℕ → Refusal
release_refusal g s ds = cond (not (accepted g s ds)) BrokenState (cond (not (is_held s.hold)) NotHeld Accepted)

-- "Release drops a half-read command and puts the saved settings and selection back; window k keeps its cursor and mode."
abbrev pub put_back : State → Option Held → State
put_back s None = s
put_back s (Some h) = with_hold (with_selected (with_settings (with_half s Nothing) h.settings) h.selected) None

unfoldable pub released : State → State
released s = put_back s s.hold

unfoldable pub release_call : Module → State → List ℕ → Answer
release_call g s ds =
    cond (is_accepted (release_refusal g s ds)) (answer Accepted (released s)) (answer (release_refusal g s ds) s)

-- ---- refresh

-- "Refresh: 1, 3, 8."
unfoldable pub refresh_refusal : Module → State → List ℕ → List ℕ → List ℕ → Refusal
refresh_refusal g s ds m glass =
    cond (is_not (memory_length g) m) MemoryLength
    (cond (is_not (glass_length g) glass) GlassLength (cond (not (accepted g s ds)) BrokenState Accepted))

pub record Refreshing : Type 0 where
  pub answer : Refreshed
  pub glass : List ℕ

abbrev pub refreshing : Refusal → State → ℕ → List ℕ → Refreshing
refreshing r s n glass = record { answer = record { refusal = r; state = s; moved = n }; glass = glass }

-- "empties both spans"
unfoldable pub emptied : Module → State → State
emptied g s = with_spans s (no_spans g)

-- "Refresh copies each span's visible columns, changes no other glass byte, empties both spans, and reports the number of bytes
-- moved, which is the sum of the visible span lengths"
unfoldable pub refresh_call : Module → State → List ℕ → List ℕ → List ℕ → Refreshing
refresh_call g s ds m glass =
    cond (is_accepted (refresh_refusal g s ds m glass))
    (refreshing Accepted (emptied g s) (shown_all g s.spans) (refreshed g m s.spans glass))
    (refreshing (refresh_refusal g s ds m glass) s 0 glass)
