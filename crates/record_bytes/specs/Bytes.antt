-- The record of 259 bytes, for C: the state as 115 bytes, and after them the downloads, which are their own bytes. docs/RECORD.md has
-- the same as a table. Assumes nothing.
use Rattle.std.specs.Prelude.{ℕ, ◌+◌, ◌/◌, ◌%◌, List, [], ◌∷◌, ◌++◌, get_or, take, replicate, Option, None, Some}
use Rattle.paper.specs.declared.Settings.{Settings}
use Rattle.paper.specs.declared.Cursor.{Cursor}
use Rattle.paper.specs.declared.Window.{Window}
use Rattle.paper.specs.declared.Span.{Span}
use Rattle.paper.specs.declared.Columns.{Columns}
use Rattle.paper.specs.declared.Held.{Held}
use Rattle.paper.specs.declared.State.{State}
use Rattle.paper.specs.Downloads.{store_length}
use Rattle.paper.specs.Strokes.{no_span}
use Rattle.paper.specs.Settings.{window_at}
use Rattle.record_half.specs.declared.Slots.{Slots}
use Rattle.record_half.specs.Slots.{half_slots}

-- ---- the layout: every other file has a length or a place by its name here

-- how long each part is
abbrev pub settings_length : ℕ
settings_length = 12

abbrev pub cursor_length : ℕ
cursor_length = 5

abbrev pub window_length : ℕ
window_length = 8 + cursor_length

abbrev pub base_length : ℕ
base_length = cursor_length + 1

abbrev pub hold_length : ℕ
hold_length = 3 + settings_length

abbrev pub columns_length : ℕ
columns_length = 9

abbrev pub half_length : ℕ
half_length = 13 + columns_length

abbrev pub span_length : ℕ
span_length = 4

abbrev pub spans_length : ℕ
spans_length = span_length + span_length

-- where each begins, one after the other
abbrev pub at_first : ℕ
at_first = settings_length

abbrev pub at_second : ℕ
at_second = at_first + window_length

abbrev pub at_third : ℕ
at_third = at_second + window_length

abbrev pub at_fourth : ℕ
at_fourth = at_third + window_length

abbrev pub at_base : ℕ
at_base = at_fourth + window_length

abbrev pub at_selected : ℕ
at_selected = at_base + cursor_length

abbrev pub at_hold : ℕ
at_hold = at_base + base_length

abbrev pub at_half : ℕ
at_half = at_hold + hold_length

abbrev pub at_upper : ℕ
at_upper = at_half + half_length

abbrev pub at_lower : ℕ
at_lower = at_upper + span_length

-- how long the state is, and the record with the downloads after it
abbrev pub state_length : ℕ
state_length = at_upper + spans_length

abbrev pub record_length : ℕ
record_length = state_length + store_length

-- ---- the bytes

-- a 16-bit number is two bytes, low byte first
abbrev pub low : ℕ → ℕ
low n = n % 256

abbrev pub high : ℕ → ℕ
high n = n / 256

abbrev pub settings_bytes : Settings → List ℕ
settings_bytes v =
    v.charset
    ∷ v.codes
    ∷ v.caret
    ∷ v.brightness
    ∷ v.speed
    ∷ v.width
    ∷ v.write
    ∷ v.switch
    ∷ v.style.reverse
    ∷ v.style.mixing
    ∷ v.style.across
    ∷ v.style.down
    ∷ []

abbrev pub cursor_bytes : Cursor → List ℕ
cursor_bytes k = low k.x ∷ high k.x ∷ low k.y ∷ high k.y ∷ k.mode ∷ []

abbrev pub window_bytes : Window → List ℕ
window_bytes w =
    low w.left
    ∷ high w.left
    ∷ low w.top
    ∷ high w.top
    ∷ low w.width
    ∷ high w.width
    ∷ low w.height
    ∷ high w.height
    ∷ cursor_bytes w.cursor

unfoldable pub windows_bytes : List Window → List ℕ
windows_bytes ws =
    window_bytes (window_at ws 1) ++ (window_bytes (window_at ws 2) ++ (window_bytes (window_at ws 3) ++ window_bytes (window_at ws 4)))

-- the base window's cursor, and which window is selected
abbrev pub base_bytes : Cursor → ℕ → List ℕ
base_bytes k selected = cursor_bytes k ++ (selected ∷ [])

-- while nothing is held all its bytes are 0
unfoldable pub hold_bytes : Option Held → List ℕ
hold_bytes None = replicate hold_length 0
hold_bytes (Some x) = 1 ∷ x.window ∷ x.selected ∷ settings_bytes x.settings

abbrev pub columns_bytes : Columns → List ℕ
columns_bytes c = c.width ∷ c.come ∷ c.c0 ∷ c.c1 ∷ c.c2 ∷ c.c3 ∷ c.c4 ∷ c.c5 ∷ c.c6 ∷ []

abbrev pub slot_bytes : Slots → List ℕ
slot_bytes t =
    t.case
    ∷ t.a
    ∷ t.b
    ∷ t.c
    ∷ t.d
    ∷ low t.p
    ∷ high t.p
    ∷ low t.q
    ∷ high t.q
    ∷ low t.r
    ∷ high t.r
    ∷ low t.s
    ∷ high t.s
    ∷ columns_bytes t.columns

abbrev pub span_bytes : Span → List ℕ
span_bytes p = low p.first ∷ high p.first ∷ low p.end ∷ high p.end ∷ []

abbrev pub spans_bytes : List Span → List ℕ
spans_bytes ps = span_bytes (get_or ps 0 no_span) ++ span_bytes (get_or ps 1 no_span)

-- a state's bytes with these spans: the bytes before them stay as they are
abbrev pub spans_into : List ℕ → List Span → List ℕ
spans_into l ps = take at_upper l ++ spans_bytes ps

-- what follows the windows
unfoldable pub tail_bytes : State → List ℕ
tail_bytes s =
    base_bytes s.base s.selected
    ++ (hold_bytes s.hold ++ (slot_bytes (half_slots s.half) ++ spans_bytes s.spans))

unfoldable pub encoded : State → List ℕ
encoded s = settings_bytes s.settings ++ (windows_bytes s.windows ++ tail_bytes s)

-- the record
abbrev pub record_of : State → List ℕ → List ℕ
record_of s ds = encoded s ++ ds
