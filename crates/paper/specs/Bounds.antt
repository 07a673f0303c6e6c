-- Document 01, number 8: which state records are accepted. "Given exactly when the state record breaks a bound of this paper."
-- Assumes nothing.
use Rattle.std.specs.Prelude.{ℕ, zero, suc, ◌+◌, ◌*◌, ◌-◌, Bool, true, cond, not, ◌&&◌, ◌||◌, List, [], ◌∷◌, length, get_or, leb, ltb, eqb, Option, None, Some}
use Rattle.paper.specs.declared.Module.{Module}
use Rattle.paper.specs.declared.Settings.{Settings}
use Rattle.paper.specs.declared.Cursor.{Cursor}
use Rattle.paper.specs.declared.Window.{Window}
use Rattle.paper.specs.declared.Span.{Span}
use Rattle.paper.specs.declared.Key.TheVariants.{Charset, Codes, Caret, Brightness, Reverse, Speed, Mixing, Width, Write, Switch}
use Rattle.paper.specs.declared.Word.{Word}
use Rattle.paper.specs.declared.Word.TheVariants.{CursorX, CursorY, WindowLeft, WindowTop, WindowWidth, WindowHeight, ImageWidth, ImageHeight}
use Rattle.paper.specs.declared.Batch.{Batch}
use Rattle.paper.specs.declared.Columns.{Columns}
use Rattle.paper.specs.declared.Half.{Half}
use Rattle.paper.specs.declared.Half.TheVariants.{Nothing, Escape, Unit, Group, Actions, Images, Characters, Windows, Value, Rest, DownloadA, DownloadFrom, DownloadTo, GlyphWidth, GlyphByte, Low, High, ImageKind, ImageData, EnlargeX, EnlargeY, SelectA, WindowA, WindowB, EraseA, EraseCode}
use Rattle.paper.specs.declared.Held.{Held}
use Rattle.paper.specs.declared.State.{State}
use Rattle.paper.specs.Downloads.{place_length, store_length, code_at, width_at, column_at, place, is_stored, is_full}
use Rattle.paper.specs.Reading.{between, is_known}
use Rattle.paper.specs.Settings.{in_domain, in_enlargement, selectable, fits, window_at}

-- "a setting .. outside its domain"
unfoldable pub settings_ok : Module → Settings → Bool
settings_ok g v =
    in_domain g Charset v.charset
    && (in_domain g Codes v.codes
    && (in_domain g Caret v.caret
    && (in_domain g Brightness v.brightness
    && (in_domain g Speed v.speed
    && (in_domain g Width v.width
    && (in_domain g Write v.write
    && (in_domain g Switch v.switch
    && (in_domain g Reverse v.style.reverse
    && (in_domain g Mixing v.style.mixing && in_enlargement v.style.across v.style.down)))))))))

-- "a cursor outside its window", the window being w columns and h rows; a mode other than MD1, MD2, MD3
unfoldable pub cursor_ok : ℕ → ℕ → Cursor → Bool
cursor_ok w h k = ltb k.x w && (ltb k.y h && between 1 3 k.mode)

-- all zeros: the record of a window that is not defined
unfoldable pub is_blank : Window → Bool
is_blank w =
    eqb w.left 0
    && (eqb w.top 0
    && (eqb w.width 0
    && (eqb w.height 0
    && (eqb w.cursor.x 0 && (eqb w.cursor.y 0 && eqb w.cursor.mode 0)))))

-- "a user window leaving the memory"
unfoldable pub window_ok : Module → Window → Bool
window_ok g w =
    is_blank w
    || (fits g w.left w.top w.width w.height && cursor_ok w.width w.height w.cursor)

unfoldable pub windows_ok : Module → List Window → Bool
windows_ok g ws =
    window_ok g (window_at ws 1)
    && (window_ok g (window_at ws 2) && (window_ok g (window_at ws 3) && window_ok g (window_at ws 4)))

-- "while held, a saved [setting] outside its domain, an undefined window held or saved as selected, a held window that is not the
-- selected one"
unfoldable pub hold_ok : Module → List Window → ℕ → Option Held → Bool
hold_ok g ws selected None = true
hold_ok g ws selected (Some h) =
    leb 1 h.window
    && (eqb h.window selected && (selectable ws h.window && (selectable ws h.selected && settings_ok g h.settings)))

-- "a span whose first exceeds its last or whose last exceeds 511"; nothing is 0 and 0
unfoldable pub span_ok : Module → Span → Bool
span_ok g p = (eqb p.first 0 && eqb p.end 0) || (ltb p.first p.end && leb p.end g.columns)

abbrev pub spans_ok : Module → List Span → Bool
spans_ok g [] = true
spans_ok g (p ∷ ps) = span_ok g p && spans_ok g ps

-- the parameters before an awaited 16-bit parameter
unfoldable pub word_ok : Module → Word → Bool
word_ok g CursorX = true
word_ok g (CursorY x) = true
word_ok g (WindowLeft a) = between 1 4 a
word_ok g (WindowTop a left) = between 1 4 a
word_ok g (WindowWidth a left top) = between 1 4 a
word_ok g (WindowHeight a left top width) = between 1 4 a
word_ok g ImageWidth = true
word_ok g (ImageHeight width) = between 1 g.columns width

-- the codes of a half-read define
unfoldable pub batch_ok : Batch → Bool
batch_ok d = leb 0x20 d.first && (leb d.first d.code && leb d.code d.last)

-- the columns that have not come are 0
unfoldable pub rest_blank : Columns → Bool
rest_blank c =
    (ltb 0 c.come || eqb c.c0 0)
    && ((ltb 1 c.come || eqb c.c1 0)
    && ((ltb 2 c.come || eqb c.c2 0)
    && ((ltb 3 c.come || eqb c.c3 0)
    && ((ltb 4 c.come || eqb c.c4 0) && ((ltb 5 c.come || eqb c.c5 0) && (ltb 6 c.come || eqb c.c6 0))))))

-- five columns or seven, of which one is still to come
unfoldable pub columns_ok : Columns → Bool
columns_ok c = (eqb c.width 5 || eqb c.width 7) && (ltb c.come c.width && rest_blank c)

-- "an impossible half-read command: one that is not a proper beginning of a command by the reading rules"
unfoldable pub half_ok : Module → Half → Bool
half_ok g Nothing = true
half_ok g Escape = true
half_ok g Unit = true
half_ok g Group = true
half_ok g Actions = true
half_ok g Images = true
half_ok g Characters = true
half_ok g Windows = true
half_ok g (Value key) = is_known g key
half_ok g (Rest left) = between 1 5 left
half_ok g DownloadA = g.downloads
half_ok g DownloadFrom = g.downloads
half_ok g (DownloadTo from) = g.downloads && leb 0x20 from
half_ok g (GlyphWidth d n) = g.downloads && batch_ok d
half_ok g (GlyphByte d n c) = g.downloads && (batch_ok d && columns_ok c)
half_ok g (Low w) = word_ok g w
half_ok g (High w low) = word_ok g w
half_ok g (ImageKind width height) = between 1 g.columns width && between 1 g.rows height
half_ok g (ImageData width height column row) =
    between 1 g.columns width && (between 1 g.rows height && (ltb column width && ltb row height))
half_ok g EnlargeX = true
half_ok g (EnlargeY x) = true
half_ok g SelectA = true
half_ok g WindowA = true
half_ok g (WindowB a) = between 1 4 a
half_ok g EraseA = g.downloads
half_ok g (EraseCode a) = g.downloads

-- all that the state says beside its downloads; "an undefined window selected"
unfoldable pub state_ok : Module → State → Bool
state_ok g s =
    settings_ok g s.settings
    && (windows_ok g s.windows
    && (cursor_ok g.columns g.rows s.base
    && (selectable s.windows s.selected
    && (hold_ok g s.windows s.selected s.hold && (half_ok g s.half && spans_ok g s.spans)))))

-- ---- the downloads (document 02, order 2)

-- f holds of each number below n
abbrev pub all_below : (ℕ → Bool) → ℕ → Bool
all_below f zero = true
all_below f (suc n) = all_below f n && f n

-- a free place is all zeros
unfoldable pub is_free : List ℕ → ℕ → Bool
is_free ds k = all_below (λ j. eqb (get_or ds (place_length * k + j) 0) 0) place_length

-- "a code .. below 20h, a width not 5 or 7"; where there are five columns the bytes of the other two are 0
unfoldable pub download_ok : List ℕ → ℕ → Bool
download_ok ds k =
    leb 0x20 (code_at ds k)
    && (eqb (width_at ds k) 7 || (eqb (width_at ds k) 5 && (eqb (column_at ds k 5) 0 && eqb (column_at ds k 6) 0)))

-- "a code twice": a place that is taken is the first of its code
unfoldable pub place_ok : List ℕ → ℕ → Bool
place_ok ds k = is_free ds k || (download_ok ds k && eqb (place ds (code_at ds k)) k)

unfoldable pub store_ok : List ℕ → Bool
store_ok ds = eqb (length ds) store_length && all_below (place_ok ds) 16

-- each code from the first to the one before `code` is stored
unfoldable pub all_stored : List ℕ → ℕ → ℕ → Bool
all_stored ds first code = all_below (λ k. is_stored ds (first + k)) (code - first)

-- "a half-read define of which a code read to its last byte is not stored while fewer than 16 are, or whose note of a drop says
-- other than that such a code is not stored": the codes before the one that it is at are read
unfoldable pub note_ok : List ℕ → Batch → Bool → Bool
note_ok ds d n = cond (all_stored ds d.first d.code) (not n) (n && is_full ds)

-- every half-read command
unfoldable pub half_note_ok : List ℕ → Half → Bool
half_note_ok ds Nothing = true
half_note_ok ds Escape = true
half_note_ok ds Unit = true
half_note_ok ds Group = true
half_note_ok ds Actions = true
half_note_ok ds Images = true
half_note_ok ds Characters = true
half_note_ok ds Windows = true
half_note_ok ds (Value key) = true
half_note_ok ds (Rest left) = true
half_note_ok ds DownloadA = true
half_note_ok ds DownloadFrom = true
half_note_ok ds (DownloadTo from) = true
half_note_ok ds (GlyphWidth d n) = note_ok ds d n
half_note_ok ds (GlyphByte d n c) = note_ok ds d n
half_note_ok ds (Low w) = true
half_note_ok ds (High w low) = true
half_note_ok ds (ImageKind width height) = true
half_note_ok ds (ImageData width height column row) = true
half_note_ok ds EnlargeX = true
half_note_ok ds (EnlargeY x) = true
half_note_ok ds SelectA = true
half_note_ok ds WindowA = true
half_note_ok ds (WindowB a) = true
half_note_ok ds EraseA = true
half_note_ok ds (EraseCode a) = true

-- "outside a hold"
unfoldable pub define_ok : List ℕ → Option Held → Half → Bool
define_ok ds None p = half_note_ok ds p
define_ok ds (Some h) p = true

-- the whole record: a state and its downloads
unfoldable pub accepted : Module → State → List ℕ → Bool
accepted g s ds = state_ok g s && (store_ok ds && define_ok ds s.hold s.half)
