-- What one command, and one byte, mean: the state afterwards, the outcome, and the strokes; and the downloads afterwards. No memory
-- is in it.
-- Document 01, "Outcomes in the stream" and the order of its answers; "Image". Assumes nothing.
use Rattle.std.specs.Prelude.{ℕ, ◌+◌, Bool, true, false, cond, not, ◌&&◌, ◌||◌, List, [], ◌∷◌, leb, ltb, eqb, Option, None, Some}
use Rattle.paper.specs.declared.Module.{Module}
use Rattle.paper.specs.declared.Style.{Style}
use Rattle.paper.specs.declared.View.{View}
use Rattle.paper.specs.declared.Key.{Key}
use Rattle.paper.specs.declared.Key.TheVariants.{Charset, Codes, Caret, Brightness, Reverse, Speed, Mixing, Width, Write, Switch}
use Rattle.paper.specs.declared.Batch.{Batch}
use Rattle.paper.specs.declared.Half.TheVariants.{Nothing, GlyphWidth}
use Rattle.paper.specs.declared.Command.{Command}
use Rattle.paper.specs.declared.Command.TheVariants.{Character, Back, Tab, LineFeed, Home, Clear, Return, Select, Initialise, Mode, Set, Enlarge, CursorSet, Define, Cancel, Uncarried, Erase}
use Rattle.paper.specs.declared.Reading.{Reading}
use Rattle.paper.specs.declared.Reading.TheVariants.{More, Whole, ImageByte, ImageEnd, GlyphEnd, Cancels, UnknownCode}
use Rattle.paper.specs.declared.Outcome.{Outcome}
use Rattle.paper.specs.declared.Outcome.TheVariants.{Unfinished, Carried, OutOfDomain, Cancelled, Unknown, NotCarried, WindowHeld, TooLarge, NotDefined, Dropped, NotStored}
use Rattle.paper.specs.declared.Held.{Held}
use Rattle.paper.specs.declared.State.{State}
use Rattle.paper.specs.Numbers.{is_carried}
use Rattle.paper.specs.Downloads.{is_stored, is_dropped, put_in, erased, all_erased, Faces, in_force}
use Rattle.paper.specs.Reading.{between, next_code, read_of}
use Rattle.paper.specs.Strokes.{Stroke}
use Rattle.paper.specs.Settings.{initial_state, with_settings, with_selected, with_half, with_spans, with_view, in_domain, in_enlargement, enlarged, with_setting, selectable, fits, new_window, defined, cancelled, cursor, cursor_of, at_cursor, in_mode, inside_window, view_of}
use Rattle.paper.specs.Cells.{cell_width, cell_height, too_large, erase_stroke, image_stroke}
use Rattle.paper.specs.Moves.{Moved, ht_of, character_of, back_of, line_feed_of, home_of, return_of, clear_of}

pub record Meaning : Type 0 where
  pub state : State
  pub outcome : Outcome
  pub strokes : List Stroke

abbrev pub means : State → Outcome → List Stroke → Meaning
means s o ss = record { state = s; outcome = o; strokes = ss }

-- ---- when a command is not carried out

-- "03h w (0 or 1; 2 and 3 answered 14; else 11)"
unfoldable pub not_carried_value : Key → ℕ → Bool
not_carried_value Charset n = false
not_carried_value Codes n = false
not_carried_value Caret n = false
not_carried_value Brightness n = false
not_carried_value Reverse n = false
not_carried_value Speed n = false
not_carried_value Mixing n = false
not_carried_value Width n = between 2 3 n
not_carried_value Write n = false
not_carried_value Switch n = false

-- whether a window is held
unfoldable pub is_held : Option Held → Bool
is_held None = false
is_held (Some h) = true

-- the write mode
unfoldable pub is_write : Key → Bool
is_write Charset = false
is_write Codes = false
is_write Caret = false
is_write Brightness = false
is_write Reverse = false
is_write Speed = false
is_write Mixing = false
is_write Width = false
is_write Write = true
is_write Switch = false

-- the cell's width c and height L
abbrev pub width_now : Module → State → ℕ
width_now g s = cell_width g s.settings.width s.settings.style

abbrev pub height_now : State → ℕ
height_now s = cell_height s.settings.style

-- the character cell exceeds the range
abbrev pub exceeds : Module → State → Bool
exceeds g s = too_large (view_of g s) (width_now g s) (height_now s)

-- What a command is asked before it is carried out, each under its number's words.
pub record Asked : Type 0 where
  -- 14: "not carried, read whole"
  pub not_carried : Bool
  -- 15: "While held, initialise, select, WINx, define or cancel, and write mode are answered 15"; by document 02, order 2, a
  -- download's erase too
  pub owners_only : Bool
  -- 11: "command read whole, a parameter out of its domain"
  pub out_of_domain : Bool
  -- 17: "select of an undefined window"
  pub not_defined : Bool
  -- 16: "a character, BS, HT or LF while the character cell exceeds the range"
  pub too_large : Bool
  -- 19: "Erasing an absent code" (document 02, order 2)
  pub not_stored : Bool

abbrev pub asked : Bool → Bool → Bool → Bool → Bool → Bool → Asked
asked n14 n15 n11 n17 n16 n19 =
    record {
      not_carried = n14;
      owners_only = n15;
      out_of_domain = n11;
      not_defined = n17;
      too_large = n16;
      not_stored = n19;
    }

-- "erase takes a of 1 and a code of 20h or more"
abbrev pub erasable : ℕ → ℕ → Bool
erasable a code = eqb a 1 && leb 0x20 code

-- A row for each command: 14, 15, 11, 17, 16, 19. What a row asks of the state is handed in: whether a place lies inside the current
-- window ("Cursor set ..; outside the window it is answered 11"), whether a window may be selected, whether the cell exceeds the
-- range, whether a code is stored.
unfoldable pub asks : Module → (ℕ → ℕ → Bool) → (ℕ → Bool) → Bool → (ℕ → Bool) → Command → Asked
asks g inside selects large stores (Character b) = asked false false false false large false
asks g inside selects large stores Back = asked false false false false large false
asks g inside selects large stores Tab = asked false false false false large false
asks g inside selects large stores LineFeed = asked false false false false large false
asks g inside selects large stores Home = asked false false false false false false
asks g inside selects large stores Clear = asked false false false false false false
asks g inside selects large stores Return = asked false false false false false false
asks g inside selects large stores (Select k) = asked false true (ltb 4 k) (not (selects k)) false false
asks g inside selects large stores Initialise = asked false true false false false false
asks g inside selects large stores (Mode n) = asked false false false false false false
asks g inside selects large stores (Set key n) = asked (not_carried_value key n) (is_write key) (not (in_domain g key n)) false false false
asks g inside selects large stores (Enlarge x y) = asked false false (not (in_enlargement x y)) false false false
asks g inside selects large stores (CursorSet x y) = asked false false (not (inside x y)) false false false
asks g inside selects large stores (Define a left top width height) = asked false true (not (fits g left top width height)) false false false
asks g inside selects large stores (Cancel a) = asked false true false false false false
asks g inside selects large stores Uncarried = asked true false false false false false
asks g inside selects large stores (Erase a code) = asked false true (not (erasable a code)) false false (not (stores code))

abbrev pub asked_of : Module → List ℕ → State → Command → Asked
asked_of g ds s c = asks g (inside_window g s) (selectable s.windows) (exceeds g s) (is_stored ds) c

-- ---- what a command that is carried out does

-- the cursor of the current window goes where a move takes it
abbrev pub moves : State → Moved → Meaning
moves s t = means (with_view s t.view) Carried t.strokes

-- nothing is written
abbrev pub becomes : State → Meaning
becomes s = means s Carried []

unfoldable pub carried_out : Module → Faces → State → Command → Meaning
carried_out g f s (Character b) =
    moves s (character_of g (in_force s.settings.switch f) s.settings.width s.settings.style b (view_of g s))
carried_out g f s Back = becomes (with_view s (back_of (view_of g s) (width_now g s) (height_now s)))
carried_out g f s Tab = moves s (ht_of g (view_of g s) (width_now g s) (height_now s))
carried_out g f s LineFeed = moves s (line_feed_of g (view_of g s) (height_now s))
carried_out g f s Home = becomes (with_view s (home_of (view_of g s)))
carried_out g f s Clear = moves s (clear_of (view_of g s))
carried_out g f s Return = becomes (with_view s (return_of (view_of g s)))
carried_out g f s (Select k) = becomes (with_selected s k)
carried_out g f s Initialise = means (with_spans (initial_state g) s.spans) Carried (erase_stroke g ∷ [])
carried_out g f s (Mode n) = becomes (in_mode s n)
carried_out g f s (Set key n) = becomes (with_settings s (with_setting s.settings key n))
carried_out g f s (Enlarge x y) = becomes (with_settings s (enlarged s.settings x y))
carried_out g f s (CursorSet x y) = becomes (at_cursor s (cursor x y (cursor_of s).mode))
carried_out g f s (Define a left top width height) = becomes (defined s a (new_window left top width height))
carried_out g f s (Cancel a) = becomes (cancelled s a)
carried_out g f s Uncarried = becomes s
carried_out g f s (Erase a code) = becomes s

-- ---- one command

-- "no dot, cursor, window or setting changes by a command so answered"
abbrev pub answers : State → Outcome → Meaning
answers s o = means s o []

-- "Order for one command: .. then 14, 15, 11, 17, 16." "Erasing an absent code: 19, tested after 15 and 11."
unfoldable pub command_of : Module → Faces → State → Command → Meaning
command_of g f s c =
    let a = asked_of g f.store s c in
    cond a.not_carried (answers s NotCarried)
    (cond (a.owners_only && is_held s.hold) (answers s WindowHeld)
    (cond a.out_of_domain (answers s OutOfDomain)
    (cond a.not_defined (answers s NotDefined)
    (cond a.too_large (answers s TooLarge)
    (cond a.not_stored (answers s NotStored) (carried_out g f s c))))))

-- ---- one byte

-- "stored when it arrives; those outside the range are consumed"
unfoldable pub image_strokes : View → Style → ℕ → ℕ → ℕ → List Stroke
image_strokes v y column row b =
    cond (ltb (v.x + column) v.width && ltb (v.y + row) v.height)
    (image_stroke y column row b v ∷ []) []

-- a define's note of a drop, n before the code that it is at came whole; while held nothing is stored, and nothing dropped
abbrev pub noted : List ℕ → Option Held → Batch → Bool → Bool
noted ds h d n = n || (not (is_held h) && is_dropped ds d.code)

-- "a define read to its end answers 18 exactly if one of its codes was dropped"; "While held, define .. answered 15"
abbrev pub define_answer : Option Held → Bool → Outcome
define_answer h dropped = cond (is_held h) WindowHeld (cond dropped Dropped Carried)

-- a download's last column has come: its define goes on with the next code, or is read to its end
unfoldable pub glyph_ends : List ℕ → State → Batch → Bool → Meaning
glyph_ends ds s d n =
    cond (ltb d.code d.last) (means (with_half s (GlyphWidth (next_code d) (noted ds s.hold d n))) Unfinished [])
    (means (with_half s Nothing) (define_answer s.hold (noted ds s.hold d n)) [])

-- "12 and 13 while reading"; "Each byte finishes at most one [command]."
unfoldable pub take_of : Module → Faces → State → Reading → Meaning
take_of g f s (More p) = means (with_half s p) Unfinished []
take_of g f s (Whole c) = command_of g f (with_half s Nothing) c
take_of g f s (ImageByte column row b next) = means (with_half s next) Unfinished (image_strokes (view_of g s) s.settings.style column row b)
take_of g f s (ImageEnd column row b) = means (with_half s Nothing) Carried (image_strokes (view_of g s) s.settings.style column row b)
take_of g f s (GlyphEnd d n c) = glyph_ends f.store s d n
take_of g f s Cancels = answers (with_half s Nothing) Cancelled
take_of g f s UnknownCode = answers (with_half s Nothing) Unknown

unfoldable pub byte_means : Module → Faces → State → ℕ → Meaning
byte_means g f s b = take_of g f s (read_of g s.half b)

-- ---- the downloads afterwards

-- a command that is carried out: "Initialise erases all."
unfoldable pub leaves : Command → List ℕ → List ℕ
leaves (Character b) ds = ds
leaves Back ds = ds
leaves Tab ds = ds
leaves LineFeed ds = ds
leaves Home ds = ds
leaves Clear ds = ds
leaves Return ds = ds
leaves (Select k) ds = ds
leaves Initialise ds = all_erased ds
leaves (Mode n) ds = ds
leaves (Set key n) ds = ds
leaves (Enlarge x y) ds = ds
leaves (CursorSet x y) ds = ds
leaves (Define a left top width height) ds = ds
leaves (Cancel a) ds = ds
leaves Uncarried ds = ds
leaves (Erase a code) ds = erased ds code

-- one command: any other answer leaves them alone
unfoldable pub command_store : Module → Faces → State → Command → List ℕ
command_store g f s c = cond (is_carried (command_of g f s c).outcome) (leaves c f.store) f.store

-- "Each is stored when its last byte arrives." "While held, define and erase .. store or erase nothing"
unfoldable pub take_store : Module → Faces → State → Reading → List ℕ
take_store g f s (More p) = f.store
take_store g f s (Whole c) = command_store g f (with_half s Nothing) c
take_store g f s (ImageByte column row b next) = f.store
take_store g f s (ImageEnd column row b) = f.store
take_store g f s (GlyphEnd d n c) = cond (is_held s.hold) f.store (put_in f.store d.code c)
take_store g f s Cancels = f.store
take_store g f s UnknownCode = f.store

unfoldable pub byte_store : Module → Faces → State → ℕ → List ℕ
byte_store g f s b = take_store g f s (read_of g s.half b)
