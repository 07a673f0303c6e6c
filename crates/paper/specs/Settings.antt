-- Document 01, "Settings and windows": initial values, domains, windows, and the range in which a command works.
-- Assumes nothing.
use Rattle.std.specs.Prelude.{ℕ, ◌+◌, ◌-◌, Bool, true, cond, ◌&&◌, ◌||◌, List, get_or, set, replicate, leb, ltb, eqb, Option, None, Some}
use Rattle.paper.specs.declared.Module.{Module}
use Rattle.paper.specs.declared.Style.{Style}
use Rattle.paper.specs.declared.Settings.{Settings}
use Rattle.paper.specs.declared.Cursor.{Cursor}
use Rattle.paper.specs.declared.Window.{Window}
use Rattle.paper.specs.declared.Span.{Span}
use Rattle.paper.specs.declared.View.{View}
use Rattle.paper.specs.declared.Key.{Key}
use Rattle.paper.specs.declared.Key.TheVariants.{Charset, Codes, Caret, Brightness, Reverse, Speed, Mixing, Width, Write, Switch}
use Rattle.paper.specs.declared.Half.{Half}
use Rattle.paper.specs.declared.Half.TheVariants.{Nothing}
use Rattle.paper.specs.declared.Held.{Held}
use Rattle.paper.specs.declared.State.{State}
use Rattle.paper.specs.Reading.{between}
use Rattle.paper.specs.Strokes.{no_spans}

-- ---- initial values

-- "Initial: w = 1, enlargement 1 by 1, brightness 8, all other settings 0"
unfoldable pub initial_style : Style
initial_style = record { reverse = 0; mixing = 0; across = 1; down = 1 }

unfoldable pub initial_settings : Module → Settings
initial_settings g =
    record {
      charset = 0;
      codes = 0;
      caret = 0;
      brightness = g.brightness;
      speed = 0;
      width = 1;
      write = 0;
      switch = 0;
      style = initial_style;
    }

-- a cursor at the window's top left, in MD1
unfoldable pub top_left : Cursor
top_left = record { x = 0; y = 0; mode = 1 }

-- a user window that is not defined
abbrev pub no_window : Window
no_window = record { left = 0; top = 0; width = 0; height = 0; cursor = record { x = 0; y = 0; mode = 0 } }

-- "MD1, base window, cursor (0,0), no user window", with both spans empty, nothing held and nothing half read
unfoldable pub initial_state : Module → State
initial_state g =
    record {
      settings = initial_settings g;
      windows = replicate 4 no_window;
      base = top_left;
      selected = 0;
      hold = None;
      half = Nothing;
      spans = no_spans g;
    }

-- what is held, by its parts: window k, the window selected before it and the settings, which a release puts back
abbrev pub hold_of : ℕ → ℕ → Settings → Option Held
hold_of k back v = Some (record { window = k; selected = back; settings = v })

-- ---- a state with one part replaced

-- a state by its parts
abbrev pub make_state : Settings → List Window → Cursor → ℕ → Option Held → Half → List Span → State
make_state v ws base k h p ps =
    record { settings = v; windows = ws; base = base; selected = k; hold = h; half = p; spans = ps }

abbrev pub with_settings : State → Settings → State
with_settings s v = make_state v s.windows s.base s.selected s.hold s.half s.spans

abbrev pub with_windows : State → List Window → State
with_windows s ws = make_state s.settings ws s.base s.selected s.hold s.half s.spans

abbrev pub with_base : State → Cursor → State
with_base s k = make_state s.settings s.windows k s.selected s.hold s.half s.spans

abbrev pub with_selected : State → ℕ → State
with_selected s k = make_state s.settings s.windows s.base k s.hold s.half s.spans

abbrev pub with_hold : State → Option Held → State
with_hold s h = make_state s.settings s.windows s.base s.selected h s.half s.spans

abbrev pub with_half : State → Half → State
with_half s p = make_state s.settings s.windows s.base s.selected s.hold p s.spans

abbrev pub with_spans : State → List Span → State
with_spans s ps = make_state s.settings s.windows s.base s.selected s.hold s.half ps

-- ---- the settings that one byte gives

-- "52h n (0 to 13) and 74h n (0 to 5, 16 to 19); 43h n (0, 1); 58h n (1 to 8); 72h n (0, 1); 73h n (0 to 31); 77h n (0 to 3);
-- 03h w (0 or 1); 10h a (0, 1)"; "The switch takes 0 or 1"
unfoldable pub in_domain : Module → Key → ℕ → Bool
in_domain g Charset n = leb n 13
in_domain g Codes n = leb n 5 || (between 16 19 n || (g.tables && eqb n 0xFF))
in_domain g Caret n = leb n 1
in_domain g Brightness n = between g.dimmest g.brightest n || (g.finer && between 0x10 0x18 n)
in_domain g Reverse n = leb n 1
in_domain g Speed n = leb n 31
in_domain g Mixing n = leb n 3
in_domain g Width n = leb n 1
in_domain g Write n = leb n 1
in_domain g Switch n = leb n 1

-- "x 1 to 4, y 1 to 2"
unfoldable pub in_enlargement : ℕ → ℕ → Bool
in_enlargement x y = between 1 4 x && between 1 2 y

-- settings and a style by their parts
abbrev pub make_settings : ℕ → ℕ → ℕ → ℕ → ℕ → ℕ → ℕ → ℕ → Style → Settings
make_settings charset codes caret brightness speed width write switch y =
    record {
      charset = charset;
      codes = codes;
      caret = caret;
      brightness = brightness;
      speed = speed;
      width = width;
      write = write;
      switch = switch;
      style = y;
    }

abbrev pub make_style : ℕ → ℕ → ℕ → ℕ → Style
make_style reverse mixing across down = record { reverse = reverse; mixing = mixing; across = across; down = down }

abbrev pub with_style : Settings → Style → Settings
with_style v y = make_settings v.charset v.codes v.caret v.brightness v.speed v.width v.write v.switch y

abbrev pub enlarged : Settings → ℕ → ℕ → Settings
enlarged v x y = with_style v (make_style v.style.reverse v.style.mixing x y)

-- one setting changed, all others kept
unfoldable pub with_setting : Settings → Key → ℕ → Settings
with_setting v Charset n = make_settings n v.codes v.caret v.brightness v.speed v.width v.write v.switch v.style
with_setting v Codes n = make_settings v.charset n v.caret v.brightness v.speed v.width v.write v.switch v.style
with_setting v Caret n = make_settings v.charset v.codes n v.brightness v.speed v.width v.write v.switch v.style
with_setting v Brightness n = make_settings v.charset v.codes v.caret n v.speed v.width v.write v.switch v.style
with_setting v Reverse n = with_style v (make_style n v.style.mixing v.style.across v.style.down)
with_setting v Speed n = make_settings v.charset v.codes v.caret v.brightness n v.width v.write v.switch v.style
with_setting v Mixing n = with_style v (make_style v.style.reverse n v.style.across v.style.down)
with_setting v Width n = make_settings v.charset v.codes v.caret v.brightness v.speed n v.write v.switch v.style
with_setting v Write n = make_settings v.charset v.codes v.caret v.brightness v.speed v.width n v.switch v.style
with_setting v Switch n = make_settings v.charset v.codes v.caret v.brightness v.speed v.width v.write n v.style

-- ---- windows

-- user window k, 1 to 4
abbrev pub window_at : List Window → ℕ → Window
window_at ws k = get_or ws (k - 1) no_window

abbrev pub is_defined : Window → Bool
is_defined w = ltb 0 w.width

-- k names the base window or a defined user window
unfoldable pub selectable : List Window → ℕ → Bool
selectable ws k = cond (eqb k 0) true (leb k 4 && is_defined (window_at ws k))

-- "11 unless xS and yS are at least 1, xP + xS at most 512 and yP + yS at most 2"
unfoldable pub fits : Module → ℕ → ℕ → ℕ → ℕ → Bool
fits g left top width height =
    leb 1 width && (leb 1 height && (leb (left + width) g.columns && leb (top + height) g.rows))

-- "Defining puts its cursor at its top left and its mode at MD1"
abbrev pub new_window : ℕ → ℕ → ℕ → ℕ → Window
new_window left top width height = record { left = left; top = top; width = width; height = height; cursor = top_left }

-- "and replaces an older definition"
abbrev pub defined : State → ℕ → Window → State
defined s k w = with_windows s (set s.windows (k - 1) w)

-- "Cancelling the current one selects the base; cancelling an undefined one does nothing"
unfoldable pub cancelled : State → ℕ → State
cancelled s k = cond (eqb s.selected k) (with_selected (defined s k no_window) 0) (defined s k no_window)

-- ---- the current window, its cursor, and the range

abbrev pub with_cursor : Window → Cursor → Window
with_cursor w k = record { left = w.left; top = w.top; width = w.width; height = w.height; cursor = k }

-- "Each window has its own cursor and mode."
unfoldable pub cursor_of : State → Cursor
cursor_of s = cond (eqb s.selected 0) s.base (window_at s.windows s.selected).cursor

unfoldable pub at_cursor : State → Cursor → State
at_cursor s k =
    cond (eqb s.selected 0) (with_base s k)
    (defined s s.selected (with_cursor (window_at s.windows s.selected) k))

abbrev pub cursor : ℕ → ℕ → ℕ → Cursor
cursor x y mode = record { x = x; y = y; mode = mode }

-- "01h, 02h, 03h set MD1, MD2, MD3 of the current window"
unfoldable pub in_mode : State → ℕ → State
in_mode s mode = at_cursor s (cursor (cursor_of s).x (cursor_of s).y mode)

-- the current window's size, the base's being all of memory
unfoldable pub inside_window : Module → State → ℕ → ℕ → Bool
inside_window g s x y =
    cond (eqb s.selected 0) (ltb x g.columns && ltb y g.rows)
    (ltb x (window_at s.windows s.selected).width && ltb y (window_at s.windows s.selected).height)

-- "Below, x and y are counted from the range's top left, W and H are its size."
abbrev pub view : ℕ → ℕ → ℕ → ℕ → ℕ → ℕ → ℕ → View
view left top width height x y mode =
    record { left = left; top = top; width = width; height = height; x = x; y = y; mode = mode }

-- "Base in write mode 1: all. Base in write mode 0: columns 0 to 111 if the cursor is there, else 112 to 511."
unfoldable pub base_view : Module → ℕ → Cursor → View
base_view g write k =
    cond (eqb write 1) (view 0 0 g.columns g.rows k.x k.y k.mode)
    (cond (ltb k.x g.visible) (view 0 0 g.visible g.rows k.x k.y k.mode)
    (view g.visible 0 (g.columns - g.visible) g.rows (k.x - g.visible) k.y k.mode))

-- "User window: its rectangle."
abbrev pub window_view : Window → View
window_view w =
    view w.left w.top w.width w.height w.cursor.x w.cursor.y w.cursor.mode

-- "The range is the rectangle in which a command works."
unfoldable pub view_of : Module → State → View
view_of g s =
    cond (eqb s.selected 0) (base_view g s.settings.write s.base)
    (window_view (window_at s.windows s.selected))

-- the cursor that a view shows, counted from its window's top left, "the base's being (0,0) of memory in either mode"
unfoldable pub cursor_in : State → View → Cursor
cursor_in s v =
    cond (eqb s.selected 0) (cursor (v.left + v.x) (v.top + v.y) v.mode) (cursor v.x v.y v.mode)

abbrev pub with_view : State → View → State
with_view s v = at_cursor s (cursor_in s v)
