-- The parts of a state, read from bytes by their places. docs/RECORD.md has the layout. Assumes nothing.
use Rattle.std.specs.Prelude.{ℕ, ◌+◌, ◌*◌, cond, List, [], ◌∷◌, get_or, eqb, Option, None}
use Rattle.paper.specs.Settings.{hold_of}
use Rattle.paper.specs.declared.Settings.{Settings}
use Rattle.paper.specs.declared.Cursor.{Cursor}
use Rattle.paper.specs.declared.Window.{Window}
use Rattle.paper.specs.declared.Span.{Span}
use Rattle.paper.specs.declared.Columns.{Columns}
use Rattle.paper.specs.declared.Half.{Half}
use Rattle.paper.specs.declared.Held.{Held}
use Rattle.paper.specs.declared.State.{State}
use Rattle.record_half.specs.declared.Slots.{Slots}
use Rattle.record_half.specs.Slots.{slots}
use Rattle.record_bytes.specs.Bytes.{at_first, at_second, at_third, at_fourth, at_base, at_selected, at_upper, at_lower}

-- a 16-bit number is two bytes, low byte first
abbrev pub word_at : List ℕ → ℕ → ℕ
word_at l i = get_or l i 0 + 256 * get_or l (i + 1) 0

abbrev pub settings_at : List ℕ → ℕ → Settings
settings_at l i =
    record {
      charset = get_or l i 0;
      codes = get_or l (i + 1) 0;
      caret = get_or l (i + 2) 0;
      brightness = get_or l (i + 3) 0;
      speed = get_or l (i + 4) 0;
      width = get_or l (i + 5) 0;
      write = get_or l (i + 6) 0;
      switch = get_or l (i + 7) 0;
      style =
          record {
            reverse = get_or l (i + 8) 0;
            mixing = get_or l (i + 9) 0;
            across = get_or l (i + 10) 0;
            down = get_or l (i + 11) 0;
          };
    }

unfoldable pub cursor_at : List ℕ → ℕ → Cursor
cursor_at l i = record { x = word_at l i; y = word_at l (i + 2); mode = get_or l (i + 4) 0 }

unfoldable pub window_from : List ℕ → ℕ → Window
window_from l i =
    record {
      left = word_at l i;
      top = word_at l (i + 2);
      width = word_at l (i + 4);
      height = word_at l (i + 6);
      cursor = cursor_at l (i + 8);
    }

unfoldable pub span_at : List ℕ → ℕ → Span
span_at l i = record { first = word_at l i; end = word_at l (i + 2) }

unfoldable pub hold_at : List ℕ → ℕ → Option Held
hold_at l i = cond (eqb (get_or l i 0) 1) (hold_of (get_or l (i + 1) 0) (get_or l (i + 2) 0) (settings_at l (i + 3))) None

abbrev pub columns_at : List ℕ → ℕ → Columns
columns_at l i =
    record {
      width = get_or l i 0;
      come = get_or l (i + 1) 0;
      c0 = get_or l (i + 2) 0;
      c1 = get_or l (i + 3) 0;
      c2 = get_or l (i + 4) 0;
      c3 = get_or l (i + 5) 0;
      c4 = get_or l (i + 6) 0;
      c5 = get_or l (i + 7) 0;
      c6 = get_or l (i + 8) 0;
    }

unfoldable pub slots_at : List ℕ → ℕ → Slots
slots_at l i =
    slots (get_or l i 0) (get_or l (i + 1) 0) (get_or l (i + 2) 0) (get_or l (i + 3) 0) (get_or l (i + 4) 0)
    (word_at l (i + 5))
    (word_at l (i + 7))
    (word_at l (i + 9))
    (word_at l (i + 11))
    (columns_at l (i + 13))

-- the state of bytes, with this held and this half read
abbrev pub decoded_with : List ℕ → Option Held → Half → State
decoded_with l hold half =
    record {
      settings = settings_at l 0;
      windows = window_from l at_first ∷ window_from l at_second ∷ window_from l at_third ∷ window_from l at_fourth ∷ [];
      base = cursor_at l at_base;
      selected = get_or l at_selected 0;
      hold = hold;
      half = half;
      spans = span_at l at_upper ∷ span_at l at_lower ∷ [];
    }
