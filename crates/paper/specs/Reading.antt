-- Document 01, "How bytes are read": what a byte gives to a half-read command. Nothing of state or memory is in it.
-- Assumes nothing.
use Rattle.std.specs.Prelude.{ℕ, ◌+◌, ◌*◌, ◌-◌, Bool, true, false, cond, ◌&&◌, ◌||◌, leb, ltb, eqb}
use Rattle.paper.specs.declared.Module.{Module}
use Rattle.paper.specs.declared.Key.{Key}
use Rattle.paper.specs.declared.Key.TheVariants.{Charset, Codes, Caret, Brightness, Reverse, Speed, Mixing, Width, Write, Switch}
use Rattle.paper.specs.declared.Word.{Word}
use Rattle.paper.specs.declared.Word.TheVariants.{CursorX, CursorY, WindowLeft, WindowTop, WindowWidth, WindowHeight, ImageWidth, ImageHeight}
use Rattle.paper.specs.declared.Batch.{Batch}
use Rattle.paper.specs.declared.Columns.{Columns}
use Rattle.paper.specs.declared.Half.{Half}
use Rattle.paper.specs.declared.Half.TheVariants.{Nothing, Escape, Unit, Group, Actions, Images, Characters, Windows, Value, Rest, DownloadA, DownloadFrom, DownloadTo, GlyphWidth, GlyphByte, Low, High, ImageKind, ImageData, EnlargeX, EnlargeY, SelectA, WindowA, WindowB, EraseA, EraseCode}
use Rattle.paper.specs.declared.Command.TheVariants.{Character, Back, Tab, LineFeed, Home, Clear, Return, Select, Initialise, Mode, Set, Enlarge, CursorSet, Define, Cancel, Uncarried, Erase}
use Rattle.paper.specs.declared.Reading.{Reading}
use Rattle.paper.specs.declared.Reading.TheVariants.{More, Whole, ImageByte, ImageEnd, GlyphEnd, Cancels, UnknownCode}

-- lo ≤ n ≤ hi
abbrev pub between : ℕ → ℕ → ℕ → Bool
between lo hi n = leb lo n && leb n hi

-- read on, or "cancelled at a byte; that byte is consumed, the next is ordinary data"
abbrev pub more_if : Bool → Half → Reading
more_if ok p = cond ok (More p) Cancels

-- a code that not every module knows
abbrev pub only_if : Bool → Reading → Reading
only_if known r = cond known r UnknownCode

-- "08h to 0Dh are BS, HT, LF, HOM, CLR, CR"
unfoldable pub read_move : ℕ → Reading
read_move b =
    cond (eqb b 0x08) (Whole Back)
    (cond (eqb b 0x09) (Whole Tab)
    (cond (eqb b 0x0A) (Whole LineFeed)
    (cond (eqb b 0x0B) (Whole Home)
    (cond (eqb b 0x0C) (Whole Clear) (Whole Return)))))

-- "Bytes 20h to FFh are characters; 08h to 0Dh are BS, HT, LF, HOM, CLR, CR; 10h to 14h select window 0 to 4; 1Bh and 1Fh open
-- commands; every other byte below 20h is answered 13."
unfoldable pub read_first : Module → ℕ → Reading
read_first g b =
    cond (leb 0x20 b) (Whole (Character b))
    (cond (between 0x08 0x0D b) (read_move b)
    (cond (between 0x10 0x14 b) (only_if g.shortcuts (Whole (Select (b - 0x10))))
    (cond (eqb b 0x1B) (More Escape)
    (cond (eqb b 0x1F) (More Unit) UnknownCode))))

-- "1Bh: 40h initialise; 52h n and 74h n; 25h n, 3Fh a c; 26h a c1 c2 .."
unfoldable pub read_escape : Module → ℕ → Reading
read_escape g b =
    cond (eqb b 0x40) (Whole Initialise)
    (cond (eqb b 0x52) (More (Value Charset))
    (cond (eqb b 0x74) (More (Value Codes))
    (cond (eqb b 0x25) (only_if g.downloads (More (Value Switch)))
    (cond (eqb b 0x3F) (only_if g.downloads (More EraseA))
    (cond (eqb b 0x26) (only_if g.downloads (More DownloadA)) UnknownCode)))))

-- "1Fh: 01h, 02h, 03h set MD1, MD2, MD3; 24h x16 y16; 43h n; 58h n; 72h n; 73h n; 77h n", and 28h, which opens the groups below
unfoldable pub read_unit : ℕ → Reading
read_unit b =
    cond (between 0x01 0x03 b) (Whole (Mode b))
    (cond (eqb b 0x24) (More (Low CursorX))
    (cond (eqb b 0x28) (More Group)
    (cond (eqb b 0x43) (More (Value Caret))
    (cond (eqb b 0x58) (More (Value Brightness))
    (cond (eqb b 0x72) (More (Value Reverse))
    (cond (eqb b 0x73) (More (Value Speed))
    (cond (eqb b 0x77) (More (Value Mixing)) UnknownCode)))))))

-- "1Fh 28h 61h", "1Fh 28h 66h", "1Fh 28h 67h", "1Fh 28h 77h"
unfoldable pub read_group : ℕ → Reading
read_group b =
    cond (eqb b 0x61) (More Actions)
    (cond (eqb b 0x66) (More Images)
    (cond (eqb b 0x67) (More Characters)
    (cond (eqb b 0x77) (More Windows) UnknownCode)))

-- "1Fh 28h 61h: 01h with 1 parameter byte, 10h with 5, 11h with 4, 40h with 1: all answered 14 unchecked."
unfoldable pub read_actions : ℕ → Reading
read_actions b =
    cond (eqb b 0x01) (More (Rest 1))
    (cond (eqb b 0x10) (More (Rest 5))
    (cond (eqb b 0x11) (More (Rest 4))
    (cond (eqb b 0x40) (More (Rest 1)) UnknownCode)))

-- "1Fh 28h 66h 11h: image"
unfoldable pub read_images : ℕ → Reading
read_images b = cond (eqb b 0x11) (More (Low ImageWidth)) UnknownCode

-- "1Fh 28h 67h: 03h w; 40h x y"
unfoldable pub read_characters : Module → ℕ → Reading
read_characters g b =
    cond (eqb b 0x03) (only_if g.widths (More (Value Width))) (cond (eqb b 0x40) (More EnlargeX) UnknownCode)

-- whether the module knows the command that sets a setting
unfoldable pub is_known : Module → Key → Bool
is_known g Charset = true
is_known g Codes = true
is_known g Caret = true
is_known g Brightness = true
is_known g Reverse = true
is_known g Speed = true
is_known g Mixing = true
is_known g Width = g.widths
is_known g Write = true
is_known g Switch = g.downloads

-- "1Fh 28h 77h: 01h a select; 02h a b ..; 10h a write mode"
unfoldable pub read_windows : ℕ → Reading
read_windows b =
    cond (eqb b 0x01) (More SelectA)
    (cond (eqb b 0x02) (More WindowA) (cond (eqb b 0x10) (More (Value Write)) UnknownCode))

-- a command "not carried, read whole": it is whole with its last byte
unfoldable pub read_rest : ℕ → Reading
read_rest left = cond (leb left 1) (Whole Uncarried) (More (Rest (left - 1)))

-- ---- a define of downloads: "26h a c1 c2 then, for each code c1 to c2, a width x and x bytes: cancelled at a other than 1, c1 below
-- 20h, c2 below c1, x other than 5 or 7"

abbrev pub batch : ℕ → ℕ → ℕ → Batch
batch first code last = record { first = first; code = code; last = last }

-- the next code of a define
abbrev pub next_code : Batch → Batch
next_code d = batch d.first (d.code + 1) d.last

-- x columns, of which none has come
abbrev pub no_columns : ℕ → Columns
no_columns x = record { width = x; come = 0; c0 = 0; c1 = 0; c2 = 0; c3 = 0; c4 = 0; c5 = 0; c6 = 0 }

-- one column more
unfoldable pub with_column : Columns → ℕ → Columns
with_column c b =
    record {
      width = c.width;
      come = c.come + 1;
      c0 = cond (eqb c.come 0) b c.c0;
      c1 = cond (eqb c.come 1) b c.c1;
      c2 = cond (eqb c.come 2) b c.c2;
      c3 = cond (eqb c.come 3) b c.c3;
      c4 = cond (eqb c.come 4) b c.c4;
      c5 = cond (eqb c.come 5) b c.c5;
      c6 = cond (eqb c.come 6) b c.c6;
    }

-- the columns come whole with the last of them; reading hands on the note of a drop n as it is
unfoldable pub read_column : Batch → Bool → Columns → Reading
read_column d n c = cond (ltb c.come c.width) (More (GlyphByte d n c)) (GlyphEnd d n c)

-- "In 02h, a outside 1 to 4 or b outside 0 to 1 cancels at that byte. When b is 1 all is read"
unfoldable pub read_window_b : ℕ → ℕ → Reading
read_window_b a b = cond (eqb b 0) (Whole (Cancel a)) (more_if (eqb b 1) (Low (WindowLeft a)))

-- "A 16-bit parameter is low byte first."
abbrev pub word16 : ℕ → ℕ → ℕ
word16 low high = low + 256 * high

-- a 16-bit parameter n that has come whole; "x size 1 to 512, y size 1 to 2": "A bad size cancels when its high byte arrives"
unfoldable pub read_word : Module → Word → ℕ → Reading
read_word g CursorX n = More (Low (CursorY n))
read_word g (CursorY x) n = Whole (CursorSet x n)
read_word g (WindowLeft a) n = More (Low (WindowTop a n))
read_word g (WindowTop a left) n = More (Low (WindowWidth a left n))
read_word g (WindowWidth a left top) n = More (Low (WindowHeight a left top n))
read_word g (WindowHeight a left top width) n = Whole (Define a left top width n)
read_word g ImageWidth n = more_if (between 1 g.columns n) (Low (ImageHeight n))
read_word g (ImageHeight width) n = more_if (between 1 g.rows n) (ImageKind width n)

-- "then x·y bytes, column by column, top first"
unfoldable pub read_image : ℕ → ℕ → ℕ → ℕ → ℕ → Reading
read_image width height column row b =
    cond (ltb (row + 1) height) (ImageByte column row b (ImageData width height column (row + 1)))
    (cond (ltb (column + 1) width) (ImageByte column row b (ImageData width height (column + 1) 0))
    (ImageEnd column row b))

-- every half-read command
unfoldable pub read_of : Module → Half → ℕ → Reading
read_of g Nothing b = read_first g b
read_of g Escape b = read_escape g b
read_of g Unit b = read_unit b
read_of g Group b = read_group b
read_of g Actions b = read_actions b
read_of g Images b = read_images b
read_of g Characters b = read_characters g b
read_of g Windows b = read_windows b
read_of g (Value key) b = Whole (Set key b)
read_of g (Rest left) b = read_rest left
read_of g DownloadA b = more_if (eqb b 1) DownloadFrom
read_of g DownloadFrom b = more_if (leb 0x20 b) (DownloadTo b)
read_of g (DownloadTo from) b = more_if (leb from b) (GlyphWidth (batch from from b) false)
read_of g (GlyphWidth d n) b = more_if (eqb b 5 || eqb b 7) (GlyphByte d n (no_columns b))
read_of g (GlyphByte d n c) b = read_column d n (with_column c b)
read_of g (Low w) b = More (High w b)
read_of g (High w low) b = read_word g w (word16 low b)
read_of g (ImageKind width height) b = more_if (eqb b 1) (ImageData width height 0 0)
read_of g (ImageData width height column row) b = read_image width height column row b
read_of g EnlargeX b = More (EnlargeY b)
read_of g (EnlargeY x) b = Whole (Enlarge x b)
read_of g SelectA b = Whole (Select b)
read_of g WindowA b = more_if (between 1 4 b) (WindowB b)
read_of g (WindowB a) b = read_window_b a b
read_of g EraseA b = More (EraseCode b)
read_of g (EraseCode a) b = Whole (Erase a b)
