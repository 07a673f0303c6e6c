-- What is half read, laid flat: the number of its case, and its parameters. docs/RECORD.md has the same as a table.
-- Assumes nothing.
use Rattle.std.specs.Prelude.{ℕ, Bool, true, false, cond, eqb}
use Rattle.paper.specs.declared.Key.{Key}
use Rattle.paper.specs.declared.Key.TheVariants.{Charset, Codes, Caret, Brightness, Reverse, Speed, Mixing, Width, Write, Switch}
use Rattle.paper.specs.declared.Word.{Word}
use Rattle.paper.specs.declared.Word.TheVariants.{CursorX, CursorY, WindowLeft, WindowTop, WindowWidth, WindowHeight, ImageWidth, ImageHeight}
use Rattle.paper.specs.declared.Batch.{Batch}
use Rattle.paper.specs.declared.Columns.{Columns}
use Rattle.paper.specs.declared.Half.{Half}
use Rattle.paper.specs.declared.Half.TheVariants.{Nothing, Escape, Unit, Group, Actions, Images, Characters, Windows, Value, Rest, DownloadA, DownloadFrom, DownloadTo, GlyphWidth, GlyphByte, Low, High, ImageKind, ImageData, EnlargeX, EnlargeY, SelectA, WindowA, WindowB, EraseA, EraseCode}
use Rattle.paper.specs.Reading.{batch, no_columns}
use Rattle.record_half.specs.declared.Slots.{Slots}

abbrev pub slots : ℕ → ℕ → ℕ → ℕ → ℕ → ℕ → ℕ → ℕ → ℕ → Columns → Slots
slots n a b c d p q r s columns =
    record { case = n; a = a; b = b; c = c; d = d; p = p; q = q; r = r; s = s; columns = columns }

-- a case with 16-bit parameters; one with no parameters; one with bytes alone
abbrev pub words : ℕ → ℕ → ℕ → ℕ → ℕ → ℕ → ℕ → ℕ → Slots
words n a b c p q r s = slots n a b c 0 p q r s (no_columns 0)

abbrev pub bare : ℕ → Slots
bare n = words n 0 0 0 0 0 0 0

abbrev pub bytes : ℕ → ℕ → ℕ → ℕ → Slots
bytes n a b c = words n a b c 0 0 0 0

-- ---- the setting whose parameter is awaited

unfoldable pub key_number : Key → ℕ
key_number Charset = 0
key_number Codes = 1
key_number Caret = 2
key_number Brightness = 3
key_number Reverse = 4
key_number Speed = 5
key_number Mixing = 6
key_number Width = 7
key_number Write = 8
key_number Switch = 9

unfoldable pub key_of : ℕ → Key
key_of n =
    cond (eqb n 1) Codes
    (cond (eqb n 2) Caret
    (cond (eqb n 3) Brightness
    (cond (eqb n 4) Reverse
    (cond (eqb n 5) Speed
    (cond (eqb n 6) Mixing (cond (eqb n 7) Width (cond (eqb n 8) Write (cond (eqb n 9) Switch Charset))))))))

-- ---- the 16-bit parameter that is awaited

-- case n, with the parameter's number in a, the window in b, its low byte in c, the parameters before it in p, q, r
unfoldable pub word_slots : ℕ → ℕ → Word → Slots
word_slots n low CursorX = bytes n 0 0 low
word_slots n low (CursorY x) = words n 1 0 low x 0 0 0
word_slots n low (WindowLeft a) = bytes n 2 a low
word_slots n low (WindowTop a left) = words n 3 a low left 0 0 0
word_slots n low (WindowWidth a left top) = words n 4 a low left top 0 0
word_slots n low (WindowHeight a left top width) = words n 5 a low left top width 0
word_slots n low ImageWidth = bytes n 6 0 low
word_slots n low (ImageHeight width) = words n 7 0 low width 0 0 0

unfoldable pub word_of : ℕ → ℕ → ℕ → ℕ → ℕ → Word
word_of n a p q r =
    cond (eqb n 1) (CursorY p)
    (cond (eqb n 2) (WindowLeft a)
    (cond (eqb n 3) (WindowTop a p)
    (cond (eqb n 4) (WindowWidth a p q)
    (cond (eqb n 5) (WindowHeight a p q r) (cond (eqb n 6) ImageWidth (cond (eqb n 7) (ImageHeight p) CursorX))))))

-- ---- a define of downloads

-- its note of a drop as a byte
unfoldable pub note_number : Bool → ℕ
note_number true = 1
note_number false = 0

-- case n, with its first code in a, the one that it is at in b, its last in c, the note in d, and the columns
unfoldable pub batch_slots : ℕ → Batch → Bool → Columns → Slots
batch_slots n t dropped columns = slots n t.first t.code t.last (note_number dropped) 0 0 0 0 columns

-- a byte other than 1 is taken for no note, whose own number is another
abbrev pub note_of : ℕ → Bool
note_of n = eqb n 1

-- ---- what is half read

unfoldable pub half_slots : Half → Slots
half_slots Nothing = bare 0
half_slots Escape = bare 1
half_slots Unit = bare 2
half_slots Group = bare 3
half_slots Actions = bare 4
half_slots Images = bare 5
half_slots Characters = bare 6
half_slots Windows = bare 7
half_slots (Value key) = bytes 8 (key_number key) 0 0
half_slots (Rest left) = bytes 9 left 0 0
half_slots DownloadA = bare 10
half_slots DownloadFrom = bare 11
half_slots (DownloadTo from) = bytes 12 from 0 0
half_slots (GlyphWidth t dropped) = batch_slots 13 t dropped (no_columns 0)
half_slots (GlyphByte t dropped columns) = batch_slots 14 t dropped columns
half_slots (Low word) = word_slots 15 0 word
half_slots (High word low) = word_slots 16 low word
half_slots (ImageKind width height) = words 17 0 0 0 width height 0 0
half_slots (ImageData width height column row) = words 18 0 0 0 width height column row
half_slots EnlargeX = bare 19
half_slots (EnlargeY x) = bytes 20 x 0 0
half_slots SelectA = bare 21
half_slots WindowA = bare 22
half_slots (WindowB a) = bytes 23 a 0 0
half_slots EraseA = bare 24
half_slots (EraseCode a) = bytes 25 a 0 0

-- a number of no case is taken for nothing half read, whose own number is another
unfoldable pub half_of : Slots → Half
half_of t =
    cond (eqb t.case 1) Escape
    (cond (eqb t.case 2) Unit
    (cond (eqb t.case 3) Group
    (cond (eqb t.case 4) Actions
    (cond (eqb t.case 5) Images
    (cond (eqb t.case 6) Characters
    (cond (eqb t.case 7) Windows
    (cond (eqb t.case 8) (Value (key_of t.a))
    (cond (eqb t.case 9) (Rest t.a)
    (cond (eqb t.case 10) DownloadA
    (cond (eqb t.case 11) DownloadFrom
    (cond (eqb t.case 12) (DownloadTo t.a)
    (cond (eqb t.case 13) (GlyphWidth (batch t.a t.b t.c) (note_of t.d))
    (cond (eqb t.case 14) (GlyphByte (batch t.a t.b t.c) (note_of t.d) t.columns)
    (cond (eqb t.case 15) (Low (word_of t.a t.b t.p t.q t.r))
    (cond (eqb t.case 16) (High (word_of t.a t.b t.p t.q t.r) t.c)
    (cond (eqb t.case 17) (ImageKind t.p t.q)
    (cond (eqb t.case 18) (ImageData t.p t.q t.r t.s)
    (cond (eqb t.case 19) EnlargeX
    (cond (eqb t.case 20) (EnlargeY t.a)
    (cond (eqb t.case 21) SelectA
    (cond (eqb t.case 22) WindowA
    (cond (eqb t.case 23) (WindowB t.a)
    (cond (eqb t.case 24) EraseA (cond (eqb t.case 25) (EraseCode t.a) Nothing))))))))))))))))))))))))
