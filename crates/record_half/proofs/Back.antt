-- What was laid flat is read back. Assumes nothing.
use Prim.Native.Nat.{ℕ}
use mathlib.Core.Path.{◌≡◌, refl, ap}
use mathlib.Core.Bool.{Bool, true, false}
use Rattle.paper.specs.declared.Key.{Key}
use Rattle.paper.specs.declared.Key.TheVariants.{Charset, Codes, Caret, Brightness, Reverse, Speed, Mixing, Width, Write, Switch}
use Rattle.paper.specs.declared.Word.{Word}
use Rattle.paper.specs.declared.Word.TheVariants.{CursorX, CursorY, WindowLeft, WindowTop, WindowWidth, WindowHeight, ImageWidth, ImageHeight}
use Rattle.paper.specs.declared.Half.{Half}
use Rattle.paper.specs.declared.Half.TheVariants.{Nothing, Escape, Unit, Group, Actions, Images, Characters, Windows, Value, Rest, DownloadA, DownloadFrom, DownloadTo, GlyphWidth, GlyphByte, Low, High, ImageKind, ImageData, EnlargeX, EnlargeY, SelectA, WindowA, WindowB, EraseA, EraseCode}
use Rattle.record_half.specs.Slots.{key_number, key_of, word_slots, word_of, note_number, note_of, batch_slots, half_slots, half_of}

key_back : (k : Key) → key_of (key_number k) ≡ k
unfolding key_of key_number
key_back Charset = refl
key_back Codes = refl
key_back Caret = refl
key_back Brightness = refl
key_back Reverse = refl
key_back Speed = refl
key_back Mixing = refl
key_back Width = refl
key_back Write = refl
key_back Switch = refl

-- an awaited 16-bit parameter, before its low byte and after it
low_back : (w : Word) → half_of (word_slots 15 0 w) ≡ Low w
unfolding half_of word_slots word_of
low_back CursorX = refl
low_back (CursorY x) = refl
low_back (WindowLeft a) = refl
low_back (WindowTop a left) = refl
low_back (WindowWidth a left top) = refl
low_back (WindowHeight a left top width) = refl
low_back ImageWidth = refl
low_back (ImageHeight width) = refl

high_back : (w : Word) (low : ℕ) → half_of (word_slots 16 low w) ≡ High w low
unfolding half_of word_slots word_of
high_back CursorX low = refl
high_back (CursorY x) low = refl
high_back (WindowLeft a) low = refl
high_back (WindowTop a left) low = refl
high_back (WindowWidth a left top) low = refl
high_back (WindowHeight a left top width) low = refl
high_back ImageWidth low = refl
high_back (ImageHeight width) low = refl

-- a define's note of a drop
note_back : (dropped : Bool) → note_of (note_number dropped) ≡ dropped
unfolding note_number
note_back true = refl
note_back false = refl

pub half_back : (h : Half) → half_of (half_slots h) ≡ h
unfolding half_of half_slots batch_slots
half_back Nothing = refl
half_back Escape = refl
half_back Unit = refl
half_back Group = refl
half_back Actions = refl
half_back Images = refl
half_back Characters = refl
half_back Windows = refl
half_back (Value key) = ap Value (key_back key)
half_back (Rest left) = refl
half_back DownloadA = refl
half_back DownloadFrom = refl
half_back (DownloadTo from) = refl
half_back (GlyphWidth t dropped) = ap (GlyphWidth t) (note_back dropped)
half_back (GlyphByte t dropped columns) = ap (λ (n : Bool). GlyphByte t n columns) (note_back dropped)
half_back (Low word) = low_back word
half_back (High word low) = high_back word low
half_back (ImageKind width height) = refl
half_back (ImageData width height column row) = refl
half_back EnlargeX = refl
half_back (EnlargeY x) = refl
half_back SelectA = refl
half_back WindowA = refl
half_back (WindowB a) = refl
half_back EraseA = refl
half_back (EraseCode a) = refl
