-- What a byte gives to a half-read define keeps its note of a drop right, and no other half-read command has one. Assumes nothing.
use mathlib.Core.Path.{◌≡◌, refl}
use mathlib.Core.Bool.{Bool, true, false, cond, ◌||◌}
use mathlib.Core.List.{List}
use Prim.Native.Nat.{ℕ, ◌+◌}
use lib.Dec.{leb, ltb, eqb}
use Rattle.paper.specs.declared.Module.{Module}
use Rattle.paper.specs.declared.Word.{Word}
use Rattle.paper.specs.declared.Word.TheVariants.{CursorX, CursorY, WindowLeft, WindowTop, WindowWidth, WindowHeight, ImageWidth, ImageHeight}
use Rattle.paper.specs.declared.Half.{Half}
use Rattle.paper.specs.declared.Half.TheVariants.{Nothing, Escape, Unit, Group, Actions, Images, Characters, Windows, Value, Rest, DownloadA, DownloadFrom, DownloadTo, GlyphWidth, GlyphByte, Low, High, ImageKind, ImageData, EnlargeX, EnlargeY, SelectA, WindowA, WindowB, EraseA, EraseCode}
use Rattle.paper.specs.declared.Reading.{Reading}
use Rattle.paper.specs.declared.Reading.TheVariants.{More, Whole, ImageByte, ImageEnd, GlyphEnd, Cancels, UnknownCode}
use Rattle.paper.specs.Reading.{between, with_column, read_move, read_first, read_escape, read_unit, read_group, read_actions, read_images, read_characters, read_windows, read_rest, read_column, read_window_b, word16, read_word, read_image, read_of}
use Rattle.paper.specs.Bounds.{note_ok, half_note_ok}
use Rattle.laws_downloads.proofs.Notes.{fresh_note}

-- the note of what is half read next, or of the define whose download has come whole
abbrev pub note_read : List ℕ → Reading → Bool
note_read ds (More p) = half_note_ok ds p
note_read ds (Whole c) = true
note_read ds (ImageByte column row b next) = half_note_ok ds next
note_read ds (ImageEnd column row b) = true
note_read ds (GlyphEnd d n c) = note_ok ds d n
note_read ds Cancels = true
note_read ds UnknownCode = true

module _ (g : Module) (ds : List ℕ) where
  -- a reading whose note is right
  record Right (r : Reading) : Type 0 where
    note : note_read ds r ≡ true

  -- from its test
  right : {r : Reading} → note_read ds r ≡ true → Right r
  right h = record { note = h }

  -- whichever a test picks
  either : (t : Bool) {x y : Reading} → Right x → Right y → Right (cond t x y)
  either true p q = p
  either false p q = q

  -- BS to CR
  move_note : (b : ℕ) → Right (read_move b)
  unfolding read_move
  move_note b =
      either (eqb b 0x08) (right refl)
      (either (eqb b 0x09) (right refl)
      (either (eqb b 0x0A) (right refl) (either (eqb b 0x0B) (right refl) (either (eqb b 0x0C) (right refl) (right refl)))))

  -- the first byte
  first_note : (b : ℕ) → Right (read_first g b)
  unfolding read_first half_note_ok
  first_note b =
      either (leb 0x20 b) (right refl)
      (either (between 0x08 0x0D b) (move_note b)
      (either (between 0x10 0x14 b) (either g.shortcuts (right refl) (right refl))
      (either (eqb b 0x1B) (right refl) (either (eqb b 0x1F) (right refl) (right refl)))))

  -- after 1Bh
  escape_note : (b : ℕ) → Right (read_escape g b)
  unfolding read_escape half_note_ok
  escape_note b =
      either (eqb b 0x40) (right refl)
      (either (eqb b 0x52) (right refl)
      (either (eqb b 0x74) (right refl)
      (either (eqb b 0x25) (either g.downloads (right refl) (right refl))
      (either (eqb b 0x3F) (either g.downloads (right refl) (right refl))
      (either (eqb b 0x26) (either g.downloads (right refl) (right refl)) (right refl))))))

  -- after 1Fh
  unit_note : (b : ℕ) → Right (read_unit b)
  unfolding read_unit half_note_ok
  unit_note b =
      either (between 0x01 0x03 b) (right refl)
      (either (eqb b 0x24) (right refl)
      (either (eqb b 0x28) (right refl)
      (either (eqb b 0x43) (right refl)
      (either (eqb b 0x58) (right refl)
      (either (eqb b 0x72) (right refl) (either (eqb b 0x73) (right refl) (either (eqb b 0x77) (right refl) (right refl))))))))

  -- after 1Fh 28h
  group_note : (b : ℕ) → Right (read_group b)
  unfolding read_group half_note_ok
  group_note b =
      either (eqb b 0x61) (right refl)
      (either (eqb b 0x66) (right refl) (either (eqb b 0x67) (right refl) (either (eqb b 0x77) (right refl) (right refl))))

  -- after 1Fh 28h 61h
  actions_note : (b : ℕ) → Right (read_actions b)
  unfolding read_actions half_note_ok
  actions_note b =
      either (eqb b 0x01) (right refl)
      (either (eqb b 0x10) (right refl) (either (eqb b 0x11) (right refl) (either (eqb b 0x40) (right refl) (right refl))))

  -- after 1Fh 28h 66h
  images_note : (b : ℕ) → Right (read_images b)
  unfolding read_images half_note_ok
  images_note b = either (eqb b 0x11) (right refl) (right refl)

  -- after 1Fh 28h 67h
  characters_note : (b : ℕ) → Right (read_characters g b)
  unfolding read_characters half_note_ok
  characters_note b =
      either (eqb b 0x03) (either g.widths (right refl) (right refl)) (either (eqb b 0x40) (right refl) (right refl))

  -- after 1Fh 28h 77h
  windows_note : (b : ℕ) → Right (read_windows b)
  unfolding read_windows half_note_ok
  windows_note b =
      either (eqb b 0x01) (right refl) (either (eqb b 0x02) (right refl) (either (eqb b 0x10) (right refl) (right refl)))

  -- a 16-bit parameter
  word_note : (w : Word) (n : ℕ) → Right (read_word g w n)
  unfolding read_word half_note_ok
  word_note CursorX n = right refl
  word_note (CursorY x) n = right refl
  word_note (WindowLeft a) n = right refl
  word_note (WindowTop a left) n = right refl
  word_note (WindowWidth a left top) n = right refl
  word_note (WindowHeight a left top width) n = right refl
  word_note ImageWidth n = either (between 1 g.columns n) (right refl) (right refl)
  word_note (ImageHeight width) n = either (between 1 g.rows n) (right refl) (right refl)

  -- an image's byte
  image_note : (width height column row b : ℕ) → Right (read_image width height column row b)
  unfolding read_image half_note_ok
  image_note width height column row b =
      either (ltb (row + 1) height) (right refl) (either (ltb (column + 1) width) (right refl) (right refl))

  -- every half-read command
  every_note : (p : Half) (b : ℕ) → half_note_ok ds p ≡ true → Right (read_of g p b)
  unfolding read_of read_rest read_column read_window_b half_note_ok
  every_note Nothing b h = first_note b
  every_note Escape b h = escape_note b
  every_note Unit b h = unit_note b
  every_note Group b h = group_note b
  every_note Actions b h = actions_note b
  every_note Images b h = images_note b
  every_note Characters b h = characters_note b
  every_note Windows b h = windows_note b
  every_note (Value key) b h = right refl
  every_note (Rest left) b h = either (leb left 1) (right refl) (right refl)
  every_note DownloadA b h = either (eqb b 1) (right refl) (right refl)
  every_note DownloadFrom b h = either (leb 0x20 b) (right refl) (right refl)
  every_note (DownloadTo from) b h = either (leb from b) (right (fresh_note ds from b)) (right refl)
  every_note (GlyphWidth d n) b h = either (eqb b 5 || eqb b 7) (right h) (right refl)
  every_note (GlyphByte d n c) b h = either (ltb (with_column c b).come (with_column c b).width) (right h) (right h)
  every_note (Low w) b h = right refl
  every_note (High w low) b h = word_note w (word16 low b)
  every_note (ImageKind width height) b h = either (eqb b 1) (right refl) (right refl)
  every_note (ImageData width height column row) b h = image_note width height column row b
  every_note EnlargeX b h = right refl
  every_note (EnlargeY x) b h = right refl
  every_note SelectA b h = right refl
  every_note WindowA b h = either (between 1 4 b) (right refl) (right refl)
  every_note (WindowB a) b h = either (eqb b 0) (right refl) (either (eqb b 1) (right refl) (right refl))
  every_note EraseA b h = right refl
  every_note (EraseCode a) b h = right refl

  -- THE LAW: a byte leaves the note of a half-read define right
  pub reads_note : (p : Half) (b : ℕ) → half_note_ok ds p ≡ true → note_read ds (read_of g p b) ≡ true
  reads_note p b h = (every_note p b h).note
