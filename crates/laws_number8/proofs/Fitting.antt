-- The numbers of whatever half-read command bytes lead to fit the types that the paper declares for them. Assumes nothing.
use mathlib.Core.Path.{◌≡◌, refl}
use mathlib.Core.Bool.{Bool, true, false, cond, ◌||◌}
use mathlib.Core.List.{List}
use Prim.Native.Nat.{ℕ, ◌+◌, ◌<◌}
use native.Mathlib.Omega.{arith}
use lib.Dec.{leb, ltb, eqb}
use borrow.Author.Tests.{ltb-true}
use Rattle.paper.specs.declared.Module.{Module}
use Rattle.paper.specs.declared.Word.{Word}
use Rattle.paper.specs.declared.Word.TheVariants.{CursorX, CursorY, WindowLeft, WindowTop, WindowWidth, WindowHeight, ImageWidth, ImageHeight}
use Rattle.paper.specs.declared.Batch.{Batch}
use Rattle.paper.specs.declared.Columns.{Columns}
use Rattle.paper.specs.declared.Half.{Half}
use Rattle.paper.specs.declared.Half.TheVariants.{Nothing, Escape, Group, Actions, Images, Characters, Windows, Value, Rest, DownloadA, DownloadFrom, DownloadTo, GlyphWidth, GlyphByte, Low, High, ImageKind, ImageData, EnlargeX, EnlargeY, SelectA, WindowA, WindowB, EraseA, EraseCode}
use Rattle.paper.specs.declared.Reading.{Reading}
use Rattle.paper.specs.declared.Reading.TheVariants.{More, Whole, ImageByte, ImageEnd, GlyphEnd, Cancels, UnknownCode}
use Rattle.paper.specs.Reading.{between, more_if, read_move, read_first, read_escape, read_unit, read_group, read_actions, read_images, read_characters, read_windows, read_rest, batch, no_columns, with_column, read_column, read_window_b, word16, read_word, read_image, read_of}
use Rattle.laws_bytes.specs.Beginnings.{Begins, no_byte, one_more, one_stored, one_glyph, any_note, WordFits, BatchFits, ColumnsFit, Fits}

-- what is half read after a reading fits
abbrev Next : Reading → Type 0
Next (More p) = Fits p
Next (Whole c) = Unit {0}
Next (ImageByte column row b p) = Fits p
Next (ImageEnd column row b) = Unit {0}
Next (GlyphEnd d n c) = BatchFits d
Next Cancels = Unit {0}
Next UnknownCode = Unit {0}

record Fitting (r : Reading) : Type 0 where
  next : Next r

-- a reading that fits
fitting : {r : Reading} → Next r → Fitting r
fitting n = record { next = n }

-- picked by a test
by : (t : Bool) {x y : Reading} → (t ≡ true → Fitting x) → (t ≡ false → Fitting y) → Fitting (cond t x y)
by true f h = f refl
by false f h = h refl

-- whatever the test
either : (t : Bool) {x y : Reading} → Fitting x → Fitting y → Fitting (cond t x y)
either t f h = by t (λ _. f) (λ _. h)

-- read on, or cancelled
if_fits : (t : Bool) (p : Half) → Fits p → Fitting (more_if t p)
if_fits t p f = either t (fitting f) (fitting tt)

-- a byte of 0
zero-fits : 0 < 256
zero-fits = omega arith

module _ (g : Module) where
  -- a 16-bit parameter that has come whole
  word_fits : (w : Word) (n : ℕ) → WordFits w → n < 65536 → Fitting (read_word g w n)
  unfolding read_word
  word_fits CursorX n f l = fitting l
  word_fits (CursorY x) n f l = fitting tt
  word_fits (WindowLeft a) n f l = fitting (f, l)
  word_fits (WindowTop a left) n f l = fitting (f.0, f.1, l)
  word_fits (WindowWidth a left top) n f l = fitting (f.0, f.1, f.2, l)
  word_fits (WindowHeight a left top width) n f l = fitting tt
  word_fits ImageWidth n f l = if_fits (between 1 g.columns n) (Low (ImageHeight n)) l
  word_fits (ImageHeight width) n f l = if_fits (between 1 g.rows n) (ImageKind width n) (f, l)

  -- an image's byte
  image-fits : (width height column row b : ℕ) → Fits (ImageData width height column row)
      → Fitting (read_image width height column row b)
  unfolding read_image
  image-fits width height column row b f =
      let w = f.0 in
      let h = f.1 in
      let c = f.2 in
      by (ltb (row + 1) height)
      (λ e. let l = ltb-true (row + 1) height e in fitting (w, h, c, omega arith))
      (λ _. by (ltb (column + 1) width)
      (λ e. let l = ltb-true (column + 1) width e in fitting (w, h, omega arith, omega arith))
      (λ _. fitting tt))

  -- the first byte, and what opens a command's parameters
  first_fits : (b : ℕ) → Fitting (read_first g b)
  unfolding read_first read_move
  first_fits b =
      either (leb 0x20 b) (fitting tt)
      (either (between 0x08 0x0D b)
      (either (eqb b 0x08) (fitting tt)
      (either (eqb b 0x09) (fitting tt)
      (either (eqb b 0x0A) (fitting tt)
      (either (eqb b 0x0B) (fitting tt) (either (eqb b 0x0C) (fitting tt) (fitting tt))))))
      (either (between 0x10 0x14 b) (either g.shortcuts (fitting tt) (fitting tt))
      (either (eqb b 0x1B) (fitting tt) (either (eqb b 0x1F) (fitting tt) (fitting tt)))))

  escape_fits : (b : ℕ) → Fitting (read_escape g b)
  unfolding read_escape
  escape_fits b =
      either (eqb b 0x40) (fitting tt)
      (either (eqb b 0x52) (fitting tt)
      (either (eqb b 0x74) (fitting tt)
      (either (eqb b 0x25) (either g.downloads (fitting tt) (fitting tt))
      (either (eqb b 0x3F) (either g.downloads (fitting tt) (fitting tt))
      (either (eqb b 0x26) (either g.downloads (fitting tt) (fitting tt)) (fitting tt))))))

  unit_fits : (b : ℕ) → Fitting (read_unit b)
  unfolding read_unit
  unit_fits b =
      either (between 0x01 0x03 b) (fitting tt)
      (either (eqb b 0x24) (fitting tt)
      (either (eqb b 0x28) (fitting tt)
      (either (eqb b 0x43) (fitting tt)
      (either (eqb b 0x58) (fitting tt)
      (either (eqb b 0x72) (fitting tt)
      (either (eqb b 0x73) (fitting tt) (either (eqb b 0x77) (fitting tt) (fitting tt))))))))

  group_fits : (b : ℕ) → Fitting (read_group b)
  unfolding read_group
  group_fits b =
      either (eqb b 0x61) (fitting tt)
      (either (eqb b 0x66) (fitting tt) (either (eqb b 0x67) (fitting tt) (either (eqb b 0x77) (fitting tt) (fitting tt))))

  actions_fits : (b : ℕ) → Fitting (read_actions b)
  unfolding read_actions
  actions_fits b =
      either (eqb b 0x01) (fitting (omega arith))
      (either (eqb b 0x10) (fitting (omega arith))
      (either (eqb b 0x11) (fitting (omega arith)) (either (eqb b 0x40) (fitting (omega arith)) (fitting tt))))

  -- a column of a download
  column_fits : (d : Batch) (n : Bool) (c : Columns) (b : ℕ) → BatchFits d → ColumnsFit c → b < 256
      → Fitting (read_column d n (with_column c b))
  unfolding read_column with_column
  column_fits d n c b f h l =
      by (ltb (c.come + 1) c.width)
      (λ e.
      let m = ltb-true (c.come + 1) c.width e in
      let w = h.0 in
      fitting (f, (w, omega arith, here 0 h.2, here 1 h.3, here 2 h.4, here 3 h.5, here 4 h.6, here 5 h.7, here 6 h.8)))
      (λ _. fitting f)
    where
      either_fits : (t : Bool) {x : ℕ} → x < 256 → cond t b x < 256
      either_fits true k = l
      either_fits false k = k

      here : (i : ℕ) {x : ℕ} → x < 256 → cond (eqb c.come i) b x < 256
      here i k = either_fits (eqb c.come i) k

  -- every half-read command
  next_fits : (p : Half) (b : ℕ) → Fits p → b < 256 → Fitting (read_of g p b)
  unfolding read_of read_images read_characters read_windows read_rest read_window_b
  next_fits Nothing b f l = first_fits b
  next_fits Escape b f l = escape_fits b
  next_fits Half.Unit b f l = unit_fits b
  next_fits Group b f l = group_fits b
  next_fits Actions b f l = actions_fits b
  next_fits Images b f l = either (eqb b 0x11) (fitting tt) (fitting tt)
  next_fits Characters b f l =
      either (eqb b 0x03) (either g.widths (fitting tt) (fitting tt)) (either (eqb b 0x40) (fitting tt) (fitting tt))
  next_fits Windows b f l =
      either (eqb b 0x01) (fitting tt) (either (eqb b 0x02) (fitting tt) (either (eqb b 0x10) (fitting tt) (fitting tt)))
  next_fits (Value key) b f l = fitting tt
  next_fits (Rest left) b f l = either (leb left 1) (fitting tt) (fitting (omega arith))
  next_fits DownloadA b f l = if_fits (eqb b 1) DownloadFrom tt
  next_fits DownloadFrom b f l = if_fits (leb 0x20 b) (DownloadTo b) l
  next_fits (DownloadTo from) b f l = if_fits (leb from b) (GlyphWidth (batch from from b) false) (f, f, l)
  next_fits (GlyphWidth d n) b f l =
      if_fits (eqb b 5 || eqb b 7) (GlyphByte d n (no_columns b))
      (f, (l, zero-fits, zero-fits, zero-fits, zero-fits, zero-fits, zero-fits, zero-fits, zero-fits))
  next_fits (GlyphByte d n c) b f l = column_fits d n c b f.0 f.1 l
  next_fits (Low w) b f l = fitting (f, l)
  next_fits (High w low) b f l = let m = f.1 in word_fits w (word16 low b) f.0 (omega arith)
  next_fits (ImageKind width height) b f l = if_fits (eqb b 1) (ImageData width height 0 0) (f.0, f.1, omega arith, omega arith)
  next_fits (ImageData width height column row) b f l = image-fits width height column row b f
  next_fits EnlargeX b f l = fitting l
  next_fits (EnlargeY x) b f l = fitting tt
  next_fits SelectA b f l = fitting tt
  next_fits WindowA b f l = if_fits (between 1 4 b) (WindowB b) l
  next_fits (WindowB a) b f l = either (eqb b 0) (fitting tt) (if_fits (eqb b 1) (Low (WindowLeft a)) f)
  next_fits EraseA b f l = fitting l
  next_fits (EraseCode a) b f l = fitting tt

  -- what bytes lead to fits
  pub begins_fits : {bs : List ℕ} {p : Half} → Begins g bs p → Fits p
  begins_fits no_byte = tt
  begins_fits (one_more {p = p} b s l e) = (rw e at (next_fits p b (begins_fits s) l)).next
  begins_fits (one_stored {p = p} b column row s l e) = (rw e at (next_fits p b (begins_fits s) l)).next
  begins_fits (one_glyph {p = p} b d n c s l e m) =
      let f : BatchFits d = (rw e at (next_fits p b (begins_fits s) l)).next in
      let on = ltb-true d.code d.last m in
      let last = f.2 in
      (f.0, omega arith, f.2)
  begins_fits (any_note d dropped s) = begins_fits s
