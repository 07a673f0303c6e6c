-- The half-read commands that the paper accepts are those that some bytes lead to. Assumes nothing.
use mathlib.Core.Path.{◌≡◌, refl, sym, ap, ◌∙◌, subst}
use mathlib.Core.Bool.{Bool, true, false}
use mathlib.Core.List.{List, [], ◌∷◌, ◌++◌}
use mathlib.Core.Logic.{⊎_elim}
use Prim.Native.Nat.{ℕ, zero, suc, ◌+◌, ◌-◌, ◌/◌, ◌%◌, ◌<◌, ◌≤◌}
use native.Mathlib.Nat.{eq-or-lt_of_le}
use native.Mathlib.Numerals.{add-one}
use native.Mathlib.Omega.{arith}
use lib.Dec.{leb, ltb}
use borrow.Author.Tests.{leb-true, le-leb, lt-leb, lt-ltb, le-ltb}
use Rattle.paper.specs.declared.Module.{Module}
use Rattle.paper.specs.declared.Key.{Key}
use Rattle.paper.specs.declared.Key.TheVariants.{Charset, Codes, Caret, Brightness, Reverse, Speed, Mixing, Width, Write, Switch}
use Rattle.paper.specs.declared.Word.{Word}
use Rattle.paper.specs.declared.Word.TheVariants.{CursorX, CursorY, WindowLeft, WindowTop, WindowWidth, WindowHeight, ImageWidth, ImageHeight}
use Rattle.paper.specs.declared.Batch.{Batch}
use Rattle.paper.specs.declared.Columns.{Columns}
use Rattle.paper.specs.declared.Half.{Half}
use Rattle.paper.specs.declared.Half.TheVariants.{Nothing, Escape, Unit, Group, Actions, Images, Characters, Windows, Value, Rest, DownloadA, DownloadFrom, DownloadTo, GlyphWidth, GlyphByte, Low, High, ImageKind, ImageData, EnlargeX, EnlargeY, SelectA, WindowA, WindowB, EraseA, EraseCode}
use Rattle.paper.specs.declared.Reading.TheVariants.{More, ImageByte, GlyphEnd}
use Rattle.paper.specs.Reading.{between, read_first, read_escape, read_unit, read_group, read_actions, read_images, read_characters, is_known, read_windows, read_rest, batch, next_code, with_column, read_column, read_window_b, word16, read_word, read_image, read_of}
use Rattle.paper.specs.Bounds.{word_ok, batch_ok, rest_blank, columns_ok, half_ok}
use Rattle.laws_bytes.specs.Readings.{reading_ok}
use Rattle.laws_bytes.specs.Beginnings.{Begins, no_byte, one_more, one_stored, one_glyph, any_note, Beginning, WordFits, BatchFits, ColumnsFit, Fits}
use Rattle.laws_bytes.proofs.Tests.{both_of, between_facts, between_true}
use Rattle.laws_bytes.proofs.Columns.{columns_facts, column_of, first_of, first_more, first_all}
use Rattle.laws_bytes.proofs.Readings.{image_facts, next_ok, reads_ok, image_byte_facts, glyph_end_facts}

module _ (g : Module) where
  -- what bytes lead to is accepted
  pub begins_ok : {bs : List ℕ} {p : Half} → Begins g bs p → half_ok g p ≡ true
  unfolding half_ok batch_ok reading_ok
  begins_ok no_byte = refl
  begins_ok (one_more {p = p} b s l e) = rw e at (reads_ok g p b (begins_ok s))
  begins_ok (one_stored {p = p} {q = q} b column row s l e) =
      (image_byte_facts g column row b q (rw e at (reads_ok g p b (begins_ok s)))).2
  begins_ok (one_glyph {p = p} b d n c s l e m) =
      next_ok g d n n (glyph_end_facts g d n c (rw e at (reads_ok g p b (begins_ok s)))).0 m
  begins_ok (any_note d dropped s) = begins_ok s

  -- ---- bytes, one after the other

  -- before the first byte nothing is half read
  nothing : Beginning g Nothing
  nothing = record { bytes = []; begins = no_byte }

  -- one byte more
  more : {p q : Half} (b : ℕ) → b < 256 → read_of g p b ≡ More q → Beginning g p → Beginning g q
  more b l e s = record { bytes = s.bytes ++ (b ∷ []); begins = one_more b s.begins l e }

  -- one byte of an image more
  stored : {p q : Half} (column row : ℕ) → read_of g p 0 ≡ ImageByte column row 0 q → Beginning g p → Beginning g q
  stored column row e s = record { bytes = s.bytes ++ (0 ∷ []); begins = one_stored 0 column row s.begins (omega arith) e }

  -- a download's last column more, another code following
  glyph : {p : Half} (d : Batch) (n : Bool) (c : Columns) → read_of g p 0 ≡ GlyphEnd d n c → ltb d.code d.last ≡ true
      → Beginning g p → Beginning g (GlyphWidth (next_code d) n)
  glyph d n c e m s = record { bytes = s.bytes ++ (0 ∷ []); begins = one_glyph 0 d n c s.begins (omega arith) e m }

  -- whether a code was dropped is no matter
  again : {n : Bool} (d : Batch) (dropped : Bool) → Beginning g (GlyphWidth d n) → Beginning g (GlyphWidth d dropped)
  again d dropped s = record { bytes = s.bytes; begins = any_note d dropped s.begins }

  -- ---- the openers

  -- 1Bh
  escape : Beginning g Escape
  unfolding read_of read_first
  escape = more 0x1B (omega arith) refl nothing

  -- 1Fh
  unit : Beginning g Unit
  unfolding read_of read_first
  unit = more 0x1F (omega arith) refl nothing

  -- 1Fh 28h
  group : Beginning g Group
  unfolding read_of read_unit
  group = more 0x28 (omega arith) refl unit

  -- 1Fh 28h 61h
  actions : Beginning g Actions
  unfolding read_of read_group
  actions = more 0x61 (omega arith) refl group

  -- 1Fh 28h 66h
  pictures : Beginning g Images
  unfolding read_of read_group
  pictures = more 0x66 (omega arith) refl group

  -- 1Fh 28h 67h
  characters : Beginning g Characters
  unfolding read_of read_group
  characters = more 0x67 (omega arith) refl group

  -- 1Fh 28h 77h
  windows : Beginning g Windows
  unfolding read_of read_group
  windows = more 0x77 (omega arith) refl group

  -- the parameter of a setting
  value : (key : Key) → is_known g key ≡ true → Beginning g (Value key)
  unfolding read_of read_escape read_unit read_characters read_windows is_known
  value Charset h = more 0x52 (omega arith) refl escape
  value Codes h = more 0x74 (omega arith) refl escape
  value Caret h = more 0x43 (omega arith) refl unit
  value Brightness h = more 0x58 (omega arith) refl unit
  value Reverse h = more 0x72 (omega arith) refl unit
  value Speed h = more 0x73 (omega arith) refl unit
  value Mixing h = more 0x77 (omega arith) refl unit
  value Width h = more 0x03 (omega arith) (rw h) characters
  value Write h = more 0x10 (omega arith) refl windows
  value Switch h = more 0x25 (omega arith) (rw h) escape

  -- the rest of a command that is not carried
  rest : (left : ℕ) → between 1 5 left ≡ true → Beginning g (Rest left)
  unfolding read_of read_actions read_rest
  rest left h = let f = between_facts 1 5 left h in fewer 5 left f.0 f.1 (more 0x10 (omega arith) refl actions) where
    -- fewer and fewer of its bytes are left
    fewer : (k n : ℕ) → 1 ≤ n → n ≤ k → Beginning g (Rest k) → Beginning g (Rest n)
    fewer zero n l h s = absurd (omega arith)
    fewer (suc zero) n l h s = subst (λ (i : ℕ). Beginning g (Rest i)) (omega arith) s
    fewer (suc (suc k)) n l h s =
        ⊎_elim (λ e. subst (λ (i : ℕ). Beginning g (Rest i)) (sym e) s)
        (λ m.
        fewer (suc k) n l (omega arith)
        (more 0 (omega arith) (rw (lt-leb (suc (suc k)) 1 (omega arith)) (ap (λ (i : ℕ). More (Rest i)) (omega arith))) s))
        (eq-or-lt_of_le h)

  -- ---- a define of downloads

  -- the define's a
  define_a : g.downloads ≡ true → Beginning g DownloadA
  unfolding read_of read_escape
  define_a d = more 0x26 (omega arith) (rw d) escape

  -- its c1
  define_from : g.downloads ≡ true → Beginning g DownloadFrom
  unfolding read_of
  define_from d = more 1 (omega arith) refl (define_a d)

  -- its c2
  define-to : g.downloads ≡ true → (from : ℕ) → leb 0x20 from ≡ true → from < 256 → Beginning g (DownloadTo from)
  unfolding read_of
  define-to d from h l = more from l (rw h) (define_from d)

  -- a download's columns, one after the other
  glyph_columns : (d : Batch) (n : Bool) (c : Columns) → columns_ok c ≡ true → ColumnsFit c → Beginning g (GlyphWidth d n)
      → Beginning g (GlyphByte d n c)
  unfolding read_of read_column with_column
  glyph_columns d n c h f s =
      let e = columns_facts c h in
      subst (λ (k : Columns). Beginning g (GlyphByte d n k)) (first_all c e.2) (come c.come (omega arith)) where
        -- those are bytes
        byte : (n : ℕ) → column_of c n < 256
        byte zero = f.2
        byte (suc zero) = f.3
        byte (suc (suc zero)) = f.4
        byte (suc (suc (suc zero))) = f.5
        byte (suc (suc (suc (suc zero)))) = f.6
        byte (suc (suc (suc (suc (suc zero))))) = f.7
        byte (suc (suc (suc (suc (suc (suc zero)))))) = f.8
        byte (suc (suc (suc (suc (suc (suc (suc n))))))) = omega arith

        -- the first k of them
        come : (k : ℕ) → k < c.width → Beginning g (GlyphByte d n (first_of c k))
        come zero l = more c.width f.0 (rw (columns_facts c h).0) s
        come (suc k) l =
            more (column_of c k) (byte k)
            (rw (lt-ltb (k + 1) c.width (omega arith))
            (ap (λ (x : Columns). More (GlyphByte d n x)) (first_more c k ∙ ap (first_of c) (add-one k))))
            (come k (omega arith))

  -- five columns of zeros, but the last of them
  abbrev five_zeros : Columns
  five_zeros = record { width = 5; come = 4; c0 = 0; c1 = 0; c2 = 0; c3 = 0; c4 = 0; c5 = 0; c6 = 0 }

  -- the width of the code that n codes of its define stand before, no drop being noted
  codes : g.downloads ≡ true → (n : ℕ) (d : Batch) → d.first + n ≡ d.code → d.code ≤ d.last → leb 0x20 d.first ≡ true
      → BatchFits d → Beginning g (GlyphWidth d false)
  unfolding read_of read_column with_column columns_ok rest_blank
  codes k zero d e o h f =
      let first : d.first ≡ d.code = omega arith in
      subst (λ (i : ℕ). Beginning g (GlyphWidth (batch d.first i d.last) false)) first
      (more d.last f.2 (rw (le-leb d.first d.last (omega arith))) (define-to k d.first h f.0))
  codes k (suc n) d e o h f =
      let before = batch d.first (d.first + n) d.last in
      let after : d.first + n + 1 ≡ d.code = omega arith in
      subst (λ (i : ℕ). Beginning g (GlyphWidth (batch d.first i d.last) false)) after
      (glyph before false (with_column five_zeros 0) refl (lt-ltb (d.first + n) d.last (omega arith))
      (glyph_columns before false five_zeros refl (omega arith) (codes k n before refl (omega arith) h (f.0, omega arith, f.2))))

  -- any accepted one, with any note
  glyph_width : g.downloads ≡ true → (d : Batch) (n : Bool) → batch_ok d ≡ true → BatchFits d → Beginning g (GlyphWidth d n)
  unfolding batch_ok
  glyph_width k d n h f =
      let o = both_of (leb 0x20 d.first) _ h in
      let c = both_of (leb d.first d.code) (leb d.code d.last) o.1 in
      let l = leb-true d.first d.code c.0 in
      again d n (codes k (d.code - d.first) d (omega arith) (leb-true d.code d.last c.1) o.0 f)

  -- a download to be erased
  erase_a : g.downloads ≡ true → Beginning g EraseA
  unfolding read_of read_escape
  erase_a d = more 0x3F (omega arith) (rw d) escape

  -- ---- 16-bit parameters

  -- a parameter n in two bytes, low byte first
  word : (w : Word) {q : Half} (n : ℕ) → n < 65536 → read_word g w n ≡ More q → Beginning g (Low w) → Beginning g q
  unfolding read_of
  word w n l e s =
      let whole : word16 (n % 256) (n / 256) ≡ n = omega arith in
      more (n / 256) (omega arith) (ap (read_word g w) whole ∙ e) (more (n % 256) (omega arith) refl s)

  -- the cursor's first
  cursor_x : Beginning g (Low CursorX)
  unfolding read_of read_unit
  cursor_x = more 0x24 (omega arith) refl unit

  -- a window's number
  window_a : Beginning g WindowA
  unfolding read_of read_windows
  window_a = more 0x02 (omega arith) refl windows

  -- what follows it
  module _ (a : ℕ) (h : between 1 4 a ≡ true) (l : a < 256) where
    -- define or cancel
    window_b : Beginning g (WindowB a)
    unfolding read_of
    window_b = more a l (rw h) window_a

    -- define, the first of four parameters
    window_left : Beginning g (Low (WindowLeft a))
    unfolding read_of read_window_b
    window_left = more 1 (omega arith) refl window_b

    -- the second
    window_top : (left : ℕ) → left < 65536 → Beginning g (Low (WindowTop a left))
    unfolding read_word
    window_top left m = word (WindowLeft a) left m refl window_left

    -- the third
    window_width : (left top : ℕ) → left < 65536 → top < 65536 → Beginning g (Low (WindowWidth a left top))
    unfolding read_word
    window_width left top m n = word (WindowTop a left) top n refl (window_top left m)

    -- the fourth
    window_height : (left top width : ℕ) → left < 65536 → top < 65536 → width < 65536
        → Beginning g (Low (WindowHeight a left top width))
    unfolding read_word
    window_height left top width m n o = word (WindowWidth a left top) width o refl (window_width left top m n)

  -- an image's width
  image_width : Beginning g (Low ImageWidth)
  unfolding read_of read_images
  image_width = more 0x11 (omega arith) refl pictures

  -- its height
  image_height : (width : ℕ) → between 1 g.columns width ≡ true → width < 65536 → Beginning g (Low (ImageHeight width))
  unfolding read_word
  image_height width h l = word ImageWidth width l (rw h) image_width

  -- every awaited parameter
  low : (w : Word) → word_ok g w ≡ true → WordFits w → Beginning g (Low w)
  unfolding word_ok read_word
  low CursorX h f = cursor_x
  low (CursorY x) h f = word CursorX x f refl cursor_x
  low (WindowLeft a) h f = window_left a h f
  low (WindowTop a left) h f = window_top a h f.0 left f.1
  low (WindowWidth a left top) h f = window_width a h f.0 left top f.1 f.2
  low (WindowHeight a left top width) h f = window_height a h f.0 left top width f.1 f.2 f.3
  low ImageWidth h f = image_width
  low (ImageHeight width) h f = image_height width h f

  -- ---- images

  -- the image's g
  image_kind : (width height : ℕ) → half_ok g (ImageKind width height) ≡ true → width < 65536 → height < 65536
      → Beginning g (ImageKind width height)
  unfolding half_ok read_word
  image_kind width height h l m =
      let f = both_of (between 1 g.columns width) (between 1 g.rows height) h in
      word (ImageHeight width) height m (rw f.1) (image_height width f.0 l)

  module _ (width height : ℕ) where
    -- down a column of an image
    down : (column row : ℕ) → row < height → Beginning g (ImageData width height column 0)
        → Beginning g (ImageData width height column row)
    unfolding read_of read_image
    down column zero l s = s
    down column (suc row) l s =
        stored column row
        (rw (lt-ltb (row + 1) height (omega arith))
        (ap (λ (n : ℕ). ImageByte column row 0 (ImageData width height column n)) (add-one row)))
        (down column row (omega arith) s)

    -- along an image's top row
    along : (column : ℕ) → column < width → 1 ≤ height → Beginning g (ImageData width height 0 0)
        → Beginning g (ImageData width height column 0)
    unfolding read_of read_image
    along zero l m s = s
    along (suc column) l m s =
        stored column (height - 1)
        (rw (le-ltb (height - 1 + 1) height (omega arith), lt-ltb (column + 1) width (omega arith))
        (ap (λ (n : ℕ). ImageByte column (height - 1) 0 (ImageData width height n 0)) (add-one column)))
        (down column (height - 1) (omega arith) (along column (omega arith) m s))

    -- any place of an image
    image : (column row : ℕ) → half_ok g (ImageData width height column row) ≡ true → width < 65536 → height < 65536
        → Beginning g (ImageData width height column row)
    unfolding read_of half_ok
    image column row h l m =
        let f = image_facts g width height column row h in
        let w = between_true 1 g.columns width f.0 f.1 in
        let t = between_true 1 g.rows height f.2 f.3 in
        down column row f.5
        (along column f.4 f.2 (more 1 (omega arith) refl (image_kind width height (rw (w, t)) l m)))

  -- ---- all of them

  -- the enlargement's x
  enlarge_x : Beginning g EnlargeX
  unfolding read_of read_characters
  enlarge_x = more 0x40 (omega arith) refl characters

  -- some bytes lead to every accepted half-read command whose numbers fit
  pub ok_begins : (p : Half) → half_ok g p ≡ true → Fits p → Beginning g p
  unfolding half_ok read_of read_windows
  ok_begins Nothing h f = nothing
  ok_begins Escape h f = escape
  ok_begins Unit h f = unit
  ok_begins Group h f = group
  ok_begins Actions h f = actions
  ok_begins Images h f = pictures
  ok_begins Characters h f = characters
  ok_begins Windows h f = windows
  ok_begins (Value key) h f = value key h
  ok_begins (Rest left) h f = rest left h
  ok_begins DownloadA h f = define_a h
  ok_begins DownloadFrom h f = define_from h
  ok_begins (DownloadTo from) h f =
      let d = both_of g.downloads (leb 0x20 from) h in define-to d.0 from d.1 f
  ok_begins (GlyphWidth d n) h f = let e = both_of g.downloads (batch_ok d) h in glyph_width e.0 d n e.1 f
  ok_begins (GlyphByte d n c) h f =
      let e = both_of g.downloads _ h in
      let b = both_of (batch_ok d) (columns_ok c) e.1 in
      glyph_columns d n c b.1 f.1 (glyph_width e.0 d n b.0 f.0)
  ok_begins (Low w) h f = low w h f
  ok_begins (High w low_byte) h f = more low_byte f.1 refl (low w h f.0)
  ok_begins (ImageKind width height) h f = image_kind width height h f.0 f.1
  ok_begins (ImageData width height column row) h f = image width height column row h f.0 f.1
  ok_begins EnlargeX h f = enlarge_x
  ok_begins (EnlargeY x) h f = more x f refl enlarge_x
  ok_begins SelectA h f = more 0x01 (omega arith) refl windows
  ok_begins WindowA h f = window_a
  ok_begins (WindowB a) h f = window_b a h f
  ok_begins EraseA h f = erase_a h
  ok_begins (EraseCode a) h f = more a f refl (erase_a h)
