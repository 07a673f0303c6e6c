-- Some bytes lead from every half-read command that the paper accepts to a whole one, but from an image's size that is bad with
-- every high byte. Assumes nothing.
use mathlib.Core.Path.{◌≡◌, refl, ap}
use mathlib.Core.Bool.{Bool, true, false, ◌&&◌}
use mathlib.Core.List.{[], ◌∷◌}
use mathlib.Core.Logic.{◌⊎◌, inl, inr, ⊎_map}
use Prim.Native.Nat.{ℕ, zero, suc, ◌+◌, ◌-◌, ◌<◌, ◌≤◌}
use native.Mathlib.Omega.{arith}
use lib.Dec.{leb, ltb}
use borrow.Author.Tests.{leb-true, leb-false, le-leb, lt-leb, ltb-true, lt-ltb, le-ltb}
use Rattle.paper.specs.declared.Module.{Module}
use Rattle.paper.specs.declared.Word.{Word}
use Rattle.paper.specs.declared.Word.TheVariants.{CursorX, CursorY, WindowLeft, WindowTop, WindowWidth, WindowHeight, ImageWidth, ImageHeight}
use Rattle.paper.specs.declared.Batch.{Batch}
use Rattle.paper.specs.declared.Columns.{Columns}
use Rattle.paper.specs.declared.Half.{Half}
use Rattle.paper.specs.declared.Half.TheVariants.{Nothing, Escape, Unit, Group, Actions, Images, Characters, Windows, Value, Rest, DownloadA, DownloadFrom, DownloadTo, GlyphWidth, GlyphByte, Low, High, ImageKind, ImageData, EnlargeX, EnlargeY, SelectA, WindowA, WindowB, EraseA, EraseCode}
use Rattle.paper.specs.declared.Command.{Command}
use Rattle.paper.specs.declared.Command.TheVariants.{Character, Select, Initialise, Mode, Set, Enlarge, CursorSet, Define, Cancel, Uncarried, Erase}
use Rattle.paper.specs.declared.Reading.TheVariants.{More, Whole, ImageByte, ImageEnd, GlyphEnd}
use Rattle.paper.specs.Reading.{between, read_first, read_escape, read_unit, read_group, read_actions, read_images, read_characters, read_windows, read_rest, batch, next_code, no_columns, with_column, read_column, read_window_b, word16, read_word, read_image, read_of}
use Rattle.paper.specs.Bounds.{word_ok, batch_ok, columns_ok, half_ok}
use Rattle.laws_bytes.specs.Beginnings.{made_whole, last_stored, then_more, then_stored, last_glyph, then_glyph, Finished, BadSize, bad_width, bad_height, Fits}
use Rattle.laws_bytes.proofs.Tests.{both_of, between_facts, between_true}
use Rattle.laws_bytes.proofs.Columns.{columns_facts}
use Rattle.laws_bytes.proofs.Readings.{image_facts}

-- a number that exceeds a size
over : (hi n : ℕ) → hi < n → between 1 hi n ≡ false
over hi n h = go (leb 1 n) where
  go : (t : Bool) → (t && leb n hi) ≡ false
  go true = lt-leb n hi h
  go false = refl

-- a size's low byte has come: a high byte makes the size good, or none does
sized : (hi low : ℕ) → ((b : ℕ) × (b < 256) × (between 1 hi (word16 low b) ≡ true)) ⊎ ((b : ℕ) → between 1 hi (word16 low b) ≡ false)
sized hi low = go low (leb low hi) (leb 256 hi) refl refl where
  go : (n : ℕ) (t u : Bool) → leb n hi ≡ t → leb 256 hi ≡ u
      → ((b : ℕ) × (b < 256) × (between 1 hi (word16 n b) ≡ true)) ⊎ ((b : ℕ) → between 1 hi (word16 n b) ≡ false)
  go n false u e i = let m = leb-false n hi e in inr (λ b. over hi (word16 n b) (omega arith))
  go (suc n) true u e i =
      let m = leb-true (suc n) hi e in
      inl (0, omega arith, between_true 1 hi (word16 (suc n) 0) (omega arith) (omega arith))
  go zero true true e i =
      let m = leb-true 256 hi i in inl (1, omega arith, between_true 1 hi (word16 0 1) (omega arith) (omega arith))
  go zero true false e i = inr (none (leb-false 256 hi i)) where
    none : hi < 256 → (b : ℕ) → between 1 hi (word16 0 b) ≡ false
    none m zero = refl
    none m (suc b) = over hi (word16 0 (suc b)) (omega arith)

module _ (g : Module) where
  -- ---- bytes, one before the other

  -- the last byte
  ends : {p : Half} (b : ℕ) (c : Command) → b < 256 → read_of g p b ≡ Whole c → Finished g p
  ends b c l e = record { bytes = b ∷ []; finishes = made_whole b c l e }

  -- one byte before
  before : {p q : Half} (b : ℕ) → b < 256 → read_of g p b ≡ More q → Finished g q → Finished g p
  before b l e s = record { bytes = b ∷ s.bytes; finishes = then_more b l e s.finishes }

  -- an image's last byte
  ends_stored : {p : Half} (column row : ℕ) → read_of g p 0 ≡ ImageEnd column row 0 → Finished g p
  ends_stored column row e = record { bytes = 0 ∷ []; finishes = last_stored 0 column row (omega arith) e }

  -- one byte of an image before
  before_stored : {p q : Half} (column row : ℕ) → read_of g p 0 ≡ ImageByte column row 0 q → Finished g q → Finished g p
  before_stored column row e s =
      record { bytes = 0 ∷ s.bytes; finishes = then_stored 0 column row (omega arith) e s.finishes }

  -- the rest of a command that is not carried
  rest : (left : ℕ) → Finished g (Rest left)
  unfolding read_of read_rest
  rest zero = ends 0 Uncarried (omega arith) refl
  rest (suc zero) = ends 0 Uncarried (omega arith) refl
  rest (suc (suc n)) =
      before 0 (omega arith) (rw (lt-leb (suc (suc n)) 1 (omega arith)) (ap (λ (k : ℕ). More (Rest k)) (omega arith)))
      (rest (suc n))

  -- ---- a define of downloads

  -- a download's last column, which ends the define or is followed by the next code's width
  glyph_end : {p : Half} (d : Batch) (n : Bool) (c : Columns) (t : Bool) → read_of g p 0 ≡ GlyphEnd d n c → ltb d.code d.last ≡ t
      → (t ≡ true → Finished g (GlyphWidth (next_code d) n)) → Finished g p
  glyph_end d n c true e l next =
      record { bytes = 0 ∷ (next refl).bytes; finishes = then_glyph 0 d n c n (omega arith) e l (next refl).finishes }
  glyph_end d n c false e l next = record { bytes = 0 ∷ []; finishes = last_glyph 0 d n c (omega arith) e l }

  -- a download's columns, k of them after the next
  glyph_columns : (k : ℕ) (d : Batch) (n : Bool) (c : Columns) → c.come + 1 + k ≡ c.width
      → (ltb d.code d.last ≡ true → Finished g (GlyphWidth (next_code d) n)) → Finished g (GlyphByte d n c)
  unfolding read_of read_column with_column
  glyph_columns zero d n c h next =
      glyph_end d n (with_column c 0) (ltb d.code d.last) (rw (le-ltb (c.come + 1) c.width (omega arith))) refl next
  glyph_columns (suc k) d n c h next =
      before 0 (omega arith) (rw (lt-ltb (c.come + 1) c.width (omega arith))) (glyph_columns k d n (with_column c 0) (omega arith) next)

  -- a download's width, k codes or fewer being left after it
  glyphs : (k : ℕ) (d : Batch) (n : Bool) → d.last ≤ d.code + k → Finished g (GlyphWidth d n)
  unfolding read_of
  glyphs zero d n h =
      before 5 (omega arith) refl
      (glyph_columns 4 d n (no_columns 5) (omega arith) (λ e. let m = ltb-true d.code d.last e in absurd (omega arith)))
  glyphs (suc k) d n h =
      before 5 (omega arith) refl
      (glyph_columns 4 d n (no_columns 5) (omega arith) (λ _. glyphs k (next_code d) n (omega arith)))

  -- its c2, after which it has one code
  to : (from : ℕ) → from < 256 → Finished g (DownloadTo from)
  unfolding read_of
  to from l = before from l (rw (le-leb from from (omega arith))) (glyphs 0 (batch from from from) false (omega arith))

  -- its c1
  from : Finished g DownloadFrom
  unfolding read_of
  from = before 0x20 (omega arith) refl (to 0x20 (omega arith))

  -- ---- 16-bit parameters, their low byte having come

  cursor_y : (x low : ℕ) → Finished g (High (CursorY x) low)
  unfolding read_of read_word
  cursor_y x low = ends 0 (CursorSet x (word16 low 0)) (omega arith) refl

  cursor_x : (low : ℕ) → Finished g (High CursorX low)
  unfolding read_of read_word
  cursor_x low = before 0 (omega arith) refl (before 0 (omega arith) refl (cursor_y (word16 low 0) 0))

  window_height : (a left top width low : ℕ) → Finished g (High (WindowHeight a left top width) low)
  unfolding read_of read_word
  window_height a left top width low = ends 0 (Define a left top width (word16 low 0)) (omega arith) refl

  window_width : (a left top low : ℕ) → Finished g (High (WindowWidth a left top) low)
  unfolding read_of read_word
  window_width a left top low =
      before 0 (omega arith) refl (before 0 (omega arith) refl (window_height a left top (word16 low 0) 0))

  window_top : (a left low : ℕ) → Finished g (High (WindowTop a left) low)
  unfolding read_of read_word
  window_top a left low = before 0 (omega arith) refl (before 0 (omega arith) refl (window_width a left (word16 low 0) 0))

  window_left : (a low : ℕ) → Finished g (High (WindowLeft a) low)
  unfolding read_of read_word
  window_left a low = before 0 (omega arith) refl (before 0 (omega arith) refl (window_top a (word16 low 0) 0))

  -- ---- images

  module _ (width height : ℕ) where
    -- a column's lowest byte, after which the next column or nothing follows
    foot : (column row : ℕ) (t : Bool) → row + 1 ≡ height → ltb (column + 1) width ≡ t
        → (t ≡ true → Finished g (ImageData width height (column + 1) 0)) → Finished g (ImageData width height column row)
    unfolding read_of read_image
    foot column row true h e next =
        before_stored column row (rw (le-ltb (row + 1) height (omega arith), e)) (next refl)
    foot column row false h e next = ends_stored column row (rw (le-ltb (row + 1) height (omega arith), e))

    -- n bytes below this one in its column
    down : (n column row : ℕ) → row + 1 + n ≡ height
        → (ltb (column + 1) width ≡ true → Finished g (ImageData width height (column + 1) 0))
        → Finished g (ImageData width height column row)
    unfolding read_of read_image
    down zero column row h next = foot column row (ltb (column + 1) width) (omega arith) refl next
    down (suc n) column row h next =
        before_stored column row (rw (lt-ltb (row + 1) height (omega arith))) (down n column (row + 1) (omega arith) next)

    -- m columns after this one
    along : (m n column row : ℕ) → column + 1 + m ≡ width → row + 1 + n ≡ height → Finished g (ImageData width height column row)
    along zero n column row w h = down n column row h (λ e. let l = ltb-true (column + 1) width e in absurd (omega arith))
    along (suc m) n column row w h =
        down n column row h (λ _. along m (height - 1) (column + 1) 0 (omega arith) (omega arith))

    -- any byte of an image
    image : (column row : ℕ) → column < width → row < height → Finished g (ImageData width height column row)
    image column row w h = along (width - 1 - column) (height - 1 - row) column row (omega arith) (omega arith)

    -- the image's g
    image_kind : 1 ≤ width → 1 ≤ height → Finished g (ImageKind width height)
    unfolding read_of
    image_kind w h = before 1 (omega arith) refl (image 0 0 w h)

  module _ (columns : 1 ≤ g.columns) (rows : 1 ≤ g.rows) where
    -- an image's height
    image_height : (width : ℕ) → 1 ≤ width → Finished g (Low (ImageHeight width))
    unfolding read_of read_word
    image_height width w =
        before 1 (omega arith) refl
        (before 0 (omega arith) (rw (between_true 1 g.rows 1 (omega arith) rows)) (image_kind width 1 w (omega arith)))

    -- its width
    image_width : Finished g (Low ImageWidth)
    unfolding read_of read_word
    image_width =
        before 1 (omega arith) refl
        (before 0 (omega arith) (rw (between_true 1 g.columns 1 (omega arith) columns)) (image_height 1 (omega arith)))

    -- a size's low byte has come
    high_width : (low : ℕ) → Finished g (High ImageWidth low) ⊎ BadSize g (High ImageWidth low)
    unfolding read_of read_word
    high_width low =
        ⊎_map
        (λ f. before f.0 f.1 (rw f.2) (image_height (word16 low f.0) (between_facts 1 g.columns _ f.2).0))
        (λ f. bad_width low (λ b. rw (f b))) (sized g.columns low)

    high_height : (width low : ℕ) → 1 ≤ width → Finished g (High (ImageHeight width) low) ⊎ BadSize g (High (ImageHeight width) low)
    unfolding read_of read_word
    high_height width low w =
        ⊎_map
        (λ f. before f.0 f.1 (rw f.2) (image_kind width (word16 low f.0) w (between_facts 1 g.rows _ f.2).0))
        (λ f. bad_height width low (λ b. rw (f b))) (sized g.rows low)

    -- ---- all of them

    -- an awaited 16-bit parameter
    low : (w : Word) → word_ok g w ≡ true → Finished g (Low w)
    unfolding read_of word_ok
    low CursorX h = before 0 (omega arith) refl (cursor_x 0)
    low (CursorY x) h = before 0 (omega arith) refl (cursor_y x 0)
    low (WindowLeft a) h = before 0 (omega arith) refl (window_left a 0)
    low (WindowTop a left) h = before 0 (omega arith) refl (window_top a left 0)
    low (WindowWidth a left top) h = before 0 (omega arith) refl (window_width a left top 0)
    low (WindowHeight a left top width) h = before 0 (omega arith) refl (window_height a left top width 0)
    low ImageWidth h = image_width
    low (ImageHeight width) h = image_height width (between_facts 1 g.columns width h).0

    -- one whose low byte has come
    high : (w : Word) (n : ℕ) → word_ok g w ≡ true → Finished g (High w n) ⊎ BadSize g (High w n)
    unfolding word_ok
    high CursorX n h = inl (cursor_x n)
    high (CursorY x) n h = inl (cursor_y x n)
    high (WindowLeft a) n h = inl (window_left a n)
    high (WindowTop a left) n h = inl (window_top a left n)
    high (WindowWidth a left top) n h = inl (window_width a left top n)
    high (WindowHeight a left top width) n h = inl (window_height a left top width n)
    high ImageWidth n h = high_width n
    high (ImageHeight width) n h = high_height width n (between_facts 1 g.columns width h).0

    -- some bytes lead from every accepted half-read command to a whole one, but from a bad size, which the next byte cancels
    pub ok_finishes : (p : Half) → half_ok g p ≡ true → Fits p → Finished g p ⊎ BadSize g p
    unfolding half_ok read_of read_first read_escape read_unit read_group read_actions read_images read_characters read_windows read_window_b
    ok_finishes Nothing h f = inl (ends 0x20 (Character 0x20) (omega arith) refl)
    ok_finishes Escape h f = inl (ends 0x40 Initialise (omega arith) refl)
    ok_finishes Unit h f = inl (ends 0x01 (Mode 1) (omega arith) refl)
    ok_finishes Group h f = inl (before 0x61 (omega arith) refl (before 0x01 (omega arith) refl (rest 1)))
    ok_finishes Actions h f = inl (before 0x01 (omega arith) refl (rest 1))
    ok_finishes Images h f = inl (before 0x11 (omega arith) refl image_width)
    ok_finishes Characters h f = inl (before 0x40 (omega arith) refl (before 1 (omega arith) refl (ends 1 (Enlarge 1 1) (omega arith) refl)))
    ok_finishes Windows h f = inl (before 0x01 (omega arith) refl (ends 0 (Select 0) (omega arith) refl))
    ok_finishes (Value key) h f = inl (ends 0 (Set key 0) (omega arith) refl)
    ok_finishes (Rest left) h f = inl (rest left)
    ok_finishes DownloadA h f = inl (before 1 (omega arith) refl from)
    ok_finishes DownloadFrom h f = inl from
    ok_finishes (DownloadTo c) h f = inl (to c f)
    ok_finishes (GlyphWidth d n) h f = inl (glyphs d.last d n (omega arith))
    ok_finishes (GlyphByte d n c) h f =
        let b = both_of (batch_ok d) (columns_ok c) (both_of g.downloads _ h).1 in
        let e = columns_facts c b.1 in
        inl (glyph_columns (c.width - 1 - c.come) d n c (omega (arith, e.1)) (λ _. glyphs d.last (next_code d) n (omega arith)))
    ok_finishes (Low w) h f = inl (low w h)
    ok_finishes (High w n) h f = high w n h
    ok_finishes (ImageKind width height) h f =
        let b = both_of (between 1 g.columns width) (between 1 g.rows height) h in
        inl (image_kind width height (between_facts 1 g.columns width b.0).0 (between_facts 1 g.rows height b.1).0)
    ok_finishes (ImageData width height column row) h f =
        let i = image_facts g width height column row h in inl (image width height column row i.4 i.5)
    ok_finishes EnlargeX h f = inl (before 1 (omega arith) refl (ends 1 (Enlarge 1 1) (omega arith) refl))
    ok_finishes (EnlargeY x) h f = inl (ends 1 (Enlarge x 1) (omega arith) refl)
    ok_finishes SelectA h f = inl (ends 0 (Select 0) (omega arith) refl)
    ok_finishes WindowA h f = inl (before 1 (omega arith) refl (ends 0 (Cancel 1) (omega arith) refl))
    ok_finishes (WindowB a) h f = inl (ends 0 (Cancel a) (omega arith) refl)
    ok_finishes EraseA h f = inl (before 1 (omega arith) refl (ends 0x20 (Erase 1 0x20) (omega arith) refl))
    ok_finishes (EraseCode a) h f = inl (ends 0x20 (Erase a 0x20) (omega arith) refl)
