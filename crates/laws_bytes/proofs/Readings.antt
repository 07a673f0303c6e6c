-- Whatever a byte gives to an accepted half-read command passes the test of specs/Readings.antt. Assumes nothing.
use mathlib.Core.Path.{◌≡◌, refl}
use mathlib.Core.Bool.{Bool, true, false, cond, ◌||◌}
use Prim.Native.Nat.{ℕ, ◌+◌, ◌-◌, ◌<◌, ◌≤◌}
use native.Mathlib.Omega.{arith}
use lib.Dec.{leb, ltb, eqb}
use borrow.Author.Tests.{leb-true, leb-false, le-leb, ltb-true, lt-ltb, eqb-true}
use Rattle.paper.specs.declared.Module.{Module}
use Rattle.paper.specs.declared.Word.{Word}
use Rattle.paper.specs.declared.Word.TheVariants.{CursorX, CursorY, WindowLeft, WindowTop, WindowWidth, WindowHeight, ImageWidth, ImageHeight}
use Rattle.paper.specs.declared.Batch.{Batch}
use Rattle.paper.specs.declared.Columns.{Columns}
use Rattle.paper.specs.declared.Half.{Half}
use Rattle.paper.specs.declared.Half.TheVariants.{Nothing, Escape, Unit, Group, Actions, Images, Characters, Windows, Value, Rest, DownloadA, DownloadFrom, DownloadTo, GlyphWidth, GlyphByte, Low, High, ImageKind, ImageData, EnlargeX, EnlargeY, SelectA, WindowA, WindowB, EraseA, EraseCode}
use Rattle.paper.specs.declared.Reading.{Reading}
use Rattle.paper.specs.declared.Reading.TheVariants.{ImageByte, GlyphEnd}
use Rattle.paper.specs.Reading.{between, more_if, batch, next_code, no_columns, with_column, read_column, read_move, read_first, read_escape, read_unit, read_group, read_actions, read_images, read_characters, is_known, read_windows, read_rest, read_window_b, word16, read_word, read_image, read_of}
use Rattle.paper.specs.Bounds.{word_ok, batch_ok, rest_blank, columns_ok, half_ok}
use Rattle.laws_bytes.specs.Readings.{command_ok, whole_columns, reading_ok}
use Rattle.laws_bytes.proofs.Tests.{both_of, between_facts, between_true}
use Rattle.laws_bytes.proofs.Columns.{more_ok, whole_ok}

module _ (g : Module) where
  -- an image of a size that the memory has, and a place of it
  abbrev pub InImage : ℕ → ℕ → ℕ → ℕ → Type 0
  InImage width height column row =
      (1 ≤ width) × (width ≤ g.columns) × (1 ≤ height) × (height ≤ g.rows) × (column < width) × (row < height)

  -- that is what an accepted image says of itself and of its next byte
  pub image_facts : (width height column row : ℕ) → half_ok g (ImageData width height column row) ≡ true
      → InImage width height column row
  unfolding half_ok
  image_facts width height column row h =
      let f = both_of (between 1 g.columns width) _ h in
      let e = both_of (between 1 g.rows height) _ f.1 in
      let d = both_of (ltb column width) _ e.1 in
      let w = between_facts 1 g.columns width f.0 in
      let t = between_facts 1 g.rows height e.0 in
      (w.0, w.1, t.0, t.1, ltb-true column width d.0, ltb-true row height d.1)

  -- and back
  pub image_true : (width height column row : ℕ) → InImage width height column row
      → half_ok g (ImageData width height column row) ≡ true
  unfolding half_ok
  image_true width height column row f =
      rw (
        between_true 1 g.columns width f.0 f.1,
        between_true 1 g.rows height f.2 f.3,
        lt-ltb column width f.4,
        lt-ltb row height f.5,
      )

  -- ---- every reading

  -- a reading that passes
  record Passes (r : Reading) : Type 0 where
    ok : reading_ok g r ≡ true

  -- from its test
  passes : {r : Reading} → reading_ok g r ≡ true → Passes r
  passes h = record { ok = h }

  -- by the test that picks a reading
  by : (t : Bool) {x y : Reading} → (t ≡ true → Passes x) → (t ≡ false → Passes y) → Passes (cond t x y)
  by true f h = f refl
  by false f h = h refl

  -- whatever the test
  either : (t : Bool) {x y : Reading} → Passes x → Passes y → Passes (cond t x y)
  either t f h = by t (λ _. f) (λ _. h)

  -- BS to CR
  move_ok : (b : ℕ) → Passes (read_move b)
  unfolding read_move reading_ok command_ok
  move_ok b =
      either (eqb b 0x08) (passes refl)
      (either (eqb b 0x09) (passes refl)
      (either (eqb b 0x0A) (passes refl)
      (either (eqb b 0x0B) (passes refl)
      (either (eqb b 0x0C) (passes refl) (passes refl)))))

  -- the first byte
  first_ok : (b : ℕ) → Passes (read_first g b)
  unfolding read_first reading_ok command_ok half_ok
  first_ok b =
      by (leb 0x20 b) passes
      (λ _. either (between 0x08 0x0D b) (move_ok b)
      (either (between 0x10 0x14 b) (either g.shortcuts (passes refl) (passes refl))
      (either (eqb b 0x1B) (passes refl)
      (either (eqb b 0x1F) (passes refl) (passes refl)))))

  -- after 1Bh
  escape_ok : (b : ℕ) → Passes (read_escape g b)
  unfolding read_escape reading_ok command_ok half_ok is_known
  escape_ok b =
      either (eqb b 0x40) (passes refl)
      (either (eqb b 0x52) (passes refl)
      (either (eqb b 0x74) (passes refl)
      (either (eqb b 0x25) (by g.downloads passes (λ _. passes refl))
      (either (eqb b 0x3F) (by g.downloads passes (λ _. passes refl))
      (either (eqb b 0x26) (by g.downloads passes (λ _. passes refl)) (passes refl))))))

  -- after 1Fh
  unit_ok : (b : ℕ) → Passes (read_unit b)
  unfolding read_unit reading_ok command_ok half_ok is_known word_ok
  unit_ok b =
      by (between 0x01 0x03 b) passes
      (λ _. either (eqb b 0x24) (passes refl)
      (either (eqb b 0x28) (passes refl)
      (either (eqb b 0x43) (passes refl)
      (either (eqb b 0x58) (passes refl)
      (either (eqb b 0x72) (passes refl)
      (either (eqb b 0x73) (passes refl)
      (either (eqb b 0x77) (passes refl) (passes refl))))))))

  -- after 1Fh 28h
  group_ok : (b : ℕ) → Passes (read_group b)
  unfolding read_group reading_ok half_ok
  group_ok b =
      either (eqb b 0x61) (passes refl)
      (either (eqb b 0x66) (passes refl)
      (either (eqb b 0x67) (passes refl)
      (either (eqb b 0x77) (passes refl) (passes refl))))

  -- after 1Fh 28h 61h
  actions_ok : (b : ℕ) → Passes (read_actions b)
  unfolding read_actions reading_ok half_ok
  actions_ok b =
      either (eqb b 0x01) (passes refl)
      (either (eqb b 0x10) (passes refl)
      (either (eqb b 0x11) (passes refl)
      (either (eqb b 0x40) (passes refl) (passes refl))))

  -- after 1Fh 28h 66h
  image_bytes_ok : (b : ℕ) → Passes (read_images b)
  unfolding read_images reading_ok half_ok word_ok
  image_bytes_ok b = either (eqb b 0x11) (passes refl) (passes refl)

  -- after 1Fh 28h 67h
  characters_ok : (b : ℕ) → Passes (read_characters g b)
  unfolding read_characters reading_ok half_ok is_known
  characters_ok b =
      either (eqb b 0x03) (by g.widths passes (λ _. passes refl))
      (either (eqb b 0x40) (passes refl) (passes refl))

  -- after 1Fh 28h 77h
  windows_ok_lem : (b : ℕ) → Passes (read_windows b)
  unfolding read_windows reading_ok half_ok is_known
  windows_ok_lem b =
      either (eqb b 0x01) (passes refl)
      (either (eqb b 0x02) (passes refl)
      (either (eqb b 0x10) (passes refl) (passes refl)))

  -- read on, or cancelled
  if_ok : (t : Bool) (p : Half) → (t ≡ true → half_ok g p ≡ true) → Passes (more_if t p)
  unfolding reading_ok
  if_ok t p h = by t (λ e. passes (h e)) (λ _. passes refl)

  -- the rest of a command that is not carried
  rest_ok : (left : ℕ) → half_ok g (Rest left) ≡ true → Passes (read_rest left)
  unfolding read_rest reading_ok command_ok half_ok
  rest_ok left h =
      let f = between_facts 1 5 left h in
      by (leb left 1) (λ _. passes refl)
      (λ e. let m = leb-false left 1 e in passes (between_true 1 5 (left - 1) (omega arith) (omega arith)))

  -- a define's codes, of which the last may be the next
  pub next_ok : (d : Batch) (n dropped : Bool) → half_ok g (GlyphWidth d n) ≡ true → ltb d.code d.last ≡ true
      → half_ok g (GlyphWidth (next_code d) dropped) ≡ true
  unfolding half_ok batch_ok
  next_ok d n dropped h e =
      let f = both_of g.downloads _ h in
      let o = both_of (leb 0x20 d.first) _ f.1 in
      let c = leb-true d.first d.code (both_of (leb d.first d.code) _ o.1).0 in
      let l = ltb-true d.code d.last e in
      rw (f.0, o.0, le-leb d.first (d.code + 1) (omega arith), le-leb (d.code + 1) d.last (omega arith))

  -- a download's width, with which its columns begin
  width_ok : (d : Batch) (n : Bool) (x : ℕ) → half_ok g (GlyphWidth d n) ≡ true → (eqb x 5 || eqb x 7) ≡ true
      → half_ok g (GlyphByte d n (no_columns x)) ≡ true
  unfolding half_ok columns_ok rest_blank
  width_ok d n x h e =
      let f = both_of g.downloads (batch_ok d) h in
      rw (f.0, f.1, e, lt-ltb 0 x (some x (eqb x 5) refl e))
    where
      some : (x : ℕ) (t : Bool) → eqb x 5 ≡ t → (t || eqb x 7) ≡ true → 0 < x
      some x true i h = let m = eqb-true x 5 i in omega arith
      some x false i h = let m = eqb-true x 7 h in omega arith

  -- a download's next column
  column_ok : (d : Batch) (n : Bool) (c : Columns) (b : ℕ) → half_ok g (GlyphByte d n c) ≡ true
      → Passes (read_column d n (with_column c b))
  unfolding read_column with_column reading_ok half_ok
  column_ok d n c b h =
      let f = both_of g.downloads _ h in
      let e = both_of (batch_ok d) (columns_ok c) f.1 in
      by (ltb (c.come + 1) c.width)
      (λ l. passes (rw (f.0, e.0, more_ok c b e.1 l)))
      (λ l. passes (rw (f.0, e.0, whole_ok c b e.1 l)))

  -- a window's number is followed by which of the two
  window_ok_lem : (a b : ℕ) → between 1 4 a ≡ true → Passes (read_window_b a b)
  unfolding read_window_b reading_ok command_ok half_ok word_ok
  window_ok_lem a b h = by (eqb b 0) (λ _. passes h) (λ _. if_ok (eqb b 1) (Low (WindowLeft a)) (λ _. h))

  -- a 16-bit parameter
  word_ok_lem : (w : Word) (n : ℕ) → word_ok g w ≡ true → Passes (read_word g w n)
  unfolding read_word reading_ok command_ok half_ok word_ok
  word_ok_lem CursorX n h = passes refl
  word_ok_lem (CursorY x) n h = passes refl
  word_ok_lem (WindowLeft a) n h = passes h
  word_ok_lem (WindowTop a left) n h = passes h
  word_ok_lem (WindowWidth a left top) n h = passes h
  word_ok_lem (WindowHeight a left top width) n h = passes h
  word_ok_lem ImageWidth n h = if_ok (between 1 g.columns n) (Low (ImageHeight n)) (λ e. e)
  word_ok_lem (ImageHeight width) n h = if_ok (between 1 g.rows n) (ImageKind width n) (λ e. rw (h, e))

  -- an image's first byte
  kind_ok : (width height : ℕ) → half_ok g (ImageKind width height) ≡ true → half_ok g (ImageData width height 0 0) ≡ true
  unfolding half_ok
  kind_ok width height h =
      let f = both_of (between 1 g.columns width) (between 1 g.rows height) h in
      let w = between_facts 1 g.columns width f.0 in
      let t = between_facts 1 g.rows height f.1 in
      image_true width height 0 0 (omega arith)

  -- a byte of an image, its place, and the next one's
  image_ok : (width height column row b : ℕ) → half_ok g (ImageData width height column row) ≡ true
      → Passes (read_image width height column row b)
  unfolding read_image reading_ok
  image_ok width height column row b h =
      let f = image_facts width height column row h in
      let x = lt-ltb column g.columns (omega arith) in
      let y = lt-ltb row g.rows (omega arith) in
      by (ltb (row + 1) height)
      (λ e.
      let m = ltb-true (row + 1) height e in
      passes (rw (x, y, image_true width height column (row + 1) (omega arith))))
      (λ _. by (ltb (column + 1) width)
      (λ e.
      let m = ltb-true (column + 1) width e in
      passes (rw (x, y, image_true width height (column + 1) 0 (omega arith))))
      (λ _. passes (rw (x, y))))

  -- every half-read command
  every_ok : (p : Half) (b : ℕ) → half_ok g p ≡ true → Passes (read_of g p b)
  unfolding read_of reading_ok command_ok half_ok batch_ok
  every_ok Nothing b h = first_ok b
  every_ok Escape b h = escape_ok b
  every_ok Unit b h = unit_ok b
  every_ok Group b h = group_ok b
  every_ok Actions b h = actions_ok b
  every_ok Images b h = image_bytes_ok b
  every_ok Characters b h = characters_ok b
  every_ok Windows b h = windows_ok_lem b
  every_ok (Value key) b h = passes refl
  every_ok (Rest left) b h = rest_ok left h
  every_ok DownloadA b h = if_ok (eqb b 1) DownloadFrom (λ _. h)
  every_ok DownloadFrom b h = if_ok (leb 0x20 b) (DownloadTo b) (λ e. rw (h, e))
  every_ok (DownloadTo from) b h =
      let d = both_of g.downloads (leb 0x20 from) h in
      if_ok (leb from b) (GlyphWidth (batch from from b) false) (λ e. rw (d.0, d.1, le-leb from from (omega arith), e))
  every_ok (GlyphWidth d n) b h = if_ok (eqb b 5 || eqb b 7) (GlyphByte d n (no_columns b)) (λ e. width_ok d n b h e)
  every_ok (GlyphByte d n c) b h = column_ok d n c b h
  every_ok (Low w) b h = passes h
  every_ok (High w low) b h = word_ok_lem w (word16 low b) h
  every_ok (ImageKind width height) b h = if_ok (eqb b 1) (ImageData width height 0 0) (λ _. kind_ok width height h)
  every_ok (ImageData width height column row) b h = image_ok width height column row b h
  every_ok EnlargeX b h = passes refl
  every_ok (EnlargeY x) b h = passes refl
  every_ok SelectA b h = passes refl
  every_ok WindowA b h = if_ok (between 1 4 b) (WindowB b) (λ e. e)
  every_ok (WindowB a) b h = window_ok_lem a b h
  every_ok EraseA b h = passes h
  every_ok (EraseCode a) b h = passes refl

  -- ---- what carrying out may count on

  -- what any byte gives to an accepted half-read command passes
  pub reads_ok : (p : Half) (b : ℕ) → half_ok g p ≡ true → reading_ok g (read_of g p b) ≡ true
  reads_ok p b h = (every_ok p b h).ok

  -- an image byte's place, and what is half read after it
  pub image_byte_facts : (column row b : ℕ) (next : Half) → reading_ok g (ImageByte column row b next) ≡ true
      → (column < g.columns) × (row < g.rows) × (half_ok g next ≡ true)
  unfolding reading_ok
  image_byte_facts column row b next h =
      let f = both_of (ltb column g.columns) _ h in
      let e = both_of (ltb row g.rows) _ f.1 in
      (ltb-true column g.columns f.0, ltb-true row g.rows e.0, e.1)

  -- a download whose last column has come: its define, and its columns
  pub glyph_end_facts : (d : Batch) (n : Bool) (c : Columns) → reading_ok g (GlyphEnd d n c) ≡ true
      → (half_ok g (GlyphWidth d n) ≡ true) × (whole_columns c ≡ true)
  unfolding reading_ok
  glyph_end_facts d n c h = both_of (half_ok g (GlyphWidth d n)) (whole_columns c) h
