-- What the bytes of a command are read as, one after the other: no image's byte, and a character, BS, HT or LF only where nothing was
-- half read before them. Assumes nothing.
use mathlib.Core.Path.{◌≡◌, refl, sym, ◌∙◌}
use mathlib.Core.Bool.{Bool, true, false, cond, not, ◌&&◌, ◌||◌, true≢false, false≢true}
use mathlib.Core.List.{List}
use Prim.Native.Nat.{ℕ}
use lib.ListN.{get_or}
use lib.Dec.{leb, ltb, eqb}
use borrow.Author.Tests.{not-true}
use Rattle.paper.specs.declared.Module.{Module}
use Rattle.paper.specs.declared.Word.{Word}
use Rattle.paper.specs.declared.Word.TheVariants.{CursorX, CursorY, WindowLeft, WindowTop, WindowWidth, WindowHeight, ImageWidth, ImageHeight}
use Rattle.paper.specs.declared.Half.{Half}
use Rattle.paper.specs.declared.Half.TheVariants.{Nothing, Escape, Unit, Group, Actions, Images, Characters, Windows, Value, Rest, DownloadA, DownloadFrom, DownloadTo}
use Rattle.paper.specs.declared.Half.TheVariants.{GlyphWidth, GlyphByte, Low, High, ImageKind, ImageData, EnlargeX, EnlargeY, SelectA, WindowA, WindowB, EraseA, EraseCode}
use Rattle.paper.specs.declared.Reading.{Reading}
use Rattle.paper.specs.declared.Reading.TheVariants.{More, Whole, ImageByte, ImageEnd, GlyphEnd, Cancels, UnknownCode}
use Rattle.paper.specs.Reading.{between, with_column, read_column, read_move, read_first, read_escape, read_unit, read_group, read_actions, read_images, read_characters, read_windows, read_rest, read_window_b, word16, read_word, read_of}
use Rattle.laws_bytes.proofs.Tests.{both_of}
use Rattle.strides.specs.Strides.{is_styling, is_light}
use Rattle.carry_command.specs.Heavy.{is_cell, heavy}
use Rattle.turns_half.specs.Halves.{is_nothing, is_image}
use Rattle.turns_light.specs.Turns.{light_start}

-- ---- one reading

-- a command that goes on does not go back to nothing half read
unfoldable pub onward : Reading → Bool
onward (More p) = not (is_nothing p)
onward (Whole c) = true
onward (ImageByte column row b next) = true
onward (ImageEnd column row b) = true
onward (GlyphEnd d n c) = true
onward Cancels = true
onward UnknownCode = true

-- what a byte may be read as, where a character, BS, HT or LF may come and where not
pub record Goes (cells : Bool) (r : Reading) : Type 0 where
  pub handed : heavy cells r ≡ true
  pub on : onward r ≡ true

-- from its tests
goes : {t : Bool} {r : Reading} → heavy t r ≡ true → onward r ≡ true → Goes t r
goes h k = record { handed = h; on = k }

-- by the test that picks a reading
by : {t : Bool} (u : Bool) {x y : Reading} → (u ≡ true → Goes t x) → (u ≡ false → Goes t y) → Goes t (cond u x y)
by true f h = f refl
by false f h = h refl

-- whatever the test
either : {t : Bool} (u : Bool) {x y : Reading} → Goes t x → Goes t y → Goes t (cond u x y)
either u f h = by u (λ _. f) (λ _. h)

-- ---- every reading

-- a character or a move
abbrev is_text : ℕ → Bool
is_text b = leb 0x20 b || between 0x08 0x0D b

-- BS to CR
move_goes : (t : Bool) (b : ℕ) → t ≡ true → Goes t (read_move b)
unfolding read_move heavy onward is_cell
move_goes t b e =
    either (eqb b 0x08) (goes e refl)
    (either (eqb b 0x09) (goes e refl)
    (either (eqb b 0x0A) (goes e refl)
    (either (eqb b 0x0B) (goes refl refl)
    (either (eqb b 0x0C) (goes refl refl) (goes refl refl)))))

-- the first byte
first_goes : (g : Module) (b : ℕ) → Goes (is_text b) (read_first g b)
unfolding read_first heavy onward is_cell is_nothing
first_goes g b =
    by (leb 0x20 b) (λ e. goes (rw e) refl)
    (λ _. by (between 0x08 0x0D b) (λ e. move_goes (is_text b) b (or_right (leb 0x20 b) (between 0x08 0x0D b) e))
    (λ _. either (between 0x10 0x14 b) (either g.shortcuts (goes refl refl) (goes refl refl))
    (either (eqb b 0x1B) (goes refl refl)
    (either (eqb b 0x1F) (goes refl refl) (goes refl refl)))))
  where
    or_right : (a c : Bool) → c ≡ true → (a || c) ≡ true
    or_right true c e = refl
    or_right false c e = e

-- after 1Bh
escape_goes : (g : Module) (b : ℕ) → Goes false (read_escape g b)
unfolding read_escape heavy onward is_cell is_nothing
escape_goes g b =
    either (eqb b 0x40) (goes refl refl)
    (either (eqb b 0x52) (goes refl refl)
    (either (eqb b 0x74) (goes refl refl)
    (either (eqb b 0x25) (either g.downloads (goes refl refl) (goes refl refl))
    (either (eqb b 0x3F) (either g.downloads (goes refl refl) (goes refl refl))
    (either (eqb b 0x26) (either g.downloads (goes refl refl) (goes refl refl)) (goes refl refl))))))

-- after 1Fh
unit_goes : (b : ℕ) → Goes false (read_unit b)
unfolding read_unit heavy onward is_cell is_nothing
unit_goes b =
    either (between 0x01 0x03 b) (goes refl refl)
    (either (eqb b 0x24) (goes refl refl)
    (either (eqb b 0x28) (goes refl refl)
    (either (eqb b 0x43) (goes refl refl)
    (either (eqb b 0x58) (goes refl refl)
    (either (eqb b 0x72) (goes refl refl)
    (either (eqb b 0x73) (goes refl refl)
    (either (eqb b 0x77) (goes refl refl) (goes refl refl))))))))

-- after 1Fh 28h
group_goes : (b : ℕ) → Goes false (read_group b)
unfolding read_group heavy onward is_nothing
group_goes b =
    either (eqb b 0x61) (goes refl refl)
    (either (eqb b 0x66) (goes refl refl)
    (either (eqb b 0x67) (goes refl refl)
    (either (eqb b 0x77) (goes refl refl) (goes refl refl))))

-- after 1Fh 28h 61h
actions_goes : (b : ℕ) → Goes false (read_actions b)
unfolding read_actions heavy onward is_nothing
actions_goes b =
    either (eqb b 0x01) (goes refl refl)
    (either (eqb b 0x10) (goes refl refl)
    (either (eqb b 0x11) (goes refl refl)
    (either (eqb b 0x40) (goes refl refl) (goes refl refl))))

-- after 1Fh 28h 67h
characters_goes : (g : Module) (b : ℕ) → Goes false (read_characters g b)
unfolding read_characters heavy onward is_nothing
characters_goes g b =
    either (eqb b 0x03) (either g.widths (goes refl refl) (goes refl refl))
    (either (eqb b 0x40) (goes refl refl) (goes refl refl))

-- after 1Fh 28h 77h
windows_goes : (b : ℕ) → Goes false (read_windows b)
unfolding read_windows heavy onward is_nothing
windows_goes b =
    either (eqb b 0x01) (goes refl refl)
    (either (eqb b 0x02) (goes refl refl)
    (either (eqb b 0x10) (goes refl refl) (goes refl refl)))

-- a 16-bit parameter
word_goes : (g : Module) (w : Word) (n : ℕ) → Goes false (read_word g w n)
unfolding read_word heavy onward is_cell is_nothing
word_goes g CursorX n = goes refl refl
word_goes g (CursorY x) n = goes refl refl
word_goes g (WindowLeft a) n = goes refl refl
word_goes g (WindowTop a left) n = goes refl refl
word_goes g (WindowWidth a left top) n = goes refl refl
word_goes g (WindowHeight a left top width) n = goes refl refl
word_goes g ImageWidth n = either (between 1 g.columns n) (goes refl refl) (goes refl refl)
word_goes g (ImageHeight width) n = either (between 1 g.rows n) (goes refl refl) (goes refl refl)

-- every half-read command but an image's data
every_goes : (g : Module) (p : Half) (b : ℕ) → is_image p ≡ false → Goes (is_nothing p && is_text b) (read_of g p b)
unfolding read_of read_images read_rest read_column read_window_b heavy onward is_cell is_nothing is_image
every_goes g Nothing b h = first_goes g b
every_goes g Escape b h = escape_goes g b
every_goes g Unit b h = unit_goes b
every_goes g Group b h = group_goes b
every_goes g Actions b h = actions_goes b
every_goes g Images b h = either (eqb b 0x11) (goes refl refl) (goes refl refl)
every_goes g Characters b h = characters_goes g b
every_goes g Windows b h = windows_goes b
every_goes g (Value key) b h = goes refl refl
every_goes g (Rest left) b h = either (leb left 1) (goes refl refl) (goes refl refl)
every_goes g DownloadA b h = either (eqb b 1) (goes refl refl) (goes refl refl)
every_goes g DownloadFrom b h = either (leb 0x20 b) (goes refl refl) (goes refl refl)
every_goes g (DownloadTo from) b h = either (leb from b) (goes refl refl) (goes refl refl)
every_goes g (GlyphWidth d n) b h = either (eqb b 5 || eqb b 7) (goes refl refl) (goes refl refl)
every_goes g (GlyphByte d n c) b h = either (ltb (with_column c b).come (with_column c b).width) (goes refl refl) (goes refl refl)
every_goes g (Low w) b h = goes refl refl
every_goes g (High w low) b h = word_goes g w (word16 low b)
every_goes g (ImageKind width height) b h = either (eqb b 1) (goes refl refl) (goes refl refl)
every_goes g (ImageData width height column row) b h = absurd (true≢false h)
every_goes g EnlargeX b h = goes refl refl
every_goes g (EnlargeY x) b h = goes refl refl
every_goes g SelectA b h = goes refl refl
every_goes g WindowA b h = either (between 1 4 b) (goes refl refl) (goes refl refl)
every_goes g (WindowB a) b h = either (eqb b 0) (goes refl refl) (either (eqb b 1) (goes refl refl) (goes refl refl))
every_goes g EraseA b h = goes refl refl
every_goes g (EraseCode a) b h = goes refl refl

-- ---- one byte after the other

-- what is handed in where no such command may come is handed in where it may
pub heavy_where : (t u : Bool) → (t ≡ true → u ≡ true) → (r : Reading) → heavy t r ≡ true → heavy u r ≡ true
unfolding heavy
heavy_where t u f (More p) h = h
heavy_where t u f (Whole c) h = go (is_cell c) h where
  go : (a : Bool) → (not a || t) ≡ true → (not a || u) ≡ true
  go true h = f h
  go false h = refl
heavy_where t u f (ImageByte column row b next) h = h
heavy_where t u f (ImageEnd column row b) h = h
heavy_where t u f (GlyphEnd d n c) h = h
heavy_where t u f Cancels h = h
heavy_where t u f UnknownCode h = h

-- a character or a move is light
text_light : (piece : List ℕ) (i : ℕ) → is_text (get_or piece i 0) ≡ true → is_light piece i ≡ true
unfolding is_light
text_light piece i e = go (leb 0x20 (get_or piece i 0)) (between 0x08 0x0D (get_or piece i 0)) e where
  go : (a c : Bool) → (a || c) ≡ true → cond a true (cond c true (is_styling piece i)) ≡ true
  go true c e = refl
  go false true e = refl
  go false false e = absurd (false≢true e)

-- what is half read while a command's bytes come: no image's data, and nothing only before its first byte
pub record Onward (half : Half) (piece : List ℕ) (from : ℕ) (h : Half) (i : ℕ) : Type 0 where
  pub other : is_image h ≡ false
  pub first : light_start h piece i ≡ true → light_start half piece from ≡ true

module _ {half : Half} {piece : List ℕ} {from : ℕ} where
  -- the next byte read
  pub onward_reads : (g : Module) {h : Half} {i : ℕ} {r : Reading} → Onward half piece from h i → r ≡ read_of g h (get_or piece i 0)
      → Goes (light_start half piece from) r
  onward_reads g {h} {i} o e =
      let b = get_or piece i 0 in
      let k = every_goes g h b o.other in
      rw e (goes (heavy_where (is_nothing h && is_text b) (light_start half piece from) begins (read_of g h b) k.handed) k.on)
    where
      begins : (is_nothing h && is_text (get_or piece i 0)) ≡ true → light_start half piece from ≡ true
      begins t =
          let both = both_of (is_nothing h) (is_text (get_or piece i 0)) t in
          o.first (rw (both.0, text_light piece i both.1))

  -- and what is half read then
  pub onward_next : {t : Bool} {p : Half} {j : ℕ} → Goes t (More p) → is_image p ≡ false → Onward half piece from p j
  unfolding onward
  onward_next {p = p} {j} k n =
      record {
        other = n;
        first = λ e. absurd (true≢false (sym (both_of (is_nothing p) (is_light piece j) e).0 ∙ not-true _ k.on));
      }
