-- A run over a piece, as a loop makes it: one byte more, and where it ends. Assumes nothing.
use mathlib.Core.Path.{◌≡◌}
use mathlib.Core.Bool.{true, false}
use mathlib.Core.List.{List, ◌∷◌}
use Prim.Native.Nat.{ℕ, ◌+◌, ◌<◌, ◌≤◌}
use native.Mathlib.Numerals.{add-one}
use lib.ListN.{length, get_or, drop, drop_of_length-le}
use lib.Seq.{drop-cons}
use lib.Dec.{eqb}
use borrow.Author.Tests.{le-leb, lt-leb}
use Rattle.paper.specs.declared.Module.{Module}
use Rattle.paper.specs.declared.Style.{Style}
use Rattle.paper.specs.declared.View.{View}
use Rattle.paper.specs.Downloads.{Faces}
use Rattle.laws_state.specs.Runs.{Sheet, written_on, written, characters_of, Image, stored_on, stored, image_bytes_of}

-- a piece from a place on
pub from_here : (bs : List ℕ) (i : ℕ) → i < length bs → drop i bs ≡ get_or bs i 0 ∷ drop (i + 1) bs
from_here bs i l = rw (add-one i) (drop-cons bs i 0 l)

module _ (g : Module) (font : Faces) (w : ℕ) (y : Style) (bs : List ℕ) (i : ℕ) (h : Sheet) where
  -- a character is drawn
  pub characters_more : {h' : Sheet} → i < length bs → 0x20 ≤ get_or bs i 0 → h' ≡ written_on g font w y h (get_or bs i 0)
      → characters_of g font w y h' (drop (i + 1) bs) ≡ characters_of g font w y h (drop i bs)
  characters_more l k e = rw (from_here bs i l, le-leb 0x20 (get_or bs i 0) k, e)

  -- a byte that is none ends the run
  pub characters_stop : i < length bs → get_or bs i 0 < 0x20 → written h (drop i bs) ≡ characters_of g font w y h (drop i bs)
  characters_stop l k = rw (from_here bs i l, lt-leb 0x20 (get_or bs i 0) k)

  -- and so does the piece's end
  pub characters_end : length bs ≤ i → written h (drop i bs) ≡ characters_of g font w y h (drop i bs)
  characters_end b = rw (drop_of_length-le bs {i = i} b)

module _ (g : Module) (v : View) (y : Style) (width height : ℕ) (bs : List ℕ) (i : ℕ) (m : Image) where
  -- a byte is stored, and the image is not whole
  pub image_bytes_more : {m' : Image} → i < length bs → m' ≡ stored_on g v y height m (get_or bs i 0) → eqb m'.column width ≡ false
      → image_bytes_of g v y width height m' (drop (i + 1) bs) ≡ image_bytes_of g v y width height m (drop i bs)
  image_bytes_more l e n = rw (from_here bs i l, e, rw e at n)

  -- a byte is stored, and the image is whole
  pub image_bytes_whole : {m' : Image} → i < length bs → m' ≡ stored_on g v y height m (get_or bs i 0) → eqb m'.column width ≡ true
      → stored m' (drop (i + 1) bs) ≡ image_bytes_of g v y width height m (drop i bs)
  image_bytes_whole l e n = rw (from_here bs i l, e, rw e at n)

  -- the piece ends
  pub image_bytes_end : length bs ≤ i → stored m (drop i bs) ≡ image_bytes_of g v y width height m (drop i bs)
  image_bytes_end b = rw (drop_of_length-le bs {i = i} b)
