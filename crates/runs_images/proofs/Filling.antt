-- Where the loop over an image's bytes has come to: what it holds at each turn, a turn more, and where it ends. Assumes nothing.
use mathlib.Core.Path.{◌≡◌, refl, sym, ap, ◌∙◌}
use mathlib.Core.Bool.{Bool, true, false, cond}
use mathlib.Core.List.{List}
use Prim.Native.Nat.{ℕ, ◌+◌, ◌<◌, ◌≤◌}
use native.Mathlib.Omega.{arith}
use lib.ListN.{length, get_or, drop}
use lib.Dec.{ltb, eqb}
use borrow.Author.Tests.{ltb-true}
use Rattle.paper.specs.declared.Module.{Module}
use Rattle.paper.specs.declared.Span.{Span}
use Rattle.paper.specs.declared.Style.{Style}
use Rattle.paper.specs.Strokes.{apply_all}
use Rattle.paper.specs.Carry.{image_strokes}
use Rattle.laws_state.specs.Runs.{image, stored_on, image_bytes_of}
use Rattle.laws_state.proofs.Runs.{column-next}
use Rattle.laws_state.proofs.Taken.{image_bytes_more, image_bytes_whole, image_bytes_end}
use Rattle.moves.specs.declared.Spot.{Spot}
use Rattle.images_places.specs.declared.Place.{Place}
use Rattle.images_places.specs.Places.{place_after}
use Rattle.images_marks.specs.Marks.{marks_to, filled_to}
use Rattle.runs_images.specs.Stocked.{Stocked}
use Rattle.runs_images.proofs.Rows.{marks_begin, marks_next}

-- the next place is one of the image's rows, and none before
row_next : (z : Bool) (r height : ℕ) → ltb (r + 1) height ≡ z → r < height → cond z (r + 1) 0 < height
row_next true r height e l = ltb-true (r + 1) height e
row_next false r height e l = omega arith

column_on : (z : Bool) (column c : ℕ) → column ≤ c → column ≤ cond z c (c + 1)
column_on true column c l = l
column_on false column c l = omega arith

place_on : (z : Bool) (n c r : ℕ) → r < 2 → n ≤ c + r → n ≤ cond z c (c + 1) + cond z (r + 1) 0
place_on true n c r h l = omega arith
place_on false n c r h l = omega arith

module _ (g : Module) (p : Spot) (y : Style) (width height column row : ℕ) (m piece : List ℕ) (from : ℕ) where
  -- what the rows are marked with at (c, r)
  abbrev pub marks_at : ℕ → ℕ → List Span
  marks_at c r = marks_to p.view height column row c r p.spans

  -- the run so far, its next byte at (c, r)
  pub record Filling (n : List ℕ) (c r i : ℕ) : Type 0 where
    pub low : from ≤ i
    pub high : i ≤ length piece
    pub size : length n ≡ length m
    pub across : c < width
    pub down : r < height
    pub on : column ≤ c
    pub beyond : column + row ≤ c + r
    pub done : image_bytes_of g p.view y width height (image (marks_at c r) n c r) (drop i piece)
        ≡ image_bytes_of g p.view y width height (image p.spans m column row) (drop from piece)

  -- nothing stored yet
  pub filling_begin : column < width → row < height → from < length piece → Filling m column row from
  filling_begin a b l =
      record {
        low = omega arith;
        high = omega arith;
        size = refl;
        across = a;
        down = b;
        on = omega arith;
        beyond = omega arith;
        done =
            ap (λ (ps : List Span). image_bytes_of g p.view y width height (image ps m column row) (drop from piece))
            (marks_begin p.view y height column row p.spans);
      }

  module _ (two : height ≤ 2) (n : List ℕ) (c r i : ℕ) (k : Filling n c r i) (l : i < length piece) (t : Place) (f : t ≡ place_after height c r)
      (n' : List ℕ) (d : n' ≡ apply_all g n (image_strokes p.view y c r (get_or piece i 0))) where
    -- a byte stored is a byte stored on the image
    stored_one : image (marks_at t.column t.row) n' t.column t.row
        ≡ stored_on g p.view y height (image (marks_at c r) n c r) (get_or piece i 0)
    stored_one =
        rw (f, d)
        (ap (λ (ps : List Span). image ps (apply_all g n (image_strokes p.view y c r (get_or piece i 0))) (place_after height c r).column (place_after height c r).row)
        (sym (marks_next p.view y height column row c r (get_or piece i 0) p.spans two k.down k.on k.beyond)))

    -- the next place lies behind
    pub next_on : column ≤ t.column
    next_on = rw f (column_on (ltb (r + 1) height) column c k.on)

    pub next_beyond : column + row ≤ t.column + t.row
    next_beyond = rw f (place_on (ltb (r + 1) height) (column + row) c r (omega (arith, k.down)) k.beyond)

    pub next_down : t.row < height
    next_down = rw f (row_next (ltb (r + 1) height) r height refl k.down)

    -- a byte more
    pub filling_next : length n' ≡ length n → eqb t.column width ≡ false → Filling n' t.column t.row (i + 1)
    filling_next e w =
        record {
          low = omega (arith, k.low);
          high = omega arith;
          size = e ∙ k.size;
          across = rw f (column-next (ltb (r + 1) height) c width k.across (rw f at w));
          down = next_down;
          on = next_on;
          beyond = next_beyond;
          done = image_bytes_more g p.view y width height piece i (image (marks_at c r) n c r) l stored_one w ∙ k.done;
        }

    -- the image's last
    pub filling_whole : eqb t.column width ≡ true
        → Stocked g p y width height column row m piece from (filled_to p height column row t.column t.row (i + 1)) n'
    filling_whole w =
        record {
          some = omega (arith, k.low);
          end = omega arith;
          done = image_bytes_whole g p.view y width height piece i (image (marks_at c r) n c r) l stored_one w ∙ k.done;
        }

  -- the piece's end
  pub filling_end : (n : List ℕ) (c r i : ℕ) → Filling n c r i → from < length piece → length piece ≤ i
      → Stocked g p y width height column row m piece from (filled_to p height column row c r i) n
  filling_end n c r i k l e =
      record {
        some = omega arith;
        end = k.high;
        done = image_bytes_end g p.view y width height piece i (image (marks_at c r) n c r) e ∙ k.done;
      }
