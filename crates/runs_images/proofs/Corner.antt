-- An image's byte stored in what of a range lies right of its cursor and below: it is stored there as it is in the range.
-- Assumes nothing.
use mathlib.Core.Path.{◌≡◌, refl, ap, ◌∙◌}
use mathlib.Core.Bool.{Bool, true, false}
use mathlib.Core.List.{List}
use Prim.Native.Nat.{ℕ, ◌+◌, ◌-◌, ◌≤◌}
use native.Mathlib.Omega.{arith}
use lib.Dec.{ltb}
use borrow.Author.Tests.{ltb-true, ltb-false, lt-ltb, le-ltb}
use Rattle.paper.specs.declared.Module.{Module}
use Rattle.paper.specs.declared.Style.{Style}
use Rattle.paper.specs.declared.View.{View}
use Rattle.paper.specs.Strokes.{Stroke, apply_all}
use Rattle.paper.specs.Carry.{image_strokes}
use Rattle.laws_state.specs.Room.{InMemory}
use Rattle.images_places.specs.Places.{from_cursor}

-- so far from the cursor is inside the range, counted from the cursor or from the range's edge
inside-same : (at room n : ℕ) → at ≤ room → ltb (0 + n) (room - at) ≡ ltb (at + n) room
inside-same at room n h = go (ltb (at + n) room) refl
  where
    go : (t : Bool) → ltb (at + n) room ≡ t → ltb (0 + n) (room - at) ≡ t
    go true e = let l = ltb-true (at + n) room e in lt-ltb (0 + n) (room - at) (omega arith)
    go false e = let l = ltb-false (at + n) room e in le-ltb (0 + n) (room - at) (omega arith)

pub cursor_strokes : (v : View) (y : Style) (column row b : ℕ) → v.x ≤ v.width → v.y ≤ v.height
    → image_strokes (from_cursor v) y column row b ≡ image_strokes v y column row b
unfolding image_strokes
cursor_strokes v y column row b hx hy =
    let across : v.left + v.x + (0 + column) ≡ v.left + (v.x + column) = omega arith in
    let down : v.top + v.y + (0 + row) ≡ v.top + (v.y + row) = omega arith in
    rw (inside-same v.x v.width column hx, inside-same v.y v.height row hy, across, down)

module _ {g : Module} (v : View) {v' : View} (from : v' ≡ from_cursor v) (place : InMemory g v) where
  -- it lies in memory as the range does
  pub corner_in : InMemory g v'
  corner_in =
      rw from record {
        across = omega (arith, place.across, place.x);
        down = omega (arith, place.down, place.y);
        x = omega (arith, place.x);
        y = omega (arith, place.y);
      }

  -- and a byte stored there is stored in the range
  pub corner_stored : (y : Style) (column row b : ℕ) (m m' : List ℕ) → m' ≡ apply_all g m (image_strokes v' y column row b)
      → m' ≡ apply_all g m (image_strokes v y column row b)
  corner_stored y column row b m m' e =
      e ∙ ap (λ (ss : List Stroke). apply_all g m ss)
      (ap (λ (u : View). image_strokes u y column row b) from ∙ cursor_strokes v y column row b (omega (arith, place.x)) (omega (arith, place.y)))
