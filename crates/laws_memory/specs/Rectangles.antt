-- What the functions on memory ask of it and of a rectangle, and what they make of it: each a name for an expression of
-- the paper. Assumes nothing.
use Rattle.std.specs.Prelude.{◌≡◌, cond, List, ℕ, ◌+◌, ◌≤◌, ◌<◌, ltb, length, get_or}
use Rattle.paper.specs.declared.Module.{Module}
use Rattle.paper.specs.declared.Rect.{Rect}
use Rattle.paper.specs.Panel.{memory_length, address}
use Rattle.paper.specs.Strokes.{rect_map}

-- a byte for each column and row, and few enough that an address fits a number
pub record Fits (g : Module) (m : List ℕ) : Type 0 where
  pub size : length m ≡ memory_length g
  pub small : memory_length g ≤ 65536

-- every number of the list is a byte
abbrev pub Bytes : List ℕ → Type 0
Bytes m = (a : ℕ) → get_or m a 0 < 256

-- the rectangle lies in the memory
pub record Within (g : Module) (q : Rect) : Type 0 where
  pub across : q.left + q.width ≤ g.columns
  pub down : q.top + q.height ≤ g.rows

-- the rectangle zeroed
unfoldable pub cleared : Module → Rect → List ℕ → List ℕ
cleared g q m = rect_map g q (λ j r b. 0) m

-- the rectangle's bytes, each taken from the place so many columns right of it and so many rows below
unfoldable pub pulled : Module → Rect → ℕ → ℕ → List ℕ → List ℕ
pulled g q right down m = rect_map g q (λ j r b. get_or m (address g (q.left + (j + right)) (q.top + (r + down))) 0) m

-- "scroll the range up, zero the lowest": the rectangle so many rows up, zeros entering
unfoldable pub scrolled_up : Module → Rect → ℕ → List ℕ → List ℕ
scrolled_up g q n m =
    rect_map g q (λ j r b. cond (ltb (r + n) q.height) (get_or m (address g (q.left + j) (q.top + (r + n))) 0) 0) m

-- "move left by n columns, zeros enter (all zeros if that is W or more)"
unfoldable pub moved_left : Module → Rect → ℕ → List ℕ → List ℕ
moved_left g q n m =
    rect_map g q (λ j r b. cond (ltb (j + n) q.width) (get_or m (address g (q.left + (j + n)) (q.top + r)) 0) 0) m
