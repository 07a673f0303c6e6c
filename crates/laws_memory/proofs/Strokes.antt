-- Strokes: the leaves as the paper's strokes, and what one stroke, or a list of them, does to a memory. Assumes nothing.
use mathlib.Core.Path.{◌≡◌, refl, ◌∙◌}
use mathlib.Core.List.{List, [], ◌∷◌, ◌++◌}
use Prim.Native.Nat.{ℕ, ◌+◌, ◌-◌, ◌<◌}
use lib.ListN.{length, get_or}
use Rattle.paper.specs.declared.Module.{Module}
use Rattle.paper.specs.declared.View.{View}
use Rattle.paper.specs.Panel.{address, column_of, row_of}
use Rattle.paper.specs.Strokes.{Stroke, rect_map, applied, apply_all}
use Rattle.paper.specs.Cells.{memory_rect, range_of, rows_of, clear_stroke, erase_stroke, up_stroke, left_stroke}
use Rattle.laws_memory.specs.Rectangles.{Bytes, cleared, scrolled_up, moved_left}
use Rattle.laws_memory.proofs.Rects.{Change, InRect, rect_length, rect_in, rect_out, rect_same, rect_bytes}

-- ---- the leaves

module _ (g : Module) (m : List ℕ) (v : View) where
  pub clear_stroke_lem : cleared g (range_of v) m ≡ applied g m (clear_stroke v)
  unfolding cleared
  clear_stroke_lem = refl

  pub up_stroke_lem : (l : ℕ) → scrolled_up g (range_of v) l m ≡ applied g m (up_stroke g v l)
  unfolding scrolled_up
  up_stroke_lem l = refl

  pub left_stroke_lem : (l n : ℕ) → moved_left g (rows_of v l) n m ≡ applied g m (left_stroke g v l n)
  unfolding moved_left
  left_stroke_lem l n = refl

pub erase_stroke_lem : (g : Module) (m : List ℕ) → cleared g (memory_rect g) m ≡ applied g m (erase_stroke g)
unfolding cleared
erase_stroke_lem g m = refl

-- ---- one stroke

module _ (g : Module) (m : List ℕ) (s : Stroke) where
  pub applied-length : length (applied g m s) ≡ length m
  applied-length = rect_length g s.rect (s.byte m) m

  -- what stands in its rectangle afterwards
  pub applied_in : (a : ℕ) → a < length m → InRect g s.rect a
      → get_or (applied g m s) a 0 ≡ s.byte m (column_of g a - s.rect.left) (row_of g a - s.rect.top) (get_or m a 0)
  applied_in = rect_in g s.rect (s.byte m) m

  -- what lies outside is unchanged
  pub applied_out : (a : ℕ) → a < length m → (InRect g s.rect a → ⊥) → get_or (applied g m s) a 0 ≡ get_or m a 0
  applied_out = rect_out g s.rect (s.byte m) m

  -- bytes that agree with the stroke's inside its rectangle give the same memory
  pub applied-same : (f : Change)
      → ((j r : ℕ) → j < s.rect.width → r < s.rect.height
      → let b = get_or m (address g (s.rect.left + j) (s.rect.top + r)) 0 in f j r b ≡ s.byte m j r b)
      → rect_map g s.rect f m ≡ applied g m s
  applied-same f = rect_same g s.rect f (s.byte m) m

  pub applied-bytes : ((j r b : ℕ) → b < 256 → s.byte m j r b < 256) → Bytes m → Bytes (applied g m s)
  applied-bytes = rect_bytes g s.rect (s.byte m) m

-- ---- strokes in a row

pub apply_append : (g : Module) (m : List ℕ) (ss ts : List Stroke)
    → apply_all g m (ss ++ ts) ≡ apply_all g (apply_all g m ss) ts
apply_append g m [] ts = refl
apply_append g m (s ∷ ss) ts = apply_append g (applied g m s) ss ts

pub apply_length : (g : Module) (m : List ℕ) (ss : List Stroke) → length (apply_all g m ss) ≡ length m
apply_length g m [] = refl
apply_length g m (s ∷ ss) = apply_length g (applied g m s) ss ∙ applied-length g m s
