-- The turns of the loops of `pull`, and what a pull with a clearing below it or beside it makes. Assumes nothing.
use mathlib.Core.Path.{◌≡◌, refl, sym, ap, ap₂, ◌∙◌}
use mathlib.Core.Bool.{cond}
use mathlib.Core.List.{List}
use Prim.Native.Nat.{ℕ, ◌+◌, ◌<◌, min}
use native.Mathlib.Omega.{arith}
use lib.Dec.{ltb, ltb→lt, lt→ltb}
use lib.ListN.{length, get_or, set}
use Rattle.paper.specs.declared.Module.{Module}
use Rattle.paper.specs.Panel.{address}
use Rattle.paper.specs.Strokes.{rect_at, rect_map}
use Rattle.laws_memory.specs.Rectangles.{Fits, Within, cleared, pulled, scrolled_up, moved_left}
use Rattle.laws_memory.proofs.Tests.{cond_yes, cond_no}
use Rattle.laws_memory.proofs.Addresses.{address-lt}
use Rattle.laws_memory.proofs.Rects.{Change, rect_elsewhere, rect_beside, rect_below, row_turn, rect_turn}

-- ---- the turns

module _ (g : Module) (m : List ℕ) (fits : Fits g m) (left right down : ℕ) where
  -- a place is in the memory
  place_in : (x y : ℕ) → x < g.columns → y < g.rows → address g x y < length m
  place_in x y hx hy = omega (arith, address-lt g x y hy g.columns hx)

  -- a byte taken from a place that the loop has not come to
  pub pull_row_turn : (y w j : ℕ) (cur next : List ℕ) → Within g (rect_at left y (w + right) (1 + down)) → j < w
      → cur ≡ pulled g (rect_at left y j 1) right down m → length cur ≡ length m
      → next ≡ set cur (address g (left + j) y) (get_or cur (address g (left + j + right) (y + down)) 0)
      → next ≡ pulled g (rect_at left y (j + 1) 1) right down m
  unfolding pulled
  pull_row_turn y w j cur next within hj e len en =
      en
      ∙ row_turn g left y j _ m cur (address g (left + j) y) (get_or cur (address g x (y + down)) 0) refl e (omega arith) inside
      (still ∙ ap₂ (λ (n r : ℕ). get_or m (address g n (y + r)) 0) (omega arith) (omega arith))
    where
      x : ℕ
      x = left + j + right

      inside : address g (left + j) y < length cur
      inside = omega (arith, place_in (left + j) y (omega arith) (omega arith))

      still : get_or cur (address g x (y + down)) 0 ≡ get_or m (address g x (y + down)) 0
      still =
          rect_elsewhere g (rect_at left y j 1) _ m cur x (y + down) e (omega arith)
          (place_in x (y + down) (omega arith) (omega arith)) (λ i. omega arith)

  -- a row taken from rows that the loop has not come to
  pub pull_turn : (top w h r : ℕ) (cur next : List ℕ) → Within g (rect_at left top (w + right) (h + down)) → r < h
      → cur ≡ pulled g (rect_at left top w r) right down m → next ≡ pulled g (rect_at left (top + r) w 1) right down cur
      → next ≡ pulled g (rect_at left top w (r + 1)) right down m
  unfolding pulled
  pull_turn top w h r cur next within hr e e' = rect_turn g left top w r _ _ m cur next e e' still
    where
      y : ℕ
      y = top + (r + down)

      still : (j b : ℕ) → j < w
          → let x = left + (j + right) in get_or cur (address g x (top + r + (0 + down))) 0 ≡ get_or m (address g x y) 0
      still j b hj =
          let x = left + (j + right) in
          ap (λ (n : ℕ). get_or cur (address g x n) 0) (omega arith)
          ∙ rect_elsewhere g (rect_at left top w r) _ m cur x y e (omega arith) (place_in x y (omega arith) (omega arith))
          (λ k. omega arith)

-- ---- the parts of a move

-- of a size, as much as n says is gone, and the rest is kept
abbrev pub Parts : ℕ → ℕ → ℕ → ℕ → Type 0
Parts size n kept gone = (gone ≡ min n size) × (kept + gone ≡ size)

module _ (g : Module) (m cur end : List ℕ) (left top w h n kept gone : ℕ) where
  -- the rows that are kept, taken from below, and zeros under them
  pub scrolled_parts : Parts h n kept gone → cur ≡ pulled g (rect_at left top w kept) 0 gone m
      → end ≡ cleared g (rect_at left (top + kept) w gone) cur → end ≡ scrolled_up g (rect_at left top w h) n m
  unfolding cleared pulled scrolled_up
  scrolled_parts p e e' =
      e' ∙ ap (rect_map g (rect_at left (top + kept) w gone) (λ j r b. 0)) e
      ∙ rect_below g left top w kept gone _ _ up m
      (λ j r b hj hr. ap₂ (λ (x y : ℕ). get_or m (address g x y) 0) (omega arith) (omega arith)
      ∙ sym (cond_yes (ltb (r + n) h) _ _ (lt→ltb (r + n) h (omega arith))))
      (λ j r b hj hr. sym (cond_no (ltb (kept + r + n) h) _ _ (λ t. let k = ltb→lt (kept + r + n) h t in omega arith)))
      ∙ ap (λ (k : ℕ). rect_map g (rect_at left top w k) up m) p.1
    where
      up : Change
      up j r b = cond (ltb (r + n) h) (get_or m (address g (left + j) (top + (r + n))) 0) 0

  -- the columns that are kept, taken from the right, and zeros beside them
  pub moved_parts : Parts w n kept gone → cur ≡ pulled g (rect_at left top kept h) gone 0 m
      → end ≡ cleared g (rect_at (left + kept) top gone h) cur → end ≡ moved_left g (rect_at left top w h) n m
  unfolding cleared pulled moved_left
  moved_parts p e e' =
      e' ∙ ap (rect_map g (rect_at (left + kept) top gone h) (λ j r b. 0)) e
      ∙ rect_beside g left top kept gone h _ _ over m
      (λ j r b hj hr. ap₂ (λ (x y : ℕ). get_or m (address g x y) 0) (omega arith) (omega arith)
      ∙ sym (cond_yes (ltb (j + n) w) _ _ (lt→ltb (j + n) w (omega arith))))
      (λ j r b hj hr. sym (cond_no (ltb (kept + j + n) w) _ _ (λ t. let k = ltb→lt (kept + j + n) w t in omega arith)))
      ∙ ap (λ (k : ℕ). rect_map g (rect_at left top k h) over m) p.1
    where
      over : Change
      over j r b = cond (ltb (j + n) w) (get_or m (address g (left + (j + n)) (top + r)) 0) 0
