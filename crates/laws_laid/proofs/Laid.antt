-- Bytes laid into memory, one column after the other: a column more, columns after others, and the rectangle that they fill. Assumes nothing.
use mathlib.Core.Path.{◌≡◌, refl, sym, ap, ◌∙◌}
use mathlib.Core.List.{List}
use Prim.Native.Nat.{ℕ, zero, suc, ◌+◌, ◌*◌, ◌/◌, ◌<◌, ◌≤◌}
use native.Mathlib.Nat.{add-zero, mul-add-div_right, div-lt_iff_lt-mul, mul-le-mul_left}
use native.Mathlib.Omega.{arith}
use lib.ListN.{length, get_or, set, length-set}
use Rattle.paper.specs.declared.Module.{Module}
use Rattle.paper.specs.Panel.{address, memory_length}
use Rattle.paper.specs.Strokes.{rect_at, rect_map}
use Rattle.laws_memory.proofs.Addresses.{address-lt}
use Rattle.laws_memory.proofs.Rects.{rect_none, row_turn, rect_turn}
use Rattle.laws_laid.specs.Laid.{Stroke, Turn, turned, laid, piled}

-- ---- turns

module _ (t : Turn) where
  -- none yet
  pub turned_none : (w : ℕ) (m : List ℕ) → w ≡ 0 → m ≡ turned t w m
  turned_none w m e = rw e

  -- one more
  pub turned_more : (w w' : ℕ) (m m₁ m₂ : List ℕ) → m₁ ≡ turned t w m → w' ≡ suc w → m₂ ≡ t w m₁ → m₂ ≡ turned t w' m
  turned_more w w' m m₁ m₂ e q p = p ∙ rw (q, e)

  -- as many as are asked for
  pub turned_to_lem : (w w' : ℕ) (m m₁ : List ℕ) → m₁ ≡ turned t w m → w ≡ w' → m₁ ≡ turned t w' m
  turned_to_lem w w' m m₁ e k = rw (← k) e

-- turns that agree make the same
pub turned_same : (t u : Turn) (w : ℕ) (m : List ℕ) → ((j : ℕ) (l : List ℕ) → j < w → t j l ≡ u j l) → turned t w m ≡ turned u w m
turned_same t u zero m e = refl
turned_same t u (suc w) m e = ap (t w) (turned_same t u w m (λ j l h. e j l (omega arith))) ∙ e w (turned u w m) (omega arith)

-- turns after others
turned-append : (t u : Turn) (w n : ℕ) (m : List ℕ) → ((i : ℕ) (l : List ℕ) → i < n → u i l ≡ t (w + i) l)
    → turned u n (turned t w m) ≡ turned t (w + n) m
turned-append t u w zero m e = ap (λ (k : ℕ). turned t k m) (sym (add-zero w))
turned-append t u w (suc n) m e =
    let before = turned-append t u w n m (λ i l h. e i l (omega arith)) in
    turned_more t (w + n) (w + suc n) m _ _ before (omega arith) (e n _ (omega arith))

-- ---- columns that are each stored n times

-- no column n times, and one
pub times_none : (c n : ℕ) → c ≡ 0 → c * n ≡ 0
times_none c n e = rw e (omega arith)

pub times_one : (c n : ℕ) → c ≡ 1 → n ≡ c * n
times_one c n e = rw e (omega arith)

-- column k of c, stored n times
repeat : (n k c i : ℕ) → 1 ≤ n → i < c * n → ((k * n + i) / n ≡ k + i / n) × (i / n < c)
repeat n k c i pos h = (mul-add-div_right pos k i, (div-lt_iff_lt-mul pos).1 h)

module _ (f : ℕ → Turn) (n : ℕ) (m : List ℕ) (pos : 1 ≤ n) where
  -- c columns alike after k others: what is done at a place of the first is what is done there
  pub columns_more : (g : Turn) (k c : ℕ) (m₁ m₂ : List ℕ) → m₁ ≡ turned (λ j. f (j / n) j) (k * n) m
      → ((i b : ℕ) (l : List ℕ) → b < c → g i l ≡ f (k + b) (k * n + i) l) → m₂ ≡ turned g (c * n) m₁
      → m₂ ≡ turned (λ j. f (j / n) j) ((k + c) * n) m
  columns_more g k c m₁ m₂ e same p =
      let all : k * n + c * n ≡ (k + c) * n = omega arith in
      p ∙ rw e
      (turned-append (λ j. f (j / n) j) g (k * n) (c * n) m
      (λ i l h. same i (i / n) l (repeat n k c i pos h).1 ∙ ap (λ (b : ℕ). f b (k * n + i) l) (sym (repeat n k c i pos h).0)))
      ∙ ap (λ (w : ℕ). turned (λ j. f (j / n) j) w m) all

-- ---- bytes

-- as long as before
laid-length : (f : Stroke) (s a w : ℕ) (m : List ℕ) → length (laid f s a w m) ≡ length m
laid-length f s a zero m = refl
laid-length f s a (suc w) m = length-set (laid f s a w m) _ _ ∙ laid-length f s a w m

-- a byte more
pub laid_more : (f : Stroke) (s a w w' at u : ℕ) (m m₁ : List ℕ) → m₁ ≡ laid f s a w m → at ≡ a + s * w → u ≡ f w (get_or m₁ at 0) → w' ≡ suc w
    → set m₁ at u ≡ laid f s a w' m
laid_more f s a w w' at u m m₁ e k p q = rw (q, p, k, e)

-- so far as n columns reach, s apart from address a on
module _ (a s n len : ℕ) (h : a + s * n < len + s) where
  pub reach_1 : 1 ≤ n → a < len
  reach_1 p = omega (arith, mul-le-mul_left s p)

  pub reach_2 : 2 ≤ n → a + s < len
  reach_2 p = omega (arith, mul-le-mul_left s p)

  pub reach_3 : 3 ≤ n → a + s + s < len
  reach_3 p = omega (arith, mul-le-mul_left s p)

  pub reach_4 : 4 ≤ n → a + s + s + s < len
  reach_4 p = omega (arith, mul-le-mul_left s p)

-- so far as some of c columns reach, each n times
pub columns_reach : (a s n k d c len : ℕ) → k + d ≤ c → a + s * (c * n) < len + s → a + s * (k * n) + s * (d * n) < len + s
columns_reach a s n k d c len l h = omega (arith, mul-le-mul_left s (mul-le-mul_left n l))

-- ---- the rectangle that they fill

-- on a row of memory
laid_rect : (g : Module) (f : Stroke) (x y w : ℕ) (m : List ℕ) → y < g.rows → x + w ≤ g.columns → length m ≡ memory_length g
    → laid f g.rows (address g x y) w m ≡ rect_map g (rect_at x y w 1) (λ j r b. f j b) m
laid_rect g f x y zero m hy hw e = rect_none g (rect_at x y 0 1) _ m (λ a i. omega arith)
laid_rect g f x y (suc w) m hy hw e =
    row_turn g x y w (λ j r b. f j b) m (laid f g.rows (address g x y) w m) _ _ (omega arith)
    (laid_rect g f x y w m hy (omega arith) e) hy
    (rw (laid-length f g.rows (address g x y) w m, e) (omega (arith, address-lt g (x + w) y hy g.columns (omega arith)))) refl
    ∙ ap (λ (n : ℕ). rect_map g (rect_at x y n 1) (λ j r b. f j b) m) (omega arith)

-- rows one below the other are as long as before
piled-length : (f : ℕ → Stroke) (s a w h : ℕ) (m : List ℕ) → length (piled f s a w h m) ≡ length m
piled-length f s a w zero m = refl
piled-length f s a w (suc h) m = laid-length (f h) s (a + h) w (piled f s a w h m) ∙ piled-length f s a w h m

-- and fill a rectangle
pub piled_rect : (g : Module) (f : ℕ → Stroke) (x y w h : ℕ) (m : List ℕ) → y + h ≤ g.rows → x + w ≤ g.columns
    → length m ≡ memory_length g
    → piled f g.rows (address g x y) w h m ≡ rect_map g (rect_at x y w h) (λ j r b. f r j b) m
piled_rect g f x y w zero m hy hw e = rect_none g (rect_at x y w 0) _ m (λ a i. omega arith)
piled_rect g f x y w (suc h) m hy hw e =
    let before = piled_rect g f x y w h m (omega arith) hw e in
    let place : address g x y + h ≡ address g x (y + h) = omega arith in
    rect_turn g x y w h (λ j r b. f r j b) (λ j r b. f h j b) m _ _ before
    (ap (λ (a : ℕ). laid (f h) g.rows a w (piled f g.rows (address g x y) w h m)) place
    ∙ laid_rect g (f h) x (y + h) w _ (omega arith) hw (piled-length f g.rows (address g x y) w h m ∙ e)) (λ j b hj. refl)
    ∙ ap (λ (n : ℕ). rect_map g (rect_at x y w n) (λ j r b. f r j b) m) (omega arith)
