-- Columns of two bytes stored in memory, one below the other, are two rows. Assumes nothing.
use mathlib.Core.Path.{◌≡◌, refl, sym, ap, ◌∙◌}
use mathlib.Core.Logic.{◌≢◌}
use mathlib.Core.List.{List}
use Prim.Native.Nat.{ℕ, zero, suc, ◌+◌, ◌*◌, ◌<◌, ◌≤◌}
use native.Mathlib.Nat.{mul-le-mul_left}
use native.Mathlib.Omega.{arith}
use lib.ListN.{get_or, set}
use lib.Seq.{get_or-set_other, set_comm}
use Rattle.laws_laid.specs.Laid.{Stroke, laid, piled, byte_turn, pair_turn, stacked}

-- a byte that is none of a row
module _ (f : Stroke) (s a at : ℕ) where
  -- stays
  laid_other : (w : ℕ) (m : List ℕ) → ((i : ℕ) → i < w → at ≢ a + s * i) → get_or (laid f s a w m) at 0 ≡ get_or m at 0
  laid_other zero m h = refl
  laid_other (suc w) m h =
      get_or-set_other (laid f s a w m) (a + s * w) at _ 0 (h w (omega arith)) ∙ laid_other w m (λ i l. h i (omega arith))

  -- and may be stored after it
  laid_past : (v w : ℕ) (m : List ℕ) → ((i : ℕ) → i < w → at ≢ a + s * i) → laid f s a w (set m at v) ≡ set (laid f s a w m) at v
  laid_past v zero m h = refl
  laid_past v (suc w) m h =
      let row = laid f s a w m in
      ap (byte_turn f s a w) (laid_past v w m (λ i l. h i (omega arith)))
      ∙ ap (λ (b : ℕ). set (set row at v) (a + s * w) (f w b)) (get_or-set_other row at (a + s * w) v 0 (λ e. h w (omega arith) (sym e)))
      ∙ set_comm row at (a + s * w) v _ (h w (omega arith))

-- a column that begins s or more further on does not begin below another
apart : (s a i w : ℕ) → 2 ≤ s → i < w → a + s * w ≢ a + 1 + s * i
apart s a i w h l e = omega (arith, e, mul-le-mul_left s l)

-- a column more of both
module _ (f : ℕ → Stroke) (s a w : ℕ) (upper lower : List ℕ) where
  both_more : lower ≡ laid (f 1) s (a + 1) w upper → 2 ≤ s
      → pair_turn f s a w lower ≡ byte_turn (f 1) s (a + 1) w (laid (f 1) s (a + 1) w (byte_turn (f 0) s (a + 0) w upper))
  both_more e h =
      let here : a + 0 + s * w ≡ a + s * w = omega arith in
      let below : a + 1 + s * w ≡ a + s * w + 1 = omega arith in
      let v = f 0 w (get_or upper (a + s * w) 0) in
      let stays : get_or lower (a + s * w) 0 ≡ get_or upper (a + s * w) 0 =
      ap (λ (m : List ℕ). get_or m (a + s * w) 0) e ∙ laid_other (f 1) s (a + 1) (a + s * w) w upper (λ i l. apart s a i w h l) in
      let past : laid (f 1) s (a + 1) w (set upper (a + s * w) v) ≡ set lower (a + s * w) v =
      laid_past (f 1) s (a + 1) (a + s * w) v w upper (λ i l. apart s a i w h l) ∙ ap (λ (m : List ℕ). set m (a + s * w) v) (sym e) in
      let unseen : get_or (set lower (a + s * w) v) (a + s * w + 1) 0 ≡ get_or lower (a + s * w + 1) 0 =
      get_or-set_other lower (a + s * w) (a + s * w + 1) v 0 (λ q. omega (arith, q)) in
      rw (here, below, past, unseen, stays)

pub stacked-piled : (f : ℕ → Stroke) (s a w : ℕ) (m : List ℕ) → 2 ≤ s → stacked f s a w m ≡ piled f s a w 2 m
stacked-piled f s a zero m h = refl
stacked-piled f s a (suc w) m h = both_more f s a w (laid (f 0) s (a + 0) w m) (stacked f s a w m) (stacked-piled f s a w m h) h
