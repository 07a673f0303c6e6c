-- Rows whose enlargement and mixing are written out are those that the style asks for. Assumes nothing.
use mathlib.Core.Path.{◌≡◌, sym, ap, ap₂, ◌∙◌}
use mathlib.Core.List.{List}
use Prim.Native.Nat.{ℕ, suc, ◌+◌, ◌*◌, ◌/◌}
use native.Mathlib.Nat.{add-zero}
use native.Mathlib.Omega.{arith}
use borrow.Author.Tests.{ne_eqb}
use lib.ListN.{get_or, set}
use Rattle.paper.specs.declared.Style.{Style}
use Rattle.laws_laid.specs.Laid.{Stroke, byte_turn, laid, piled}
use Rattle.laws_laid.proofs.Laid.{turned_same}
use Rattle.glyphs_columns.specs.declared.lift.Lift.{Lift}
use Rattle.glyphs_columns.specs.Columns.{mixed_by, row_byte, row_stroke, cell_stroke}

-- mixing by a number that stands for the style's
abbrev pub Alike : ℕ → ℕ → Type 0
Alike k mixing = (v b : ℕ) → mixed_by k v b ≡ mixed_by mixing v b

pub alike : (k mixing : ℕ) → mixing ≡ k → Alike k mixing
alike k mixing e v b = rw e

-- every other number is exclusive or
pub alike_last : (mixing : ℕ) → (mixing ≡ 0 → ⊥) → (mixing ≡ 1 → ⊥) → (mixing ≡ 2 → ⊥) → Alike 3 mixing
alike_last mixing p q r v b = rw (ne_eqb _ _ p, ne_eqb _ _ q, ne_eqb _ _ r)

module _ (cols : List ℕ) (blanks : ℕ) (p : Lift) (y : Style) (d n k whole s a : ℕ) (down : y.down ≡ d) (across : y.across ≡ n)
    (mixing : Alike k y.mixing) where
  row_as : (r at : ℕ) (m : List ℕ)
      → laid (row_stroke cols blanks p y d r n k) s at (whole * n) m ≡ laid (cell_stroke cols blanks p y r) s at (whole * y.across) m
  row_as r at m =
      rw (down, across)
      (turned_same _ (byte_turn (λ j b. mixed_by y.mixing (row_byte cols blanks p y d r (j / n)) b) s at) (whole * n) m
      (λ j l h. ap (set l (at + s * j)) (mixing _ (get_or l (at + s * j) 0))))

  -- one row
  pub one_row : (m m₁ : List ℕ) → m₁ ≡ laid (row_stroke cols blanks p y d 0 n k) s a (whole * n) m
      → m₁ ≡ piled (cell_stroke cols blanks p y) s a (whole * y.across) 1 m
  one_row m m₁ e =
      e ∙ row_as 0 a m ∙ ap (λ (t : ℕ). laid (cell_stroke cols blanks p y 0) s t (whole * y.across) m) (sym (add-zero a))

  -- both
  pub both_rows : (m m₁ : List ℕ) → m₁ ≡ piled (λ r. row_stroke cols blanks p y d r n k) s a (whole * n) 2 m
      → m₁ ≡ piled (cell_stroke cols blanks p y) s a (whole * y.across) 2 m
  both_rows m m₁ e =
      e ∙ row_as 1 (a + 1) (laid (row_stroke cols blanks p y d 0 n k) s (a + 0) (whole * n) m)
      ∙ ap (laid (cell_stroke cols blanks p y 1) s (a + 1) (whole * y.across)) (row_as 0 (a + 0) m)

  -- the one below it after it
  pub two_rows : (m m₁ m₂ : List ℕ) → m₁ ≡ laid (row_stroke cols blanks p y d 0 n k) s a (whole * n) m
      → m₂ ≡ laid (row_stroke cols blanks p y d 1 n k) s (a + 1) (whole * n) m₁
      → m₂ ≡ piled (cell_stroke cols blanks p y) s a (whole * y.across) 2 m
  two_rows m m₁ m₂ e q = q ∙ ap (λ (l : List ℕ). laid (row_stroke cols blanks p y d 1 n k) s (a + 1) (whole * n) l) (one_row m m₁ e) ∙ row_as 1 (a + 1) _

-- so many rows of so many columns
pub as_high : (f : ℕ → Stroke) (s a w w' h h' : ℕ) (m m₁ : List ℕ) → w ≡ w' → h ≡ h' → m₁ ≡ piled f s a w h m → m₁ ≡ piled f s a w' h' m
as_high f s a w w' h h' m m₁ p q e = e ∙ ap₂ (λ (x y : ℕ). piled f s a x y m) p q

-- a row more
pub as_more : (f : ℕ → Stroke) (s a w r : ℕ) (m m₁ m₂ : List ℕ) → m₁ ≡ piled f s a w r m → m₂ ≡ laid (f r) s (a + r) w m₁
    → m₂ ≡ piled f s a w (r + 1) m
as_more f s a w r m m₁ m₂ e p =
    let next : suc r ≡ r + 1 = omega arith in
    p ∙ ap (laid (f r) s (a + r) w) e ∙ ap (λ (h : ℕ). piled f s a w h m) next
