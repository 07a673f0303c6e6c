-- The columns of a row of a whole cell: blank, the glyph's, blank; and columns after others. Assumes nothing.
use mathlib.Core.Path.{◌≡◌, refl, sym, ap, ◌∙◌}
use mathlib.Core.Bool.{Bool, true, false, cond}
use mathlib.Core.List.{List}
use Prim.Native.Nat.{ℕ, ◌+◌, ◌*◌, ◌/◌, ◌%◌, ◌<◌, ◌≤◌}
use native.Mathlib.Omega.{arith}
use borrow.Author.Tests.{ne_eqb}
use lib.Dec.{eqb}
use lib.ListN.{length, get_or, set}
use Rattle.paper.specs.declared.Style.{Style}
use Rattle.laws_bytes.specs.Bytes.{double, tall_byte, reversed_byte}
use Rattle.laws_laid.specs.Laid.{byte_turn, laid}
use Rattle.laws_laid.proofs.Laid.{turned_none, turned_to_lem, turned_same, columns_more}
use Rattle.glyphs_columns.specs.declared.lift.Lift.{Lift}
use Rattle.glyphs_columns.specs.Columns.{lifted_of, fetched_of, row_byte, mixed_by, row_stroke}
use Rattle.glyphs_columns.proofs.Beside.{lifted_none, fetched_left, fetched_glyph, fetched_right}

-- a column without a dot has none on any row
tall_none : (s t : Bool) → cond s 0 (cond t (double (0 / 16)) (double (0 % 16))) ≡ 0
tall_none true t = refl
tall_none false true = refl
tall_none false false = refl

module _ (cols : List ℕ) (blanks : ℕ) (p : Lift) (y : Style) (down r : ℕ) where
  row_none : (k : ℕ) → fetched_of cols blanks k ≡ 0 → row_byte cols blanks p y down r k ≡ reversed_byte y 0
  row_none k e =
      ap (λ (v : ℕ). reversed_byte y (tall_byte down r (lifted_of p v))) e
      ∙ ap (λ (v : ℕ). reversed_byte y (tall_byte down r v)) (lifted_none p)
      ∙ ap (reversed_byte y) (tall_none (eqb down 1) (eqb r 0))

  -- c columns of one byte after k others
  row_more : (n mixing s from k c at v : ℕ) (m m₁ m₂ : List ℕ) → 1 ≤ n → m₁ ≡ laid (row_stroke cols blanks p y down r n mixing) s from (k * n) m
      → at ≡ from + s * (k * n) → ((b : ℕ) → b < c → v ≡ row_byte cols blanks p y down r (k + b))
      → m₂ ≡ laid (λ j b. mixed_by mixing v b) s at (c * n) m₁
      → m₂ ≡ laid (row_stroke cols blanks p y down r n mixing) s from ((k + c) * n) m
  row_more n mixing s from k c at v m m₁ m₂ pos e ea ev q =
      columns_more (λ d. byte_turn (λ j b. mixed_by mixing (row_byte cols blanks p y down r d) b) s from) n m pos
      (byte_turn (λ j b. mixed_by mixing v b) s at) k c m₁ m₂ e
      (λ i b l h.
      let place : at + s * i ≡ from + s * (k * n + i) = omega (arith, ea) in
      rw (place, ev b h)) q

  module _ (n mixing s from : ℕ) (pos : 1 ≤ n) (m : List ℕ) where
    -- those on the left
    pub row_left : (v : ℕ) (m₂ : List ℕ) → v ≡ reversed_byte y 0 → m₂ ≡ laid (λ j b. mixed_by mixing v b) s from (blanks * n) m
        → m₂ ≡ laid (row_stroke cols blanks p y down r n mixing) s from (blanks * n) m
    row_left v m₂ ev q =
        let all : 0 + blanks ≡ blanks = omega arith in
        turned_to_lem (byte_turn (row_stroke cols blanks p y down r n mixing) s from) _ _ m m₂
        (row_more n mixing s from 0 blanks from v m m m₂ pos (turned_none (byte_turn (row_stroke cols blanks p y down r n mixing) s from) (0 * n) m (omega arith)) (omega arith)
        (λ b h. ev ∙ sym (row_none (0 + b) (fetched_left cols blanks (0 + b) (omega arith)))) q) (ap (λ (t : ℕ). t * n) all)

    -- one of the glyph's
    pub row_glyph : (j at v : ℕ) (m₁ m₂ : List ℕ) → j < length cols → m₁ ≡ laid (row_stroke cols blanks p y down r n mixing) s from ((blanks + j) * n) m
        → at ≡ from + s * ((blanks + j) * n) → v ≡ reversed_byte y (tall_byte down r (lifted_of p (get_or cols j 0)))
        → m₂ ≡ laid (λ i b. mixed_by mixing v b) s at n m₁
        → m₂ ≡ laid (row_stroke cols blanks p y down r n mixing) s from ((blanks + (j + 1)) * n) m
    row_glyph j at v m₁ m₂ h e ea ev q =
        let one : blanks + j + 1 ≡ blanks + (j + 1) = omega arith in
        turned_to_lem (byte_turn (row_stroke cols blanks p y down r n mixing) s from) _ _ m m₂
        (row_more n mixing s from (blanks + j) 1 at v m m₁ m₂ pos e ea
        (λ b l.
        let here : blanks + j + b ≡ blanks + j = omega (arith, l) in
        ev ∙ ap (λ (u : ℕ). reversed_byte y (tall_byte down r (lifted_of p u))) (sym (fetched_glyph cols blanks j h))
        ∙ ap (row_byte cols blanks p y down r) (sym here))
        (turned_to_lem (byte_turn (λ i b. mixed_by mixing v b) s at) n (1 * n) m₁ m₂ q (omega arith))) (ap (λ (t : ℕ). t * n) one)

    -- those on the right
    pub row_right : (j c at v : ℕ) (m₁ m₂ : List ℕ) → length cols ≤ j → m₁ ≡ laid (row_stroke cols blanks p y down r n mixing) s from ((blanks + j) * n) m
        → at ≡ from + s * ((blanks + j) * n) → v ≡ reversed_byte y 0 → m₂ ≡ laid (λ i b. mixed_by mixing v b) s at (c * n) m₁
        → m₂ ≡ laid (row_stroke cols blanks p y down r n mixing) s from ((blanks + j + c) * n) m
    row_right j c at v m₁ m₂ h e ea ev q =
        row_more n mixing s from (blanks + j) c at v m m₁ m₂ pos e ea
        (λ b l.
        let here : blanks + (j + b) ≡ blanks + j + b = omega arith in
        ev ∙ sym (row_none (blanks + j + b) (rw (← here) (fetched_right cols blanks (j + b) (omega arith))))) q

  -- every number above 2 mixes as 3 does
  pub row_last : (n mixing s from w : ℕ) → 3 ≤ mixing → (m : List ℕ)
      → laid (row_stroke cols blanks p y down r n 3) s from w m ≡ laid (row_stroke cols blanks p y down r n mixing) s from w m
  row_last n mixing s from w above m =
      turned_same (byte_turn (row_stroke cols blanks p y down r n 3) s from) (byte_turn (row_stroke cols blanks p y down r n mixing) s from) w m
      (λ j l h. ap (set l (from + s * j)) (flipped (row_byte cols blanks p y down r (j / n)) (get_or l (from + s * j) 0)))
    where
      flipped : (v b : ℕ) → mixed_by 3 v b ≡ mixed_by mixing v b
      flipped v b = rw (ne_eqb mixing 0 (λ e. omega arith), ne_eqb mixing 1 (λ e. omega arith), ne_eqb mixing 2 (λ e. omega arith))
