-- The columns of a whole cell two rows high, as numbers: blank, the glyph's, blank; columns after others; and the rows that they are, in
-- place of what stood there or by exclusive or. Assumes nothing.
use mathlib.Core.Path.{◌≡◌, refl, sym, ap, ◌∙◌}
use mathlib.Core.Bool.{Bool, true, false, cond}
use mathlib.Core.List.{List}
use Prim.Native.Nat.{ℕ, ◌+◌, ◌*◌, ◌-◌, ◌/◌, ◌%◌, ◌<◌, ◌≤◌}
use native.Mathlib.Omega.{arith}
use lib.Dec.{eqb}
use lib.ListN.{length, get_or}
use Rattle.paper.specs.declared.Style.{Style}
use Rattle.laws_bytes.specs.Bytes.{double}
use Rattle.laws_laid.specs.Laid.{Stroke, pair_turn, stacked, piled}
use Rattle.laws_laid.proofs.Laid.{turned_none, turned_to_lem, turned_same, columns_more, columns_reach}
use Rattle.laws_laid.proofs.Stacked.{stacked-piled}
use Rattle.glyphs_columns.specs.declared.lift.Lift.{Lift}
use Rattle.glyphs_columns.specs.Columns.{lifted_of, fetched_of, row_stroke, whole_of}
use Rattle.glyphs_columns.proofs.Beside.{lifted_none, fetched_left, fetched_glyph, fetched_right}
use Rattle.cells_tall.specs.Both.{spread_of, reversed_both, both_stroke}

-- column k as one number: fetched, placed, repeated downwards and reversed
abbrev both_columns : List ℕ → ℕ → Lift → Style → ℕ → ℕ
both_columns cols blanks p y k = reversed_both y (spread_of (lifted_of p (fetched_of cols blanks k)))

double-lt : (n : ℕ) → double n < 256
double-lt n = omega arith

-- the low byte of two, inverted or not, and the high one
low : (t : Bool) (u l : ℕ) → u < 256 → l < 256 → cond t (65535 - (u + 256 * l)) (u + 256 * l) % 256 ≡ cond t (255 - u) u
low true u l hu hl = omega arith
low false u l hu hl = omega arith

high : (t : Bool) (u l : ℕ) → u < 256 → l < 256 → cond t (65535 - (u + 256 * l)) (u + 256 * l) / 256 ≡ cond t (255 - l) l
high true u l hu hl = omega arith
high false u l hu hl = omega arith

module _ (cols : List ℕ) (blanks : ℕ) (p : Lift) (y : Style) where
  both_none : (k : ℕ) → fetched_of cols blanks k ≡ 0 → both_columns cols blanks p y k ≡ reversed_both y 0
  both_none k e =
      ap (λ (v : ℕ). reversed_both y (spread_of (lifted_of p v))) e ∙ ap (λ (v : ℕ). reversed_both y (spread_of v)) (lifted_none p)

  -- on the left
  both_left : (k : ℕ) → k < blanks → both_columns cols blanks p y k ≡ reversed_both y 0
  both_left k h = both_none k (fetched_left cols blanks k h)

  -- the glyph's
  both_glyph : (j : ℕ) → j < length cols → both_columns cols blanks p y (blanks + j) ≡ reversed_both y (spread_of (lifted_of p (get_or cols j 0)))
  both_glyph j h = ap (λ (v : ℕ). reversed_both y (spread_of (lifted_of p v))) (fetched_glyph cols blanks j h)

  -- on the right
  both_right : (j : ℕ) → length cols ≤ j → both_columns cols blanks p y (blanks + j) ≡ reversed_both y 0
  both_right j h = both_none (blanks + j) (fetched_right cols blanks j h)

  module _ (flip : Bool) (n s from : ℕ) where
    -- what becomes of the bytes of a cell's columns, each stored n times
    abbrev cell_both : ℕ → Stroke
    cell_both = both_stroke flip (λ j. both_columns cols blanks p y (j / n))

    -- c columns alike after k others
    both_more : (k c w at z : ℕ) (m m₁ m₂ : List ℕ) → 1 ≤ n → m₁ ≡ stacked cell_both s from (k * n) m → at ≡ from + s * (k * n)
        → ((b : ℕ) → b < c → z ≡ both_columns cols blanks p y (k + b)) → m₂ ≡ stacked (both_stroke flip (λ j. z)) s at (c * n) m₁ → k + c ≡ w
        → m₂ ≡ stacked cell_both s from (w * n) m
    both_more k c w at z m m₁ m₂ pos e ea ez q ew =
        turned_to_lem (pair_turn cell_both s from) ((k + c) * n) (w * n) m m₂
        (columns_more (λ d. pair_turn (both_stroke flip (λ j. both_columns cols blanks p y d)) s from) n m pos
        (pair_turn (both_stroke flip (λ j. z)) s at) k c m₁ m₂ e
        (λ i b l h.
        let place : at + s * i ≡ from + s * (k * n + i) = omega (arith, ea) in
        rw (place, ez b h)) q) (ap (λ (v : ℕ). v * n) ew)

    -- they are two rows
    cell_piled : (w : ℕ) (m : List ℕ) → 2 ≤ s
        → stacked cell_both s from w m ≡ piled (λ r. row_stroke cols blanks p y 2 r n (cond flip 3 0)) s from w 2 m
    cell_piled w m h =
        let rows : ℕ → Stroke = λ r. row_stroke cols blanks p y 2 r n (cond flip 3 0) in
        turned_same (pair_turn cell_both s from) (pair_turn rows s from) w m
        (λ j l b.
        let v = lifted_of p (fetched_of cols blanks (j / n)) in
        rw (low (eqb y.reverse 1) (double (v / 16)) (double (v % 16)) (double-lt (v / 16)) (double-lt (v % 16)), high (eqb y.reverse 1) (double (v / 16)) (double (v % 16)) (double-lt (v / 16)) (double-lt (v % 16))))
        ∙ stacked-piled rows s from w m h

    -- ---- a whole cell

    -- the glyph's first j columns are stored, and the next goes to address at: from any memory where the blank columns on the left were
    pub record Stored (m₀ m₁ : List ℕ) (at j : ℕ) : Type 0 where
      pub within : j ≤ length cols
      pub long : length m₁ ≡ length m₀
      pub next : at ≡ from + s * ((blanks + j) * n)
      pub done : (m : List ℕ) → m₀ ≡ stacked cell_both s from (blanks * n) m → m₁ ≡ stacked cell_both s from ((blanks + j) * n) m

    -- none yet
    pub stored_none : (m₀ : List ℕ) (at : ℕ) → at ≡ from + s * (blanks * n) → Stored m₀ m₀ at 0
    stored_none m₀ at ea = record {
      within = omega arith;
      long = refl;
      next = omega (arith, ea);
      done = λ m e. turned_to_lem (pair_turn cell_both s from) (blanks * n) ((blanks + 0) * n) m m₀ e (omega arith);
    }

    -- one more
    pub stored_more : (j at z : ℕ) (m₀ m₁ m₂ : List ℕ) → 1 ≤ n → Stored m₀ m₁ at j → j < length cols → length m₂ ≡ length m₁
        → z ≡ reversed_both y (spread_of (lifted_of p (get_or cols j 0))) → m₂ ≡ stacked (both_stroke flip (λ i. z)) s at n m₁ → Stored m₀ m₂ (at + s * n) (j + 1)
    stored_more j at z m₀ m₁ m₂ pos e h el ez q =
        let once : n ≡ 1 * n = omega arith in
        record {
          within = omega arith;
          long = el ∙ e.long;
          next = omega (arith, e.next);
          done = λ m e₀. both_more (blanks + j) 1 (blanks + (j + 1)) at z m m₁ m₂ pos (e.done m e₀) e.next
              (λ b l.
              let here : blanks + j + b ≡ blanks + j = omega arith in
              ez ∙ sym (both_glyph j h) ∙ ap (both_columns cols blanks p y) (sym here))
              (q ∙ ap (λ (w : ℕ). stacked (both_stroke flip (λ i. z)) s at w m₁) once) (omega arith);
        }

    -- all, and a blank one on the left and on the right, or none
    pub stored-all : (j at blank : ℕ) (m m₀ m₁ m₂ : List ℕ) → 1 ≤ n → 2 ≤ s → blank ≡ reversed_both y 0
        → m₀ ≡ stacked (both_stroke flip (λ i. blank)) s from (blanks * n) m → Stored m₀ m₁ at j → length cols ≤ j
        → m₂ ≡ stacked (both_stroke flip (λ i. blank)) s at (p.down * n) m₁
        → m₂ ≡ piled (λ r. row_stroke cols blanks p y 2 r n (cond flip 3 0)) s from (whole_of cols blanks p * n) 2 m
    stored-all j at blank m m₀ m₁ m₂ pos apart eb e₀ e h q =
        let left = both_more 0 blanks blanks from blank m m m₀ pos (turned_none (pair_turn cell_both s from) (0 * n) m (omega arith)) (omega arith)
        (λ b l. eb ∙ sym (both_left (0 + b) (omega arith))) e₀ (omega arith) in
        both_more (blanks + j) p.down (whole_of cols blanks p) at blank m m₁ m₂ pos (e.done m left) e.next
        (λ b l.
        let there : blanks + j + b ≡ blanks + (j + b) = omega arith in
        eb ∙ sym (both_right (j + b) (omega arith)) ∙ ap (both_columns cols blanks p y) (sym there)) q (omega (arith, e.within))
        ∙ cell_piled (whole_of cols blanks p * n) m apart

    -- it lies in memory
    module _ (len : ℕ) (fits : len ≤ 65536) (h : from + 1 + s * (whole_of cols blanks p * n) < len + s) where
      -- the blank columns on the left
      pub reach_left : from + 1 + s * (blanks * n) < len + s
      reach_left = omega (arith, columns_reach (from + 1) s n 0 blanks (whole_of cols blanks p) len (omega arith) h)

      -- one more of the glyph
      pub reach_glyph : (j at : ℕ) (m₀ m₁ : List ℕ) → Stored m₀ m₁ at j → length m₀ ≡ len → j < length cols
          → (at + 1 + s * n < length m₁ + s) × (length m₁ ≤ 65536)
      reach_glyph j at m₀ m₁ e el l = (
        omega (arith, e.next, e.long, el, columns_reach (from + 1) s n (blanks + j) 1 (whole_of cols blanks p) len (omega arith) h),
        omega (arith, e.long, el),
      )

      -- those on the right
      pub reach_right : (j at : ℕ) (m₀ m₁ : List ℕ) → Stored m₀ m₁ at j → length m₀ ≡ len
          → (at + 1 + s * (p.down * n) < length m₁ + s) × (length m₁ ≤ 65536)
      reach_right j at m₀ m₁ e el = (
        omega (arith, e.next, e.long, el, columns_reach (from + 1) s n (blanks + j) p.down (whole_of cols blanks p) len (omega (arith, e.within)) h),
        omega (arith, e.long, el),
      )
