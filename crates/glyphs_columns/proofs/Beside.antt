-- The columns of a whole cell: blank, the glyph's, blank. Assumes nothing.
use mathlib.Core.Path.{◌≡◌, ap, ◌∙◌}
use mathlib.Core.List.{List}
use Prim.Native.Nat.{ℕ, ◌+◌, ◌*◌, ◌-◌, ◌^◌, ◌<◌, ◌≤◌}
use native.Mathlib.Nat.{zero-div, zero-mul}
use native.Mathlib.Omega.{arith}
use borrow.Author.Tests.{le-leb, lt-leb, le-ltb, lt-ltb}
use lib.ListN.{length, get_or}
use Rattle.glyphs_columns.specs.declared.lift.Lift.{Lift}
use Rattle.glyphs_columns.specs.Columns.{fetched_of, lifted_of}

-- a column without a dot has none, wherever it is placed
pub lifted_none : (p : Lift) → lifted_of p 0 ≡ 0
lifted_none p = ap (λ (v : ℕ). v * 2 ^ p.up) (zero-div (2 ^ p.down)) ∙ zero-mul (2 ^ p.up)

module _ (cols : List ℕ) (blanks : ℕ) where
  -- on the left
  pub fetched_left : (k : ℕ) → k < blanks → fetched_of cols blanks k ≡ 0
  fetched_left k h = rw (lt-leb blanks k h)

  -- the glyph's
  pub fetched_glyph : (j : ℕ) → j < length cols → fetched_of cols blanks (blanks + j) ≡ get_or cols j 0
  fetched_glyph j h =
      let back : blanks + j - blanks ≡ j = omega arith in
      rw (le-leb blanks (blanks + j) (omega arith), lt-ltb (blanks + j) (blanks + length cols) (omega arith), back)

  -- on the right
  pub fetched_right : (j : ℕ) → length cols ≤ j → fetched_of cols blanks (blanks + j) ≡ 0
  fetched_right j h = rw (le-leb blanks (blanks + j) (omega arith), le-ltb (blanks + j) (blanks + length cols) (omega arith))
