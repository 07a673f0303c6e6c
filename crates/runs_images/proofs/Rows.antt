-- An image's rows marked once, which is what its bytes mark one by one from any place of the image to any later one. Assumes nothing.
use mathlib.Core.Path.{◌≡◌, refl, sym, ap, ◌∙◌}
use mathlib.Core.Bool.{Bool, true, false, cond}
use mathlib.Core.List.{List}
use Prim.Native.Nat.{ℕ, zero, suc, ◌+◌, ◌-◌, ◌<◌, ◌≤◌, min}
use native.Mathlib.Omega.{arith}
use lib.Dec.{ltb}
use borrow.Author.Tests.{ltb-true, ltb-false, le-ltb}
use Rattle.paper.specs.declared.Span.{Span}
use Rattle.paper.specs.declared.Style.{Style}
use Rattle.paper.specs.declared.View.{View}
use Rattle.paper.specs.Strokes.{rect_at, mark_rect, mark_all}
use Rattle.paper.specs.Carry.{image_strokes}
use Rattle.laws_glass.proofs.Marks.{mark_at, mark_none, mark_flat, mark_beside, mark_swap}
use Rattle.images_places.specs.Places.{place_after}
use Rattle.images_marks.specs.Marks.{row_mark, bottom_of, marks_to}

module _ (v : View) where
  -- no columns
  row_none : (bottom r a : ℕ) (ps : List Span) → row_mark v bottom r a a ps ≡ ps
  unfolding row_mark
  row_none bottom r a ps = mark_at ps refl refl (omega arith) refl ∙ mark_none _ _ _ ps

  -- one column more
  row_more : (bottom r a b : ℕ) (ps : List Span) → a ≤ b → row_mark v bottom r b (b + 1) (row_mark v bottom r a b ps) ≡ row_mark v bottom r a (b + 1) ps
  unfolding row_mark
  row_more bottom r a b ps h =
      let left = v.left + min (v.x + a) v.width in
      let n = min (v.x + b) v.width - min (v.x + a) v.width in
      mark_at {l' = left + n} (row_mark v bottom r a b ps) (omega arith) refl refl refl
      ∙ mark_beside left _ n _ _ ps ∙ mark_at ps refl refl (omega arith) refl

  -- a row that the range or the image has not
  row_flat : (bottom r a b : ℕ) (ps : List Span) → bottom ≤ v.y + r → row_mark v bottom r a b ps ≡ ps
  unfolding row_mark
  row_flat bottom r a b ps h = mark_at ps refl refl refl (omega arith) ∙ mark_flat _ _ _ ps

  -- rows in either order
  row_swap : (bottom r a b r' a' b' : ℕ) (ps : List Span)
      → row_mark v bottom r' a' b' (row_mark v bottom r a b ps) ≡ row_mark v bottom r a b (row_mark v bottom r' a' b' ps)
  unfolding row_mark
  row_swap bottom r a b r' a' b' ps = mark_swap _ _ ps

  module _ (y : Style) (height : ℕ) where
    -- a byte marks its column of its row, if it is in the range
    row_byte_lem : (c r b : ℕ) (ps : List Span) → r < height → mark_all ps (image_strokes v y c r b) ≡ row_mark v (bottom_of v height) r c (c + 1) ps
    unfolding image_strokes row_mark
    row_byte_lem c r b ps h = go (ltb (v.x + c) v.width) refl (ltb (v.y + r) v.height) refl where
      go : (s : Bool) → ltb (v.x + c) v.width ≡ s → (t : Bool) → ltb (v.y + r) v.height ≡ t
          → mark_all ps (image_strokes v y c r b)
          ≡ mark_rect (rect_at (v.left + min (v.x + c) v.width) (v.top + min (v.y + r) (bottom_of v height))
          (min (v.x + (c + 1)) v.width - min (v.x + c) v.width)
          (min (v.y + r + 1) (bottom_of v height) - min (v.y + r) (bottom_of v height))) ps
      go true e true f =
          let i = ltb-true (v.x + c) v.width e in
          let j = ltb-true (v.y + r) v.height f in
          rw (e, f) (mark_at ps (omega arith) (omega arith) (omega arith) (omega arith))
      go true e false f =
          let j = ltb-false (v.y + r) v.height f in
          rw (e, f) (sym (mark_at ps refl refl refl (omega arith) ∙ mark_flat _ _ _ ps))
      go false e t f =
          let i = ltb-false (v.x + c) v.width e in
          rw e (sym (mark_at ps refl refl (omega arith) refl ∙ mark_none _ _ _ ps))

    -- nothing was written yet
    pub marks_begin : (column row : ℕ) (ps : List Span) → marks_to v height column row column row ps ≡ ps
    marks_begin column row ps = row_none _ _ _ _ ∙ row_none _ _ _ _

    -- one byte more
    pub marks_next : (column row c r b : ℕ) (ps : List Span) → height ≤ 2 → r < height → column ≤ c → column + row ≤ c + r
        → let n = place_after height c r in
        mark_all (marks_to v height column row c r ps) (image_strokes v y c r b) ≡ marks_to v height column row n.column n.row ps
    marks_next column row c r b ps two h across on = row_byte_lem c r b _ h ∙ go r h on where
      bottom : ℕ
      bottom = bottom_of v height

      go : (r : ℕ) → r < height → column + row ≤ c + r
          → let n = place_after height c r in
          row_mark v bottom r c (c + 1) (marks_to v height column row c r ps) ≡ marks_to v height column row n.column n.row ps
      go zero h on = upper (ltb 1 height) refl where
        joined : row_mark v bottom 0 c (c + 1) (marks_to v height column row c 0 ps)
            ≡ row_mark v bottom 1 column c (row_mark v bottom 0 (column + row) (c + 1) ps)
        joined =
            row_swap bottom 1 column c 0 c (c + 1) _
            ∙ ap (row_mark v bottom 1 column c) (ap (λ (k : ℕ). row_mark v bottom 0 c (c + 1) (row_mark v bottom 0 (column + row) k ps)) (omega arith)
            ∙ row_more bottom 0 (column + row) c ps (omega arith))

        upper : (z : Bool) → ltb 1 height ≡ z
            → row_mark v bottom 0 c (c + 1) (marks_to v height column row c 0 ps)
            ≡ marks_to v height column row (cond z c (c + 1)) (cond z 1 0) ps
        upper true e = joined
        upper false e =
            let low = ltb-false 1 height e in
            joined ∙ row_flat bottom 1 column c _ (omega arith)
            ∙ sym (row_flat bottom 1 column (c + 1) _ (omega arith) ∙ ap (λ (k : ℕ). row_mark v bottom 0 (column + row) k ps) (omega arith))
      go (suc zero) h on =
          rw (le-ltb 2 height two)
          (row_more bottom 1 column c _ across ∙ ap (λ (k : ℕ). row_mark v bottom 1 column (c + 1) (row_mark v bottom 0 (column + row) k ps)) (omega arith))
      go (suc (suc r)) h on = absurd (omega arith)
