-- Marks one after another: none, two beside each other as one, and two in either order. Assumes nothing.
use mathlib.Core.Path.{◌≡◌, refl, ap, ap₂, ◌∙◌}
use mathlib.Core.Bool.{Bool, true, false, cond, ◌&&◌}
use mathlib.Core.List.{List, [], ◌∷◌}
use Prim.Native.Nat.{ℕ, suc, ◌+◌, ◌<◌, min, max}
use native.Mathlib.Omega.{arith}
use lib.Dec.{leb, ltb}
use borrow.Author.Tests.{leb-true, ltb-true, ltb-false, lt-ltb, le-ltb, ne_eqb}
use Rattle.paper.specs.declared.Rect.{Rect}
use Rattle.paper.specs.declared.Span.{Span}
use Rattle.paper.specs.Strokes.{rect_at, span_of, is_nothing, among, grown, grown_by, mark_from, mark_rect}

-- ---- one span

-- a span by its parts
span_by : {a b c d : ℕ} → a ≡ c → b ≡ d → span_of a b ≡ span_of c d
span_by e f = ap₂ span_of e f

-- growth by columns and then by those after them
grown_on : (p : Span) (a b c : ℕ) → a < b → b < c → grown (grown p a b) b c ≡ grown p a c
unfolding grown
grown_on p a b c h k = go (is_nothing p) refl where
  go : (t : Bool) → is_nothing p ≡ t
      → let q = cond t (span_of a b) (span_of (min p.first a) (max p.end b)) in
      cond (is_nothing q) (span_of b c) (span_of (min q.first b) (max q.end c))
      ≡ cond t (span_of a c) (span_of (min p.first a) (max p.end c))
  go true e = rw (ne_eqb b 0 (omega arith)) (span_by (omega arith) (omega arith))
  go false e = rw (ne_eqb (max p.end b) 0 (omega arith)) (span_by (omega arith) (omega arith))

-- growth in either order
grown_swap : (p : Span) (a b c d : ℕ) → a < b → c < d → grown (grown p a b) c d ≡ grown (grown p c d) a b
unfolding grown
grown_swap p a b c d h k = go (is_nothing p) refl where
  go : (t : Bool) → is_nothing p ≡ t
      → let q = cond t (span_of a b) (span_of (min p.first a) (max p.end b)) in
      let r = cond t (span_of c d) (span_of (min p.first c) (max p.end d)) in
      cond (is_nothing q) (span_of c d) (span_of (min q.first c) (max q.end d))
      ≡ cond (is_nothing r) (span_of a b) (span_of (min r.first a) (max r.end b))
  go true e = rw (ne_eqb b 0 (omega arith), ne_eqb d 0 (omega arith)) (span_by (omega arith) (omega arith))
  go false e =
      rw (ne_eqb (max p.end b) 0 (omega arith), ne_eqb (max p.end d) 0 (omega arith)) (span_by (omega arith) (omega arith))

-- a rectangle beside another of the same rows
rect_on : (l t n c h y : ℕ) (p : Span) → grown_by (rect_at (l + n) t c h) y (grown_by (rect_at l t n h) y p) ≡ grown_by (rect_at l t (n + c) h) y p
unfolding grown_by
rect_on l t n c h y p = go (ltb 0 n) refl (ltb 0 c) refl (among t h y) where
  go : (z : Bool) → ltb 0 n ≡ z → (q : Bool) → ltb 0 c ≡ q → (a : Bool)
      → cond (q && a) (grown (cond (z && a) (grown p l (l + n)) p) (l + n) (l + n + c)) (cond (z && a) (grown p l (l + n)) p)
      ≡ cond (ltb 0 (n + c) && a) (grown p l (l + (n + c))) p
  go true e true f true =
      let i = ltb-true 0 n e in
      let j = ltb-true 0 c f in
      rw (lt-ltb 0 (n + c) (omega arith)) (grown_on p l (l + n) (l + n + c) (omega arith) (omega arith) ∙ ap (grown p l) (omega arith))
  go true e true f false = let i = ltb-true 0 n e in rw (lt-ltb 0 (n + c) (omega arith))
  go true e false f true =
      let i = ltb-true 0 n e in
      let j = ltb-false 0 c f in
      rw (lt-ltb 0 (n + c) (omega arith)) (ap (grown p l) (omega arith))
  go true e false f false = let i = ltb-true 0 n e in rw (lt-ltb 0 (n + c) (omega arith))
  go false e true f true =
      let i = ltb-false 0 n e in
      let j = ltb-true 0 c f in
      rw (lt-ltb 0 (n + c) (omega arith)) (ap₂ (grown p) (omega arith) (omega arith))
  go false e true f false = let j = ltb-true 0 c f in rw (lt-ltb 0 (n + c) (omega arith))
  go false e false f a =
      let i = ltb-false 0 n e in
      let j = ltb-false 0 c f in
      rw (le-ltb 0 (n + c) (omega arith))

-- two rectangles in either order
rect_swap : (r s : Rect) (y : ℕ) (p : Span) → grown_by s y (grown_by r y p) ≡ grown_by r y (grown_by s y p)
unfolding grown_by
rect_swap r s y p =
    go (ltb 0 r.width) refl (among r.top r.height y) (ltb 0 s.width) refl (among s.top s.height y) where
      by : Rect → Span → Span
      by q p = grown p q.left (q.left + q.width)

      go : (z : Bool) → ltb 0 r.width ≡ z → (a : Bool) → (z' : Bool) → ltb 0 s.width ≡ z' → (a' : Bool)
          → cond (z' && a') (by s (cond (z && a) (by r p) p)) (cond (z && a) (by r p) p)
          ≡ cond (z && a) (by r (cond (z' && a') (by s p) p)) (cond (z' && a') (by s p) p)
      go true e true true f true =
          let i = ltb-true 0 r.width e in
          let j = ltb-true 0 s.width f in
          grown_swap p r.left (r.left + r.width) s.left (s.left + s.width) (omega arith) (omega arith)
      go true e true true f false = refl
      go true e true false f a' = refl
      go true e false true f a' = refl
      go true e false false f a' = refl
      go false e a true f a' = refl
      go false e a false f a' = refl

-- a rectangle without rows
rect_flat : (l t w y : ℕ) (p : Span) → grown_by (rect_at l t w 0) y p ≡ p
unfolding grown_by
rect_flat l t w y p = go (ltb 0 w) (leb t y) refl (ltb y (t + 0)) refl where
  go : (z a : Bool) → leb t y ≡ a → (b : Bool) → ltb y (t + 0) ≡ b → cond (z && (a && b)) (grown p l (l + w)) p ≡ p
  go false a e b f = refl
  go true false e b f = refl
  go true true e false f = refl
  go true true e true f =
      let i = leb-true t y e in
      let j = ltb-true y (t + 0) f in
      absurd (omega arith)

-- ---- the spans of all rows

-- rectangles of the same numbers
pub mark_at : {l l' t t' w w' h h' : ℕ} (ps : List Span) → l ≡ l' → t ≡ t' → w ≡ w' → h ≡ h'
    → mark_rect (rect_at l t w h) ps ≡ mark_rect (rect_at l' t' w' h') ps
mark_at {l' = l'} {t} {t'} {w} {w'} {h} ps a b c d =
    ap (λ (k : ℕ). mark_rect (rect_at k t w h) ps) a ∙ ap₂ (λ (k n : ℕ). mark_rect (rect_at l' k n h) ps) b c ∙ ap (λ (k : ℕ). mark_rect (rect_at l' t' w' k) ps) d

-- a rectangle without columns marks nothing
pub mark_none : (l t h : ℕ) (ps : List Span) → mark_rect (rect_at l t 0 h) ps ≡ ps
unfolding grown_by
mark_none l t h ps = go 0 ps where
  go : (y : ℕ) (ps : List Span) → mark_from (rect_at l t 0 h) y ps ≡ ps
  go y [] = refl
  go y (p ∷ ps) = ap (λ (qs : List Span). p ∷ qs) (go (suc y) ps)

-- and one without rows neither
pub mark_flat : (l t w : ℕ) (ps : List Span) → mark_rect (rect_at l t w 0) ps ≡ ps
mark_flat l t w ps = go 0 ps where
  go : (y : ℕ) (ps : List Span) → mark_from (rect_at l t w 0) y ps ≡ ps
  go y [] = refl
  go y (p ∷ ps) = ap₂ (λ (q : Span) (qs : List Span). q ∷ qs) (rect_flat l t w y p) (go (suc y) ps)

-- two beside each other are one
pub mark_beside : (l t n c h : ℕ) (ps : List Span) → mark_rect (rect_at (l + n) t c h) (mark_rect (rect_at l t n h) ps) ≡ mark_rect (rect_at l t (n + c) h) ps
mark_beside l t n c h ps = go 0 ps where
  go : (y : ℕ) (ps : List Span) → mark_from (rect_at (l + n) t c h) y (mark_from (rect_at l t n h) y ps) ≡ mark_from (rect_at l t (n + c) h) y ps
  go y [] = refl
  go y (p ∷ ps) = ap₂ (λ (q : Span) (qs : List Span). q ∷ qs) (rect_on l t n c h y p) (go (suc y) ps)

-- two in either order
pub mark_swap : (r s : Rect) (ps : List Span) → mark_rect s (mark_rect r ps) ≡ mark_rect r (mark_rect s ps)
mark_swap r s ps = go 0 ps where
  go : (y : ℕ) (ps : List Span) → mark_from s y (mark_from r y ps) ≡ mark_from r y (mark_from s y ps)
  go y [] = refl
  go y (p ∷ ps) = ap₂ (λ (q : Span) (qs : List Span). q ∷ qs) (rect_swap r s y p) (go (suc y) ps)
