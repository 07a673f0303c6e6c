-- Spans: what growth by a rectangle, and by strokes, makes of them. Assumes nothing.
use mathlib.Core.Path.{◌≡◌, refl, sym, ap, ◌∙◌}
use mathlib.Core.Bool.{true, ◌&&◌, and-false, or-true}
use mathlib.Core.List.{List, [], ◌∷◌, ◌++◌}
use Prim.Native.Nat.{ℕ, zero, suc, ◌+◌, ◌<◌, ◌≤◌, min, max}
use native.Mathlib.Nat.{add-zero, zero-add, add-suc, suc-add, le_of_suc-le-suc, not-suc-le-zero}
use native.Mathlib.Omega.{arith}
use lib.Dec.{ltb, eqb, ltb→lt}
use lib.ListN.{length, get_or}
use borrow.Author.Tests.{lt-ltb, le-leb, ne_eqb, leb-true}
use Rattle.paper.specs.declared.Module.{Module}
use Rattle.paper.specs.declared.Rect.{Rect}
use Rattle.paper.specs.declared.Span.{Span}
use Rattle.paper.specs.Strokes.{Stroke, no_span, span_of, is_nothing, among, grown, grown_by, mark_from, mark_rect, marked, mark_all}
use Rattle.paper.specs.Bounds.{span_ok, spans_ok}
use Rattle.laws_memory.proofs.Tests.{eq_cases, cond_cases, and_0, and_true, and_parts}

-- two spans by their rows
pub two_spans : (ps : List Span) → length ps ≡ 2 → get_or ps 0 no_span ∷ get_or ps 1 no_span ∷ [] ≡ ps
two_spans [] e = absurd (omega arith)
two_spans (p ∷ []) e = absurd (omega arith)
two_spans (p ∷ q ∷ []) e = refl
two_spans (p ∷ q ∷ r ∷ ps) e = absurd (omega arith)

-- ---- growth by a rectangle

-- two rows
pub mark_two : (q : Rect) (ps : List Span) → length ps ≡ 2
    → let row : ℕ → Span = λ y. grown_by q y (get_or ps y no_span) in row 0 ∷ row 1 ∷ [] ≡ mark_rect q ps
mark_two q ps e = ap (mark_rect q) (two_spans ps e)

pub mark_length : (q : Rect) (ps : List Span) → length (mark_rect q ps) ≡ length ps
mark_length q ps = go 0 ps
  where
    go : (y : ℕ) (ps : List Span) → length (mark_from q y ps) ≡ length ps
    go y [] = refl
    go y (p ∷ ps) = ap suc (go (suc y) ps)

-- a row's span afterwards
pub get_or-marked : (q : Rect) (ps : List Span) (y : ℕ) → y < length ps
    → get_or (mark_rect q ps) y no_span ≡ grown_by q y (get_or ps y no_span)
get_or-marked q ps y h = go 0 ps y h ∙ ap (λ (k : ℕ). grown_by q k (get_or ps y no_span)) (zero-add y)
  where
    go : (i : ℕ) (ps : List Span) (k : ℕ) → k < length ps
        → get_or (mark_from q i ps) k no_span ≡ grown_by q (i + k) (get_or ps k no_span)
    go i [] k h = absurd (not-suc-le-zero h)
    go i (p ∷ ps) zero h = ap (λ (k : ℕ). grown_by q k p) (sym (add-zero i))
    go i (p ∷ ps) (suc k) h =
        go (suc i) ps k (le_of_suc-le-suc h)
        ∙ ap (λ (n : ℕ). grown_by q n (get_or ps k no_span)) (suc-add i k ∙ sym (add-suc i k))

-- ---- strokes in a row

pub marks_length : (ps : List Span) (ss : List Stroke) → length (mark_all ps ss) ≡ length ps
marks_length ps [] = refl
marks_length ps (s ∷ ss) = marks_length (marked ps s) ss ∙ mark_length s.rect ps

pub marks_append : (ps : List Span) (ss ts : List Stroke) → mark_all ps (ss ++ ts) ≡ mark_all (mark_all ps ss) ts
marks_append ps [] ts = refl
marks_append ps (s ∷ ss) ts = marks_append (marked ps s) ss ts

-- ---- bounds

-- a span that is in its bounds ends in the memory
pub span_within : (g : Module) (p : Span) → span_ok g p ≡ true → p.end ≤ g.columns
unfolding span_ok
span_within g p e =
    eq_cases p.end 0 (λ z. omega arith)
    (λ nz. leb-true _ _ (and_parts (ltb p.first p.end) _ (rw (ne_eqb _ _ nz, and-false) at e)).1)

span_made : (g : Module) (first end : ℕ) → first < end → end ≤ g.columns → span_ok g (span_of first end) ≡ true
unfolding span_ok
span_made g first end hf he =
    rw (lt-ltb first end hf, le-leb end g.columns he) (or-true (eqb first 0 && eqb end 0))

-- columns inside the memory keep a span in its bounds
pub grown_ok : (g : Module) (p : Span) (first end : ℕ) → span_ok g p ≡ true → first < end → end ≤ g.columns
    → span_ok g (grown p first end) ≡ true
unfolding grown
grown_ok g p first end e hf he =
    let hp = span_within g p e in
    cond_cases (λ (q : Span). span_ok g q ≡ true) (is_nothing p) (λ t. span_made g first end hf he)
    (λ t. span_made g (min p.first first) (max p.end end) (omega arith) (omega arith))

grown_by_ok : (g : Module) (q : Rect) (y : ℕ) (p : Span) → q.left + q.width ≤ g.columns → span_ok g p ≡ true
    → span_ok g (grown_by q y p) ≡ true
unfolding grown_by
grown_by_ok g q y p h e =
    cond_cases (λ (r : Span). span_ok g r ≡ true) (ltb 0 q.width && among q.top q.height y)
    (λ t. let wide = ltb→lt 0 q.width (and_0 (ltb 0 q.width) (among q.top q.height y) t) in
    grown_ok g p q.left (q.left + q.width) e (omega arith) h) (λ t. e)

-- a rectangle inside the memory keeps all of them so
pub marked_ok : (g : Module) (q : Rect) (ps : List Span) → q.left + q.width ≤ g.columns → spans_ok g ps ≡ true
    → spans_ok g (mark_rect q ps) ≡ true
marked_ok g q ps h e = go 0 ps e
  where
    go : (y : ℕ) (ps : List Span) → spans_ok g ps ≡ true → spans_ok g (mark_from q y ps) ≡ true
    go y [] k = refl
    go y (p ∷ ps) k =
        let ks = and_parts (span_ok g p) (spans_ok g ps) k in
        and_true (span_ok g (grown_by q y p)) _ (grown_by_ok g q y p h ks.0) (go (suc y) ps ks.1)
