-- Spans under strokes: they stay in bounds and only grow. Assumes nothing.
use mathlib.Core.Path.{◌≡◌, refl}
use mathlib.Core.Bool.{true, ◌&&◌}
use mathlib.Core.List.{List, [], ◌∷◌}
use Prim.Native.Nat.{ℕ, zero, suc, ◌+◌, min, max}
use native.Mathlib.Omega.{arith}
use lib.Dec.{leb, ltb}
use lib.ListN.{get_or, replicate}
use borrow.Author.Tests.{leb-true, le-leb, ltb-true, lt-ltb, eqb-true}
use Rattle.paper.specs.declared.Module.{Module}
use Rattle.paper.specs.declared.Rect.{Rect}
use Rattle.paper.specs.declared.Span.{Span}
use Rattle.paper.specs.Strokes.{Stroke, among, no_span, is_nothing, span_holds, grown, grown_by, mark_from, marked, mark_all}
use Rattle.paper.specs.Cells.{memory_rect}
use Rattle.paper.specs.Bounds.{span_ok, spans_ok}
use Rattle.laws_memory.proofs.Spans.{marked_ok}
use Rattle.laws_bytes.proofs.Tests.{both_of}
use Rattle.laws_state.specs.Room.{AllIn}
use Rattle.laws_state.proofs.Tests.{by_cond}

-- ---- in bounds

module _ (g : Module) where
  -- empty spans
  pub empty_ok : (n : ℕ) → spans_ok g (replicate n no_span) ≡ true
  unfolding span_ok
  empty_ok zero = refl
  empty_ok (suc n) = empty_ok n

  -- strokes in memory keep the spans in bounds
  pub marks_ok : (ps : List Span) (ss : List Stroke) → AllIn (memory_rect g) ss → spans_ok g ps ≡ true
      → spans_ok g (mark_all ps ss) ≡ true
  marks_ok ps [] i h = h
  marks_ok ps (s ∷ ss) i h = marks_ok (marked ps s) ss i.1 (marked_ok g s.rect ps (let k = i.0 in omega arith) h)

-- ---- growing

-- what a span holds it holds when grown
grown-holds : (p : Span) (first end x : ℕ) → span_holds p x ≡ true → span_holds (grown p first end) x ≡ true
unfolding grown
grown-holds p first end x h =
    let f = both_of (leb p.first x) (ltb x p.end) h in
    let l = leb-true p.first x f.0 in
    let u = ltb-true x p.end f.1 in
    by_cond (λ (q : Span). span_holds q x ≡ true) (is_nothing p) (λ e. let n = eqb-true p.end 0 e in absurd (omega arith))
    (λ _. rw (le-leb (min p.first first) x (omega arith), lt-ltb x (max p.end end) (omega arith)))

-- and after a rectangle is marked
row_holds : (q : Rect) (y : ℕ) (p : Span) (x : ℕ) → span_holds p x ≡ true → span_holds (grown_by q y p) x ≡ true
unfolding grown_by
row_holds q y p x h =
    by_cond (λ (r : Span). span_holds r x ≡ true) (ltb 0 q.width && among q.top q.height y)
    (λ _. grown-holds p q.left (q.left + q.width) x h) (λ _. h)

-- on each row
rows_hold : (q : Rect) (y : ℕ) (ps : List Span) (r x : ℕ) → span_holds (get_or ps r no_span) x ≡ true
    → span_holds (get_or (mark_from q y ps) r no_span) x ≡ true
rows_hold q y [] r x h = h
rows_hold q y (p ∷ ps) zero x h = row_holds q y p x h
rows_hold q y (p ∷ ps) (suc r) x h = rows_hold q (suc y) ps r x h

-- a column that row r's span holds is held after any strokes
pub marks_hold : (ps : List Span) (ss : List Stroke) (r x : ℕ) → span_holds (get_or ps r no_span) x ≡ true
    → span_holds (get_or (mark_all ps ss) r no_span) x ≡ true
marks_hold ps [] r x h = h
marks_hold ps (s ∷ ss) r x h = marks_hold (marked ps s) ss r x (rows_hold s.rect 0 ps r x h)
