-- The glass stays in step: strokes with their growth keep it so, and a refresh brings it in step everywhere.
-- Assumes nothing.
use mathlib.Core.Path.{◌≡◌, sym, ◌∙◌}
use mathlib.Core.Bool.{false, ◌&&◌}
use mathlib.Core.List.{List, [], ◌∷◌}
use Prim.Native.Nat.{ℕ, ◌+◌, ◌<◌, ◌≤◌}
use native.Mathlib.Omega.{arith}
use lib.Dec.{ltb, lt→ltb, eqb→eq}
use lib.ListN.{length, get_or, take}
use lib.Seq.{ext_get_or, length-take-le, get_or-take}
use Rattle.paper.specs.declared.Module.{Module}
use Rattle.paper.specs.declared.Rect.{Rect}
use Rattle.paper.specs.declared.Span.{Span}
use Rattle.paper.specs.Panel.{column_of, row_of, glass_length}
use Rattle.paper.specs.Strokes.{Stroke, among, applied, apply_all, no_span, is_nothing, grown, grown_by, mark_rect, marked, mark_all, refreshed}
use Rattle.paper.specs.Cells.{memory_rect, erase_stroke}
use Rattle.laws_memory.proofs.Tests.{test_cases, is_false, not_both, cond_yes, cond_cases, and_i, among_test}
use Rattle.laws_memory.proofs.Addresses.{column-lt, row_lt}
use Rattle.laws_memory.proofs.Rects.{InRect}
use Rattle.laws_memory.proofs.Strokes.{applied-length, applied_out}
use Rattle.laws_memory.proofs.Spans.{get_or-marked, mark_length}
use Rattle.laws_memory.proofs.Glass.{Holds, covered, Covered, covered_facts, covered_test, refreshed-length, refreshed_in, refreshed_out}
use Rattle.laws_glass.specs.Synced.{Synced}

-- ---- growth

module _ (p : Span) (first end x : ℕ) where
  -- what a span held it still holds
  grown_old : Holds p x → Holds (grown p first end) x
  unfolding grown
  grown_old h =
      cond_cases (λ (q : Span). Holds q x) (is_nothing p)
      (λ t. let none = eqb→eq p.end 0 t in absurd (omega arith)) (λ t. omega arith)

  -- and the columns that are added
  grown_new : first ≤ x → x < end → Holds (grown p first end) x
  unfolding grown
  grown_new h k = cond_cases (λ (q : Span). Holds q x) (is_nothing p) (λ t. (h, k)) (λ t. omega arith)

module _ (q : Rect) (y : ℕ) (p : Span) (x : ℕ) where
  row_old : Holds p x → Holds (grown_by q y p) x
  unfolding grown_by
  row_old h =
      cond_cases (λ (r : Span). Holds r x) (ltb 0 q.width && among q.top q.height y)
      (λ t. grown_old p q.left (q.left + q.width) x h) (λ t. h)

  row_new : q.left ≤ x → x < q.left + q.width → q.top ≤ y → y < q.top + q.height → Holds (grown_by q y p) x
  unfolding grown_by
  row_new hl hr ht hb =
      rw (cond_yes (ltb 0 q.width && among q.top q.height y) (grown p q.left (q.left + q.width)) p
      (and_i (ltb 0 q.width) (among q.top q.height y) (lt→ltb 0 q.width (omega arith))
      (among_test q.top q.height y (ht, hb))))
      (grown_new p q.left (q.left + q.width) x hl hr)

-- the span of an address's row after a rectangle is marked
module _ (g : Module) (ps : List Span) (q : Rect) (a : ℕ) (rows : length ps ≡ g.rows) (l : a < glass_length g) where
  covered_by : Holds (grown_by q (row_of g a) (get_or ps (row_of g a) no_span)) (column_of g a) → Covered g (mark_rect q ps) a
  covered_by h = let k = row_lt g a g.visible l in rw (get_or-marked q ps (row_of g a) (omega arith)) h

  covered_old : Covered g ps a → Covered g (mark_rect q ps) a
  covered_old h = covered_by (row_old q (row_of g a) (get_or ps (row_of g a) no_span) (column_of g a) h)

  covered_new : InRect g q a → Covered g (mark_rect q ps) a
  covered_new i =
      covered_by (row_new q (row_of g a) (get_or ps (row_of g a) no_span) (column_of g a) i.0 i.1 i.2 i.3)

-- ---- strokes

not_covered : (g : Module) (ps : List Span) (a : ℕ) → (Covered g ps a → ⊥) → covered g ps a ≡ false
not_covered g ps a o = is_false (covered g ps a) (λ t. o (covered_facts g ps a t))

covered_not : (g : Module) (ps : List Span) (a : ℕ) → covered g ps a ≡ false → Covered g ps a → ⊥
covered_not g ps a e h = not_both (covered g ps a) e (covered_test g ps a h)

-- a stroke with its growth
pub stroke-synced : (g : Module) (m glass : List ℕ) (ps : List Span) (s : Stroke) → length ps ≡ g.rows
    → glass_length g ≤ length m → Synced g m glass ps → Synced g (applied g m s) glass (marked ps s)
stroke-synced g m glass ps s rows size synced a l e =
    let free = covered_not g (marked ps s) a e in
    synced a l (not_covered g ps a (λ h. free (covered_old g ps s.rect a rows l h)))
    ∙ sym (applied_out g m s a (omega arith) (λ i. free (covered_new g ps s.rect a rows l i)))

-- strokes with their growth
pub strokes_synced : (g : Module) (m glass : List ℕ) (ps : List Span) (ss : List Stroke) → length ps ≡ g.rows
    → glass_length g ≤ length m → Synced g m glass ps → Synced g (apply_all g m ss) glass (mark_all ps ss)
strokes_synced g m glass ps [] rows size synced = synced
strokes_synced g m glass ps (s ∷ ss) rows size synced =
    strokes_synced g (applied g m s) glass (marked ps s) ss (mark_length s.rect ps ∙ rows)
    (omega (arith, applied-length g m s)) (stroke-synced g m glass ps s rows size synced)

-- all memory marked: any glass is in step with any memory
pub erased-synced : (g : Module) (m glass : List ℕ) (ps : List Span) → length ps ≡ g.rows → g.visible ≤ g.columns
    → Synced g m glass (marked ps (erase_stroke g))
erased-synced g m glass ps rows wide a l e =
    let column = column-lt g a g.visible l in
    let row = row_lt g a g.visible l in
    absurd (covered_not g (marked ps (erase_stroke g)) a e (covered_new g ps (memory_rect g) a rows l (omega arith)))

-- ---- refresh

module _ (g : Module) (m glass : List ℕ) (ps : List Span) (size : length glass ≡ glass_length g) where
  shows : Synced g m glass ps → (a : ℕ) → a < glass_length g → get_or (refreshed g m ps glass) a 0 ≡ get_or m a 0
  shows synced a l =
      test_cases (covered g ps a) (λ t. refreshed_in g m ps glass a (omega arith) (covered_facts g ps a t))
      (λ t. refreshed_out g m ps glass a (omega arith) (λ h. t (covered_test g ps a h))
      ∙ synced a l (is_false (covered g ps a) t))

  -- a glass in step, refreshed, is the visible memory
  pub refreshed_shows : Synced g m glass ps → glass_length g ≤ length m → refreshed g m ps glass ≡ take (glass_length g) m
  refreshed_shows synced inside =
      ext_get_or 0 (refreshed g m ps glass) (take (glass_length g) m)
      (refreshed-length g m ps glass ∙ size ∙ sym (length-take-le (glass_length g) m inside))
      (λ a k. let l : a < glass_length g = omega (arith, refreshed-length g m ps glass) in
      shows synced a l ∙ sym (get_or-take (glass_length g) m a 0 l))

  -- and it is in step whatever the spans are, so with empty ones
  pub refreshed-synced : Synced g m glass ps → (qs : List Span) → Synced g m (refreshed g m ps glass) qs
  refreshed-synced synced qs a l e = shows synced a l
