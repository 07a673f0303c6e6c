-- The sum of the visible span lengths is the number of the glass addresses that the spans hold. Assumes nothing.
use mathlib.Core.Path.{◌≡◌, refl, sym, ap, ap₂, ◌∙◌}
use mathlib.Core.Bool.{cond}
use mathlib.Core.List.{List, [], ◌∷◌, ◌++◌}
use Prim.Native.Nat.{ℕ, zero, suc, ◌+◌, ◌*◌, ◌-◌, ◌≤◌, min}
use native.Mathlib.Nat.{add-zero, add-suc, mul-zero, mul-suc}
use native.Mathlib.Omega.{arith}
use lib.ListN.{length, get_or, take}
use lib.Seq.{take-suc, take_all}
use Rattle.paper.specs.declared.Module.{Module}
use Rattle.paper.specs.declared.Span.{Span}
use Rattle.paper.specs.Panel.{glass_length}
use Rattle.paper.specs.Strokes.{no_span, span_holds, shown, shown_all}
use Rattle.laws_memory.proofs.Tests.{lt_cases, cond_cases}
use Rattle.laws_memory.proofs.Addresses.{column_at_lem, row_at}
use Rattle.laws_memory.proofs.Glass.{span_facts, span_test}
use Rattle.demands.specs.Demands.{spanned_below}

-- ---- the columns below v

-- the columns of a span below v, and of all spans
abbrev below : ℕ → Span → ℕ
below v p = min p.end v - p.first

all_below : ℕ → List Span → ℕ
all_below v [] = 0
all_below v (p ∷ ps) = below v p + all_below v ps

-- whether a span holds column v, as a number, and how many do
abbrev one : ℕ → Span → ℕ
one v p = cond (span_holds p v) 1 0

many : ℕ → List Span → ℕ
many v [] = 0
many v (p ∷ ps) = one v p + many v ps

-- one column more
below_more : (v : ℕ) (p : Span) → below (suc v) p ≡ below v p + one v p
below_more v p =
    cond_cases (λ (n : ℕ). below (suc v) p ≡ below v p + n) (span_holds p v) (λ t. let f = span_facts p v t in omega arith)
    (λ t. lt_cases v p.first (λ l. omega arith)
    (λ l. lt_cases v p.end (λ k. absurd (t (span_test p v (l, k)))) (λ k. omega arith)))

all_more : (v : ℕ) (ps : List Span) → all_below (suc v) ps ≡ all_below v ps + many v ps
unfolding all_below many
all_more v [] = refl
all_more v (p ∷ ps) = omega (arith, below_more v p, all_more v ps)

none_below : (ps : List Span) → all_below 0 ps ≡ 0
unfolding all_below
none_below [] = refl
none_below (p ∷ ps) = omega (arith, none_below ps)

-- all visible columns
all_shown : (g : Module) (ps : List Span) → all_below g.visible ps ≡ shown_all g ps
unfolding all_below shown
all_shown g [] = refl
all_shown g (p ∷ ps) = ap (λ (n : ℕ). below g.visible p + n) (all_shown g ps)

-- ---- the addresses of a column

many_append : (v : ℕ) (ps qs : List Span) → many v (ps ++ qs) ≡ many v ps + many v qs
unfolding many
many_append v [] qs = omega arith
many_append v (p ∷ ps) qs = omega (arith, many_append v ps qs)

module _ (g : Module) (ps : List Span) (rows : length ps ≡ g.rows) where
  -- its first k rows
  column_spanned : (v k : ℕ) → k ≤ g.rows
      → spanned_below g ps (g.rows * v + k) ≡ spanned_below g ps (g.rows * v) + many v (take k ps)
  unfolding many
  column_spanned v zero l = rw (add-zero (g.rows * v), add-zero (spanned_below g ps (g.rows * v)))
  column_spanned v (suc k) l =
      let at = ap₂ (λ (y x : ℕ). one x (get_or ps y no_span)) (row_at g v k l) (column_at_lem g v k l) in
      let rest = column_spanned v k (omega arith) in
      rw (add-suc (g.rows * v) k, take-suc ps k no_span (omega arith), many_append v (take k ps) (get_or ps k no_span ∷ []))
      (omega (arith, at, rest))

  -- all columns below v
  columns_spanned : (v : ℕ) → spanned_below g ps (g.rows * v) ≡ all_below v ps
  columns_spanned zero = rw mul-zero (sym (none_below ps))
  columns_spanned (suc v) =
      ap (spanned_below g ps) (mul-suc g.rows v)
      ∙ column_spanned v g.rows (omega arith)
      ∙ ap₂ (λ (n : ℕ) (qs : List Span). n + many v qs) (columns_spanned v) (take_all g.rows ps (omega arith))
      ∙ sym (all_more v ps)

  pub spanned_shown : spanned_below g ps (glass_length g) ≡ shown_all g ps
  spanned_shown = columns_spanned g.visible ∙ all_shown g ps
