-- A span that includes two columns has grown by all from the one to the other. Assumes nothing.
use mathlib.Core.Path.{◌≡◌, ap₂, ◌∙◌}
use mathlib.Core.Bool.{Bool, true, false, cond}
use Prim.Native.Nat.{ℕ, ◌+◌, ◌≤◌, min, max}
use native.Mathlib.Omega.{arith}
use borrow.Author.Tests.{ne_eqb}
use Rattle.paper.specs.declared.Span.{Span}
use Rattle.paper.specs.Strokes.{span_of, is_nothing, grown}

-- a span that is not empty is widened
widened : (first end a b : ℕ) → (end ≡ 0 → ⊥) → grown (span_of first end) a b ≡ span_of (min first a) (max end b)
unfolding grown
widened first end a b h = rw (ne_eqb end 0 h)

pub two_columns : (p : Span) (a b : ℕ) → a ≤ b → grown (grown p a (a + 1)) b (b + 1) ≡ grown p a (b + 1)
unfolding grown
two_columns p a b h = go (is_nothing p)
  where
    go : (t : Bool) → grown (cond t (span_of a (a + 1)) (span_of (min p.first a) (max p.end (a + 1)))) b (b + 1)
        ≡ cond t (span_of a (b + 1)) (span_of (min p.first a) (max p.end (b + 1)))
    go true = widened a (a + 1) b (b + 1) (omega arith) ∙ ap₂ span_of (omega arith) (omega arith)
    go false =
        widened (min p.first a) (max p.end (a + 1)) b (b + 1) (omega arith)
        ∙ ap₂ span_of (omega arith) (omega arith)
