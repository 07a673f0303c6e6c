-- `spans::grow_columns` meets its contract: to include the first column and the last is to grow by all. Assumes nothing.
use mathlib.Core.Path.{◌≡◌, ap, ◌∙◌}
use Prim.Native.Nat.{ℕ, ◌+◌, ◌-◌, ◌<◌}
use native.Mathlib.Omega.{arith}
use borrow.Author.Rules.{rules}
use Rattle.paper.specs.declared.Span.{Span}
use Rattle.paper.specs.Strokes.{grown}
use Rattle.spans.proofs.Columns.{two_columns}
use Rattle.spans.proofs.grow_columns.Goals as goal

-- the columns end after the last
first_and_last : (p : Span) (left width : ℕ) → 0 < width
    → let last : ℕ = left + (width - 1) in
    grown (grown p left (left + 1)) last (last + 1) ≡ grown p left (left + width)
first_and_last p left width h =
    two_columns p left (left + (width - 1)) (omega arith) ∙ ap (λ (k : ℕ). grown p left k) (omega arith)

pub returns : goal.returns
returns c =
    rw c.grown_by-q.ensures at c.grown_by.ensures ∙ first_and_last _ _ _ (search rules)
