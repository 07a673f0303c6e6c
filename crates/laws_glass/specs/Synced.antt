-- The glass in step with the memory, over a module. Assumes nothing.
use Rattle.std.specs.Prelude.{◌≡◌, false, List, ℕ, ◌<◌, get_or}
use Rattle.paper.specs.declared.Module.{Module}
use Rattle.paper.specs.declared.Span.{Span}
use Rattle.paper.specs.Panel.{column_of, row_of, glass_length}
use Rattle.paper.specs.Strokes.{no_span, span_holds}

-- the glass shows memory at every address that its row's span does not hold
abbrev pub Synced : Module → List ℕ → List ℕ → List Span → Type 0
Synced g m glass ps =
    (a : ℕ) → a < glass_length g → span_holds (get_or ps (row_of g a) no_span) (column_of g a) ≡ false
    → get_or glass a 0 ≡ get_or m a 0
