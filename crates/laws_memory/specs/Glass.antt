-- What a refresh asks of the memory and the glass, and what its rows make of the glass. Assumes nothing.
use Rattle.std.specs.Prelude.{◌≡◌, cond, List, ℕ, ◌+◌, ◌≤◌, length, get_or}
use Rattle.paper.specs.declared.Module.{Module}
use Rattle.paper.specs.declared.Span.{Span}
use Rattle.paper.specs.Panel.{address, glass_length, each}
use Rattle.paper.specs.Strokes.{among, rect_at, rect_map, shown}
use Rattle.laws_memory.specs.Rectangles.{Fits}

-- the glass has a byte for each visible column and row of the memory
pub record Shows (g : Module) (m glass : List ℕ) : Type 0 where
  pub fits : Fits g m
  pub size : length glass ≡ glass_length g
  pub visible : g.visible ≤ g.columns

-- row y of the glass takes a span's visible columns from memory
unfoldable pub copied : Module → List ℕ → ℕ → Span → List ℕ → List ℕ
copied g m y p glass =
    rect_map g (rect_at p.first y (shown g p) 1) (λ j r b. get_or m (address g (p.first + j) (y + r)) 0) glass

-- so many bytes of the glass, from an address on, are memory's
unfoldable pub copied_from : List ℕ → ℕ → ℕ → List ℕ → List ℕ
copied_from m from count glass = each (λ a b. cond (among from count a) (get_or m a 0) b) glass
