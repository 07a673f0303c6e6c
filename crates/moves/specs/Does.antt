-- What a function that moves owes: it did what the paper's move means. Assumes nothing.
use Rattle.std.specs.Prelude.{◌≡◌, List, ℕ}
use Rattle.paper.specs.declared.Module.{Module}
use Rattle.paper.specs.declared.Span.{Span}
use Rattle.paper.specs.declared.View.{View}
use Rattle.paper.specs.Strokes.{apply_all, mark_all}
use Rattle.paper.specs.Moves.{Moved}
use Rattle.moves.specs.declared.Spot.{Spot}

-- from spans and memory before: the view that the move gives, the spans grown by its strokes, the memory written by them
pub record Does (g : Module) (ps : List Span) (m : List ℕ) (p : Spot) (m' : List ℕ) (t : Moved) : Type 0 where
  pub view : p.view ≡ t.view
  pub spans : p.spans ≡ mark_all ps t.strokes
  pub mem : m' ≡ apply_all g m t.strokes

-- a spot by its parts
abbrev pub spot : View → List Span → Spot
spot v ps = record { view = v; spans = ps }
