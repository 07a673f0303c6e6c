-- The step of a character that wraps: what drawing asks, after a move. Assumes nothing.
use mathlib.Core.Path.{◌≡◌, ◌∙◌}
use mathlib.Core.List.{List}
use Prim.Native.Nat.{ℕ}
use lib.ListN.{length}
use Rattle.paper.specs.declared.Module.{Module}
use Rattle.paper.specs.declared.Span.{Span}
use Rattle.paper.specs.declared.View.{View}
use Rattle.paper.specs.Moves.{Moved}
use Rattle.laws_memory.specs.Rectangles.{Fits}
use Rattle.laws_state.specs.Room.{Usable, Room, Kept}
use Rattle.laws_state.proofs.Moves.{kept_room}
use Rattle.glyphs.specs.declared.Cell.{Cell}
use Rattle.moves.specs.declared.Spot.{Spot}
use Rattle.moves.specs.Does.{Does}
use Rattle.text_cells.specs.Inked.{Inked}

module _ {g : Module} {ps : List Span} {m : List ℕ} where
  -- what drawing asks is still there after a move that keeps its range
  pub ready_after : {font : List ℕ} {code : ℕ} {m₁ : List ℕ} {q : Spot} (c : Cell) (v : View) (t : Moved)
      → Does g ps m q m₁ t → Kept v t → length m₁ ≡ length m
      → Usable g × (Room g v c.columns c.rows × (Inked g font c code × Fits g m))
      → Usable g × (Room g q.view c.columns c.rows × (Inked g font c code × Fits g m₁))
  ready_after c v t d k e ready =
      let fits = ready.1.1.1 in (
        ready.0,
        (
          rw d.view (kept_room v t g c.columns c.rows ready.1.0 k),
          (ready.1.1.0, record { size = e ∙ fits.size; small = fits.small }),
        ),
      )
