-- What was done, put together from its parts: nothing written, one stroke, and one move after another. Assumes nothing.
use mathlib.Core.Path.{◌≡◌, refl, sym, ap, ap₂, ◌∙◌}
use mathlib.Core.List.{List}
use Prim.Native.Nat.{ℕ}
use Rattle.paper.specs.declared.Module.{Module}
use Rattle.paper.specs.declared.Span.{Span}
use Rattle.paper.specs.declared.View.{View}
use Rattle.paper.specs.Strokes.{Stroke, applied, apply_all, mark_rect, mark_all}
use Rattle.paper.specs.Moves.{Moved, only, writing, and_then}
use Rattle.laws_memory.proofs.Strokes.{apply_append}
use Rattle.laws_memory.proofs.Spans.{marks_append}
use Rattle.moves.specs.declared.Spot.{Spot}
use Rattle.moves.specs.Does.{Does, spot}

-- a spot whose view is known
pub spot-at : {u v : View} {ps : List Span} → u ≡ v → spot u ps ≡ spot v ps
spot-at {ps} e = ap (λ (w : View). spot w ps) e

module _ {g : Module} {ps : List Span} {m : List ℕ} where
  -- the cursor went to v and nothing was written
  pub does_only : {p : Spot} (v : View) → p ≡ spot v ps → Does g ps m p m (only v)
  does_only v e = record { view = ap (λ (p : Spot). p.view) e; spans = ap (λ (p : Spot). p.spans) e; mem = refl }

  -- a stroke was made, its rectangle was marked, and the cursor went to v
  pub does_stroke : {p : Spot} {m' : List ℕ} (s : Stroke) (v : View) → p ≡ spot v (mark_rect s.rect ps) → m' ≡ applied g m s
      → Does g ps m p m' (writing s v)
  does_stroke s v e h = record { view = ap (λ (p : Spot). p.view) e; spans = ap (λ (p : Spot). p.spans) e; mem = h }

  -- a move, and then the one that f makes of where it ended
  pub does_after : {p r : Spot} {m₁ m₂ : List ℕ} (t : Moved) (f : View → Moved) → Does g ps m p m₁ t
      → Does g p.spans m₁ r m₂ (f p.view) → Does g ps m r m₂ (and_then t f)
  does_after t f d e =
      record {
        view = e.view ∙ ap (λ (v : View). (f v).view) d.view;
        spans =
            e.spans ∙ ap₂ (λ (qs : List Span) (v : View). mark_all qs (f v).strokes) d.spans d.view
            ∙ sym (marks_append ps t.strokes (f t.view).strokes);
        mem =
            e.mem ∙ ap₂ (λ (n : List ℕ) (v : View). apply_all g n (f v).strokes) d.mem d.view
            ∙ sym (apply_append g m t.strokes (f t.view).strokes);
      }
