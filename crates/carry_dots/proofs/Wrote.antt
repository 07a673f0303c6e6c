-- What was done by a command, put together from what its calls did. Assumes nothing.
use mathlib.Core.Path.{◌≡◌, refl, sym, ap, ap₂, ◌∙◌}
use mathlib.Core.Bool.{Bool, true, false, cond}
use mathlib.Core.List.{List, [], ◌∷◌}
use Prim.Native.Nat.{ℕ, ◌+◌, ◌<◌, ◌≤◌}
use lib.Dec.{eqb}
use Rattle.paper.specs.declared.Module.{Module}
use Rattle.paper.specs.declared.Cursor.{Cursor}
use Rattle.paper.specs.declared.Half.{Half}
use Rattle.paper.specs.declared.Outcome.{Outcome}
use Rattle.paper.specs.declared.Outcome.TheVariants.{Carried}
use Rattle.paper.specs.declared.Span.{Span}
use Rattle.paper.specs.declared.State.{State}
use Rattle.paper.specs.declared.View.{View}
use Rattle.paper.specs.Strokes.{Stroke, apply_all, mark_rect, mark_all}
use Rattle.paper.specs.Settings.{initial_state, with_half, with_base, window_at, defined, with_cursor, at_cursor, cursor_in, view_of, with_view, with_spans}
use Rattle.paper.specs.Bounds.{half_ok}
use Rattle.paper.specs.Cells.{memory_rect, erase_stroke}
use Rattle.paper.specs.Moves.{Moved}
use Rattle.paper.specs.Carry.{Meaning, means, answers, moves}
use Rattle.paper.specs.Calls.{settled}
use Rattle.carry_state.specs.declared.Done.{Done}
use Rattle.carry_state.specs.Says.{Says, done}
use Rattle.laws_state.specs.Room.{Kept}
use Rattle.carry_state.proofs.Facts.{selected_small, place_small}
use Rattle.laws_state.proofs.Parts.{parts, whole}
use Rattle.laws_state.proofs.Builders.{half_parts}
use Rattle.laws_state.proofs.Views.{view-place}
use Rattle.laws_memory.specs.Rectangles.{cleared}
use Rattle.moves.specs.declared.Spot.{Spot}
use Rattle.moves.specs.Does as pens
use Rattle.carry_dots.specs.Does.{Ready, Does}

-- a cursor set leaves the spans
pub cursor_spans : (s : State) (k : Cursor) → (at_cursor s k).spans ≡ s.spans
unfolding at_cursor
cursor_spans s k = go (eqb s.selected 0) where
  go : (t : Bool) → (cond t (with_base s k) (defined s s.selected (with_cursor (window_at s.windows s.selected) k))).spans ≡ s.spans
  go true = refl
  go false = refl

module _ {g : Module} {m : List ℕ} where
  -- a command that was answered, and left memory alone
  pub does_answer : {r : Done} {e : Meaning} {s : State} {o : Outcome} → r ≡ done s o → e ≡ answers s o → Does g m r m e
  does_answer f h =
      record {
        state = ap (λ (d : Done). d.state) f ∙ sym (ap settled h);
        outcome = ap (λ (d : Done). d.outcome) f ∙ sym (ap (λ (t : Meaning). t.outcome) h);
        mem = sym (ap (λ (t : Meaning). apply_all g m t.strokes) h);
      }

  -- a command that writes nothing
  pub does_quiet : {r : Done} {e : Meaning} → Says r e → Does g m r m e
  does_quiet {e = e} f =
      record {
        state = f.state ∙ sym (ap (λ (ss : List Stroke). with_spans e.state (mark_all e.state.spans ss)) f.quiet);
        outcome = f.outcome;
        mem = sym (ap (λ (ss : List Stroke). apply_all g m ss) f.quiet);
      }

  -- a command that moves the current window's cursor and writes what the move writes
  pub does_move : {r : Done} {e : Meaning} {q : Spot} {m' : List ℕ} (s : State) (t : Moved) → pens.Does g s.spans m q m' t
      → r ≡ done (with_spans (with_view s q.view) q.spans) Carried → e ≡ moves s t → Does g m r m' e
  does_move s t d f h =
      record {
        state =
            ap (λ (x : Done). x.state) f
            ∙ ap₂ (λ (v : View) (ps : List Span). with_spans (with_view s v) ps) d.view
            (d.spans ∙ ap (λ (ps : List Span). mark_all ps t.strokes) (sym (cursor_spans s (cursor_in s t.view))))
            ∙ sym (ap settled h);
        outcome = ap (λ (x : Done). x.outcome) f ∙ sym (ap (λ (x : Meaning). x.outcome) h);
        mem = d.mem ∙ sym (ap (λ (x : Meaning). apply_all g m x.strokes) h);
      }

-- what `settle` asks of a spot after a move that keeps its range
pub settles : (g : Module) (s : State) (m : List ℕ) (t : Moved) (v : View) → Ready g s m → Kept (view_of g s) t → v ≡ t.view
    → (s.selected ≤ 4) × (v.left + v.x < 65536) × (v.top + v.y < 65536)
settles g s m t v r k e =
    let p = place_small g (view_of g s) t r.usable (view-place g r.usable s r.state_is_ok) k in
    (selected_small g s r.state_is_ok, rw e p.0, rw e p.1)

-- a state with another half-read command is as ready
pub ready_half : (g : Module) (s : State) (m : List ℕ) (p : Half) → half_ok g p ≡ true → Ready g s m → Ready g (with_half s p) m
ready_half g s m p h r =
    record {
      usable = r.usable;
      two_rows = r.two_rows;
      fits = r.fits;
      state_is_ok = whole g (with_half s p) (half_parts g s (parts g s r.state_is_ok) p h);
    }

-- all of memory zeroed, and the initial state
pub does_erase : {g : Module} {m m' : List ℕ} {r : Done} {e : Meaning} {t : State} {ps : List Span} (s : State)
    → m' ≡ cleared g (memory_rect g) m → ps ≡ mark_rect (memory_rect g) s.spans → t ≡ initial_state g
    → r ≡ done (with_spans t ps) Carried → e ≡ means (with_spans (initial_state g) s.spans) Carried (erase_stroke g ∷ [])
    → Does g m r m' e
unfolding cleared
does_erase {g} {m} s c k i f h =
    record {
      state =
          ap (λ (x : Done). x.state) f
          ∙ ap₂ (λ (x : State) (ps : List Span). with_spans x ps) i k
          ∙ sym (ap settled h);
      outcome = ap (λ (x : Done). x.outcome) f ∙ sym (ap (λ (x : Meaning). x.outcome) h);
      mem = c ∙ sym (ap (λ (x : Meaning). apply_all g m x.strokes) h);
    }
