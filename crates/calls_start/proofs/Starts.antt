-- What a start gives, refused and not. Assumes nothing.
use mathlib.Core.Path.{◌≡◌, ap, ap₂, ◌∙◌}
use mathlib.Core.List.{List}
use Prim.Native.Nat.{ℕ}
use lib.ListN.{length}
use borrow.Author.Tests.{eq-eqb, ne_eqb}
use Rattle.paper.specs.declared.Module.{Module}
use Rattle.paper.specs.declared.Refusal.TheVariants.{Accepted, MemoryLength}
use Rattle.paper.specs.declared.Span.{Span}
use Rattle.paper.specs.declared.State.{State}
use Rattle.paper.specs.Panel.{memory_length}
use Rattle.paper.specs.Downloads.{all_erased}
use Rattle.paper.specs.Strokes.{mark_rect}
use Rattle.paper.specs.Settings.{initial_state, with_spans}
use Rattle.paper.specs.Cells.{memory_rect}
use Rattle.paper.specs.Numbers.{refusal_number}
use Rattle.paper.specs.Calls.{is_accepted, answer, start_refusal, start_call}
use Rattle.laws_memory.specs.Rectangles.{cleared}
use Rattle.laws_state.specs.Told.{started}

-- a memory of the wrong length is handed back as it was, with the initial state
pub start_refused : (g : Module) (m ds ds' : List ℕ) (s : State) → (length m ≡ memory_length g → ⊥) → s ≡ initial_state g → ds' ≡ all_erased ds
    → started (answer MemoryLength s) m ds' ≡ start_call g m ds
unfolding start_call start_refusal is_accepted refusal_number
start_refused g m ds ds' s h e d = rw (ne_eqb (length m) (memory_length g) h, e, d)

-- a memory of the right length is zeroed, and all of it is marked
pub start_accepted : (g : Module) (m m' ds ds' : List ℕ) (t : State) (ps : List Span) → length m ≡ memory_length g → t ≡ initial_state g
    → ps ≡ mark_rect (memory_rect g) t.spans → m' ≡ cleared g (memory_rect g) m → ds' ≡ all_erased ds
    → started (answer Accepted (with_spans t ps)) m' ds' ≡ start_call g m ds
unfolding start_call start_refusal is_accepted refusal_number cleared
start_accepted g m m' ds ds' t ps l e k c d =
    rw (eq-eqb (length m) (memory_length g) l, d)
    (ap₂ (λ (s : State) (x : List ℕ). started (answer Accepted s) x (all_erased ds))
    (ap₂ (λ (s : State) (qs : List Span). with_spans s qs) e
    (k ∙ ap (λ (s : State). mark_rect (memory_rect g) s.spans) e)) c)
