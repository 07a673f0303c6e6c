-- What an accepted state gives the code: the selected window is one of four, and a kept cursor is a small number. Assumes nothing.
use mathlib.Core.Path.{◌≡◌, refl, sym, ap₂, ◌∙◌}
use mathlib.Core.Bool.{Bool, true, false}
use Prim.Native.Nat.{◌+◌, ◌<◌, ◌≤◌}
use native.Mathlib.Omega.{arith}
use lib.Dec.{eqb}
use borrow.Author.Tests.{eqb-true}
use Rattle.paper.specs.declared.Module.{Module}
use Rattle.paper.specs.declared.State.{State}
use Rattle.paper.specs.declared.View.{View}
use Rattle.paper.specs.Bounds.{state_ok}
use Rattle.paper.specs.Settings.{view_of}
use Rattle.paper.specs.Cells.{too_large}
use Rattle.paper.specs.Moves.{Moved}
use Rattle.paper.specs.Carry.{exceeds}
use Rattle.glyphs.specs.declared.Cell.{Cell}
use Rattle.glyphs.specs.Cell.{cell_of}
use Rattle.laws_state.specs.Room.{Usable, InMemory, Kept}
use Rattle.laws_state.proofs.Parts.{parts, selected_facts}

-- the selected window is the base or a user window
pub selected_small : (g : Module) (s : State) → state_ok g s ≡ true → s.selected ≤ 4
selected_small g s h = go (eqb s.selected 0) refl where
  go : (t : Bool) → eqb s.selected 0 ≡ t → s.selected ≤ 4
  go true e = omega (arith, eqb-true s.selected 0 e)
  go false e = let f = selected_facts s.windows s.selected (parts g s h).selected e in omega arith

-- a kept cursor fits the state's numbers
pub place_small : (g : Module) (v : View) (t : Moved) → Usable g → InMemory g v → Kept v t
    → (t.view.left + t.view.x < 65536) × (t.view.top + t.view.y < 65536)
place_small g v t u i k = (omega arith, omega arith)

-- whether the cell exceeds the range, by what the calls gave
pub tested : (g : Module) (s : State) (v : View) (c : Cell) (t u : Bool) → v ≡ view_of g s
    → c ≡ cell_of g s.settings.width s.settings.style → t ≡ too_large v c.columns c.rows → t ≡ u → exceeds g s ≡ u
tested g s v c t u e k f h =
    sym (ap₂ (λ (q : View) (z : Cell). too_large q z.columns z.rows) e k) ∙ sym f ∙ h
