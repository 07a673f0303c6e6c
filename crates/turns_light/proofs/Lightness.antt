-- Whether a turn is light, from its tests. Assumes nothing.
use mathlib.Core.Path.{◌≡◌, sym, ap}
use mathlib.Core.Bool.{Bool, true, false, not, ◌&&◌, true≢false}
use mathlib.Core.List.{List}
use Prim.Native.Nat.{ℕ}
use borrow.Author.Tests.{not-true}
use Rattle.paper.specs.declared.Module.{Module}
use Rattle.paper.specs.declared.State.{State}
use Rattle.paper.specs.Cells.{too_large}
use Rattle.paper.specs.Settings.{view_of}
use Rattle.paper.specs.Carry.{exceeds}
use Rattle.laws_bytes.proofs.Tests.{both_of}
use Rattle.carry_state.proofs.Facts.{tested}
use Rattle.glyphs.specs.declared.Cell.{Cell}
use Rattle.glyphs.specs.Cell.{cell_of}
use Rattle.moves.specs.declared.Spot.{Spot}
use Rattle.moves.specs.Does.{spot}
use Rattle.strides.specs.Strides.{is_light}
use Rattle.turns_half.specs.Halves.{is_nothing}
use Rattle.turns_light.specs.Turns.{Light, light_start, light_at}
use Rattle.turns_half.proofs.Halves.{nothing_is}

-- whether the cell exceeds the range, by what the calls gave
pub spot_tested : (g : Module) (s : State) (p : Spot) (c : Cell) (t u : Bool) → p ≡ spot (view_of g s) s.spans
    → c ≡ cell_of g s.settings.width s.settings.style → t ≡ too_large p.view c.columns c.rows → t ≡ u → exceeds g s ≡ u
spot_tested g s p c t u e = tested g s p.view c t u (ap (λ (q : Spot). q.view) e)

module _ (g : Module) (s : State) (piece : List ℕ) (i : ℕ) where
  -- what the test says where it holds
  pub light_is : light_at g s piece i ≡ true → Light g s piece i
  light_is e =
      let both = both_of (light_start s.half piece i) (not (exceeds g s)) e in
      let begun = both_of (is_nothing s.half) (is_light piece i) both.0 in
      record {
        free = nothing_is s.half begun.0;
        has = begun.1;
        room = not-true _ both.1;
      }

  -- and where it does not: what begins there as light has no room
  pub not_light : light_at g s piece i ≡ false → light_start s.half piece i ≡ true → exceeds g s ≡ true
  not_light e h = go (light_start s.half piece i) (exceeds g s) e h where
    go : (a b : Bool) → (a && not b) ≡ false → a ≡ true → b ≡ true
    go true true e h = h
    go true false e h = absurd (true≢false e)
    go false b e h = absurd (true≢false (sym h))
