-- What a refresh gives, refused and not. Assumes nothing.
use mathlib.Core.Path.{◌≡◌}
use mathlib.Core.Bool.{true, false}
use mathlib.Core.List.{List}
use Prim.Native.Nat.{ℕ, ◌<◌, ◌≤◌}
use native.Mathlib.Nat.{mul-le-mul_left}
use native.Mathlib.Omega.{arith}
use lib.ListN.{length}
use borrow.Author.Tests.{eq-eqb, ne_eqb}
use Rattle.paper.specs.declared.Module.{Module}
use Rattle.paper.specs.declared.Refusal.TheVariants.{Accepted, MemoryLength, GlassLength, BrokenState}
use Rattle.paper.specs.declared.State.{State}
use Rattle.paper.specs.Panel.{memory_length, glass_length}
use Rattle.paper.specs.Strokes.{refreshed, shown_all}
use Rattle.paper.specs.Bounds.{accepted}
use Rattle.paper.specs.Numbers.{refusal_number}
use Rattle.paper.specs.Calls.{is_accepted, refresh_refusal, refreshing, emptied, refresh_call}
use Rattle.laws_state.specs.Room.{Usable}

module _ (g : Module) (s : State) (ds m glass : List ℕ) where
  -- 1
  pub refresh_memory : (length m ≡ memory_length g → ⊥) → refreshing MemoryLength s 0 glass ≡ refresh_call g s ds m glass
  unfolding refresh_call refresh_refusal is_accepted refusal_number
  refresh_memory h = rw (ne_eqb (length m) (memory_length g) h)

  -- 3
  pub refresh_glass : length m ≡ memory_length g → (length glass ≡ glass_length g → ⊥) → refreshing GlassLength s 0 glass ≡ refresh_call g s ds m glass
  unfolding refresh_call refresh_refusal is_accepted refusal_number
  refresh_glass l h = rw (eq-eqb (length m) (memory_length g) l, ne_eqb (length glass) (glass_length g) h)

  -- 8
  pub refresh_broken : length m ≡ memory_length g → length glass ≡ glass_length g → accepted g s ds ≡ false
      → refreshing BrokenState s 0 glass ≡ refresh_call g s ds m glass
  unfolding refresh_call refresh_refusal is_accepted refusal_number
  refresh_broken l h a = rw (eq-eqb (length m) (memory_length g) l, eq-eqb (length glass) (glass_length g) h, a)

  -- none of these
  pub refresh_accepted : length m ≡ memory_length g → length glass ≡ glass_length g → accepted g s ds ≡ true
      → refreshing Accepted (emptied g s) (shown_all g s.spans) (refreshed g m s.spans glass) ≡ refresh_call g s ds m glass
  unfolding refresh_call refresh_refusal is_accepted refusal_number
  refresh_accepted l h a = rw (eq-eqb (length m) (memory_length g) l, eq-eqb (length glass) (glass_length g) h, a)

-- a glass is no longer than the memory
pub glass_small : (g : Module) → Usable g → glass_length g ≤ 65536
glass_small g u = omega (arith, u.small, mul-le-mul_left g.rows (visible-le u.visible_part)) where
  visible-le : g.visible < g.columns → g.visible ≤ g.columns
  visible-le l = omega arith
