-- What feed gives, refused and not. Assumes nothing.
use mathlib.Core.Path.{◌≡◌}
use mathlib.Core.Bool.{true, false}
use mathlib.Core.List.{List}
use Prim.Native.Nat.{ℕ}
use lib.ListN.{length}
use borrow.Author.Tests.{eq-eqb, ne_eqb}
use Rattle.paper.specs.declared.Module.{Module}
use Rattle.paper.specs.declared.Refusal.TheVariants.{Accepted, MemoryLength, FontLength, BrokenState}
use Rattle.paper.specs.declared.State.{State}
use Rattle.paper.specs.Panel.{memory_length, font_length}
use Rattle.paper.specs.Bounds.{accepted}
use Rattle.paper.specs.Numbers.{refusal_number}
use Rattle.paper.specs.Calls.{is_accepted, feed_refusal, run, fed_nothing, feed_call}

module _ (g : Module) (font : List ℕ) (s : State) (ds m piece : List ℕ) where
  -- 1
  pub feed_memory : (length m ≡ memory_length g → ⊥) → fed_nothing MemoryLength s ds m ≡ feed_call g font s ds m piece
  unfolding feed_call feed_refusal is_accepted refusal_number
  feed_memory h = rw (ne_eqb (length m) (memory_length g) h)

  -- 2
  pub feed_font : length m ≡ memory_length g → (length font ≡ font_length g → ⊥) → fed_nothing FontLength s ds m ≡ feed_call g font s ds m piece
  unfolding feed_call feed_refusal is_accepted refusal_number
  feed_font l h = rw (eq-eqb (length m) (memory_length g) l, ne_eqb (length font) (font_length g) h)

  -- 8
  pub feed_broken : length m ≡ memory_length g → length font ≡ font_length g → accepted g s ds ≡ false
      → fed_nothing BrokenState s ds m ≡ feed_call g font s ds m piece
  unfolding feed_call feed_refusal is_accepted refusal_number
  feed_broken l h a = rw (eq-eqb (length m) (memory_length g) l, eq-eqb (length font) (font_length g) h, a)

  -- none of these
  pub feed_accepted : length m ≡ memory_length g → length font ≡ font_length g → accepted g s ds ≡ true
      → run g font (fed_nothing Accepted s ds m) piece ≡ feed_call g font s ds m piece
  unfolding feed_call feed_refusal is_accepted refusal_number
  feed_accepted l h a = rw (eq-eqb (length m) (memory_length g) l, eq-eqb (length font) (font_length g) h, a)
