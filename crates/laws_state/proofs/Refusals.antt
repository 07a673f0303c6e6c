-- What a call was given if it is not refused, and that it is not refused if it is given that. Assumes nothing.
use mathlib.Core.Path.{◌≡◌, refl, sym, ◌∙◌}
use mathlib.Core.Bool.{Bool, true, false, cond, not, false≢true}
use mathlib.Core.List.{List}
use Prim.Native.Nat.{ℕ}
use lib.Dec.{eqb}
use lib.ListN.{length}
use borrow.Author.Tests.{eqb-true, eq-eqb, not-false}
use Rattle.paper.specs.declared.Module.{Module}
use Rattle.paper.specs.declared.Refusal.{Refusal}
use Rattle.paper.specs.declared.Refusal.TheVariants.{Accepted, MemoryLength, FontLength, NoSuchWindow, UndefinedWindow, HeldAlready, BrokenState}
use Rattle.paper.specs.declared.State.{State}
use Rattle.paper.specs.Panel.{memory_length, font_length}
use Rattle.paper.specs.Reading.{between}
use Rattle.paper.specs.Settings.{window_at, is_defined}
use Rattle.paper.specs.Bounds.{accepted}
use Rattle.paper.specs.Carry.{is_held}
use Rattle.paper.specs.Numbers.{refusal_number}
use Rattle.paper.specs.Calls.{is_not, is_accepted, feed_refusal, hold_refusal}

-- a call that passes a test, whose refusal is r, goes on to the next
passed : (t : Bool) (r q : Refusal) → is_accepted r ≡ false → is_accepted (cond t r q) ≡ true
    → (t ≡ false) × (is_accepted q ≡ true)
passed true r q n e = absurd (false≢true (sym n ∙ e))
passed false r q n e = (refl, e)

-- a list has the length asked
right_length : (n : ℕ) (l : List ℕ) → is_not n l ≡ false → length l ≡ n
right_length n l e = eqb-true (length l) n (not-false (eqb (length l) n) e)

module _ (g : Module) where
  -- a feed that is not refused
  pub feed_given : (font : List ℕ) (s : State) (ds m : List ℕ) → is_accepted (feed_refusal g font s ds m) ≡ true
      → (length m ≡ memory_length g) × (length font ≡ font_length g) × (accepted g s ds ≡ true)
  unfolding feed_refusal is_accepted refusal_number
  feed_given font s ds m e =
      let a = passed (is_not (memory_length g) m) MemoryLength _ refl e in
      let b = passed (is_not (font_length g) font) FontLength _ refl a.1 in
      let c = passed (not (accepted g s ds)) BrokenState Accepted refl b.1 in
      (right_length (memory_length g) m a.0, right_length (font_length g) font b.0, not-false (accepted g s ds) c.0)

  -- and back
  pub feed_taken : (font : List ℕ) (s : State) (ds m : List ℕ) → length m ≡ memory_length g → length font ≡ font_length g
      → accepted g s ds ≡ true → feed_refusal g font s ds m ≡ Accepted
  unfolding feed_refusal
  feed_taken font s ds m l f h = rw (eq-eqb (length m) (memory_length g) l, eq-eqb (length font) (font_length g) f, h)

  -- a hold that is not refused
  pub hold_given : (s : State) (ds : List ℕ) (k : ℕ) → is_accepted (hold_refusal g s ds k) ≡ true
      → (accepted g s ds ≡ true) × (is_held s.hold ≡ false) × (between 1 4 k ≡ true)
      × (is_defined (window_at s.windows k) ≡ true)
  unfolding hold_refusal is_accepted refusal_number
  hold_given s ds k e =
      let a = passed (not (accepted g s ds)) BrokenState _ refl e in
      let b = passed (is_held s.hold) HeldAlready _ refl a.1 in
      let c = passed (not (between 1 4 k)) NoSuchWindow _ refl b.1 in
      let d = passed (not (is_defined (window_at s.windows k))) UndefinedWindow Accepted refl c.1 in (
        not-false (accepted g s ds) a.0,
        b.0,
        not-false (between 1 4 k) c.0,
        not-false (is_defined (window_at s.windows k)) d.0,
      )
