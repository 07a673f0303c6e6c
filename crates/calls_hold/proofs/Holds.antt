-- What hold and release give, refused and not. Assumes nothing.
use mathlib.Core.Path.{◌≡◌}
use mathlib.Core.Bool.{true, false}
use mathlib.Core.List.{List}
use Prim.Native.Nat.{ℕ}
use Rattle.paper.specs.declared.Module.{Module}
use Rattle.paper.specs.declared.Refusal.TheVariants.{Accepted, NoSuchWindow, UndefinedWindow, HeldAlready, NotHeld, BrokenState}
use Rattle.paper.specs.declared.State.{State}
use Rattle.paper.specs.Reading.{between}
use Rattle.paper.specs.Settings.{window_at, is_defined}
use Rattle.paper.specs.Bounds.{accepted}
use Rattle.paper.specs.Carry.{is_held}
use Rattle.paper.specs.Numbers.{refusal_number}
use Rattle.paper.specs.Calls.{is_accepted, answer, hold_refusal, held_by, hold_call, release_refusal, put_back, released, release_call}

module _ (g : Module) (s : State) (ds : List ℕ) (k : ℕ) where
  -- 8
  pub hold_broken : accepted g s ds ≡ false → answer BrokenState s ≡ hold_call g s ds k
  unfolding hold_call hold_refusal is_accepted refusal_number
  hold_broken a = rw a

  -- 6
  pub hold_held : accepted g s ds ≡ true → is_held s.hold ≡ true → answer HeldAlready s ≡ hold_call g s ds k
  unfolding hold_call hold_refusal is_accepted refusal_number
  hold_held a h = rw (a, h)

  -- 4
  pub hold_number_lem : accepted g s ds ≡ true → is_held s.hold ≡ false → between 1 4 k ≡ false → answer NoSuchWindow s ≡ hold_call g s ds k
  unfolding hold_call hold_refusal is_accepted refusal_number
  hold_number_lem a h n = rw (a, h, n)

  -- 5
  pub hold_undefined : accepted g s ds ≡ true → is_held s.hold ≡ false → between 1 4 k ≡ true
      → is_defined (window_at s.windows k) ≡ false → answer UndefinedWindow s ≡ hold_call g s ds k
  unfolding hold_call hold_refusal is_accepted refusal_number
  hold_undefined a h n d = rw (a, h, n, d)

  -- none of these
  pub hold_accepted : accepted g s ds ≡ true → is_held s.hold ≡ false → between 1 4 k ≡ true
      → is_defined (window_at s.windows k) ≡ true → answer Accepted (held_by s k) ≡ hold_call g s ds k
  unfolding hold_call hold_refusal is_accepted refusal_number
  hold_accepted a h n d = rw (a, h, n, d)

module _ (g : Module) (s : State) (ds : List ℕ) where
  -- 8
  pub release_broken : accepted g s ds ≡ false → answer BrokenState s ≡ release_call g s ds
  unfolding release_call release_refusal is_accepted refusal_number
  release_broken a = rw a

  -- 7
  pub release_free : accepted g s ds ≡ true → is_held s.hold ≡ false → answer NotHeld s ≡ release_call g s ds
  unfolding release_call release_refusal is_accepted refusal_number
  release_free a h = rw (a, h)

  -- none of these
  pub release_accepted : accepted g s ds ≡ true → is_held s.hold ≡ true → answer Accepted (put_back s s.hold) ≡ release_call g s ds
  unfolding release_call release_refusal is_accepted refusal_number released
  release_accepted a h = rw (a, h)
