-- What bytes stand for, by the test of them. Assumes nothing.
use Prim.Native.Nat.{ℕ}
use Rattle.std.specs.Prelude.{Option, None}
use mathlib.Core.Path.{◌≡◌, ap, ◌∙◌}
use mathlib.Core.Bool.{Bool, true, false}
use mathlib.Core.List.{List}
use Rattle.paper.specs.declared.Half.{Half}
use Rattle.paper.specs.declared.Held.{Held}
use Rattle.paper.specs.declared.Half.TheVariants.{Nothing}
use Rattle.paper.specs.declared.State.{State}
use Rattle.paper.specs.Settings.{with_hold, with_half}
use Rattle.record_half.specs.declared.Slots.{Slots}
use Rattle.record_half.specs.Slots.{half_of}
use Rattle.record_bytes.specs.Bytes.{at_hold, at_half, encoded}
use Rattle.record_parts.specs.Parts.{hold_at, slots_at, decoded_with}
use Rattle.record_read.specs.Record.{decoded, same, broken, state_of}

module _ (l : List ℕ) {s : State} {t : Bool} (d : s ≡ decoded l) (e : t ≡ same (encoded s) l) where
  -- the bytes of their state are the same
  pub stands : t ≡ true → s ≡ state_of l
  unfolding state_of
  stands g = rw (← d, ← e, g)

  -- they are others
  pub stands_broken : t ≡ false → broken s ≡ state_of l
  unfolding state_of
  stands_broken g = rw (← d, ← e, g)

-- read with nothing held or half read, and then what is
module _
    (l : List ℕ) {s : State} {hold : Option Held} {half : Half} {slots : Slots} {t : Bool}
    (d : s ≡ decoded_with l None Nothing) (h : hold ≡ hold_at l at_hold) (p : half ≡ half_of slots) (q : slots ≡ slots_at l at_half)
    (e : t ≡ same (encoded (decoded_with l hold half)) l) where
  read : decoded_with l hold half ≡ decoded l
  unfolding decoded
  read = rw (h, p, q)

  pub busy_stands : t ≡ true → with_half (with_hold s hold) half ≡ state_of l
  busy_stands g = ap (λ (s : State). with_half (with_hold s hold) half) d ∙ stands l read e g

  pub busy_stands_broken : t ≡ false → broken (with_half (with_hold s hold) half) ≡ state_of l
  busy_stands_broken g = ap (λ (s : State). broken (with_half (with_hold s hold) half)) d ∙ stands_broken l read e g
