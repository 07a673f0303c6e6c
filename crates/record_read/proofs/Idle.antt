-- Bytes with nothing held and nothing half read: they are their state's own. Assumes nothing.
use Prim.Native.Nat.{ℕ, zero, suc, ◌+◌, ◌-◌, ◌<◌, ◌≤◌}
use native.Mathlib.Omega.{arith}
use mathlib.Core.Path.{◌≡◌, refl, sym, ap, ap₂, ◌∙◌}
use mathlib.Core.List.{List, [], ◌∷◌}
use mathlib.Core.Bool.{Bool, true, false, ◌&&◌, true≢false}
use lib.ListN.{length, get_or, replicate, take, drop, length-drop}
use lib.Seq.{length-take-le}
use borrow.Author.Tests.{eqb-true}
use Rattle.std.specs.Prelude.{nat_eq, None}
use Rattle.std.specs.List.{fold}
use Rattle.std.proofs.lemmas.List.{get_or-take, get_or-drop}
use Rattle.std.proofs.lemmas.List.Folds.{fold_stays}
use Rattle.paper.specs.declared.Half.TheVariants.{Nothing}
use Rattle.paper.specs.Panel.{bytes_from}
use Rattle.record_half.specs.Slots.{half_slots, half_of}
use Rattle.record_bytes.specs.Bytes.{hold_length, half_length, at_hold, at_half, at_upper, state_length, hold_bytes, encoded}
use Rattle.record_parts.specs.Parts.{hold_at, slots_at, decoded_with}
use Rattle.record_read.specs.Record.{decoded, Idle, same, state_of}
use Rattle.record_read.proofs.Written.{parts_decide}
use Rattle.record_read.proofs.Stands.{stands}

-- ---- the bytes tested

-- a byte that is not 0 is not forgotten
zeros_told : (l : List ℕ) → fold (λ zero b. zero && nat_eq b 0) true l ≡ true → (k : ℕ) → k < length l → get_or l k 0 ≡ 0
zeros_told [] e k h = absurd (omega arith)
zeros_told (b ∷ l) e k h = go (nat_eq b 0) refl e (zeros_told l) k h where
  go : (z : Bool) → nat_eq b 0 ≡ z → fold (λ zero b. zero && nat_eq b 0) z l ≡ true
      → (fold (λ zero b. zero && nat_eq b 0) true l ≡ true → (k : ℕ) → k < length l → get_or l k 0 ≡ 0)
      → (k : ℕ) → k < length (b ∷ l) → get_or (b ∷ l) k 0 ≡ 0
  go true n e rest zero h = eqb-true b 0 n
  go true n e rest (suc k) h = rest e k (omega arith)
  go false n e rest k h = absurd (true≢false (sym e ∙ fold_stays (λ (zero : Bool) (b : ℕ). zero && nat_eq b 0) false (λ b. refl) l))

-- and so of the part that is tested
pub idle_told : (l : List ℕ) → length l ≡ state_length → fold (λ zero b. zero && nat_eq b 0) true (take (at_upper - at_hold) (drop at_hold l)) ≡ true
    → Idle l
idle_told l long e k low high =
    let part = take (at_upper - at_hold) (drop at_hold l) in
    let n : length part ≡ at_upper - at_hold = length-take-le (at_upper - at_hold) (drop at_hold l) (omega (arith, length-drop at_hold l)) in
    let here : get_or part (k - at_hold) 0 ≡ get_or l k 0 =
    get_or-take (at_upper - at_hold) (drop at_hold l) (k - at_hold) 0 (omega arith)
    ∙ get_or-drop at_hold l (k - at_hold) 0
    ∙ ap (λ (i : ℕ). get_or l i 0) (omega arith) in
    sym here ∙ zeros_told part e (k - at_hold) (omega arith)

-- ---- what it stands for

-- a part of it is zeros
zero_same : (n i : ℕ) (l : List ℕ) → ((k : ℕ) → i ≤ k → k < i + n → get_or l k 0 ≡ 0) → same (replicate n 0) (bytes_from n i l) ≡ true
zero_same zero i l h = refl
zero_same (suc n) i l h =
    rw (h i (omega arith) (omega arith)) (zero_same n (suc i) l (λ k a b. h k (omega arith) (omega arith)))

module _ (l : List ℕ) (bytes : (k : ℕ) → get_or l k 0 < 256) (long : length l ≡ state_length) (idle : Idle l) where
  -- they are their state's own
  idle-same : same (encoded (decoded_with l None Nothing)) l ≡ true
  unfolding hold_bytes half_slots
  idle-same =
      parts_decide l bytes None Nothing long
      ∙ ap₂ ◌&&◌ (zero_same hold_length at_hold l (λ k a b. idle k (omega arith) (omega arith))) (zero_same half_length at_half l (λ k a b. idle k (omega arith) (omega arith)))

  -- nothing is held, nothing is half read
  decoded-idle : decoded_with l None Nothing ≡ decoded l
  unfolding decoded hold_at slots_at half_of
  decoded-idle = rw (idle at_hold (omega arith) (omega arith), idle at_half (omega arith) (omega arith))

  -- they stand for that state
  pub idle_stands : decoded_with l None Nothing ≡ state_of l
  idle_stands = stands l decoded-idle refl idle-same
