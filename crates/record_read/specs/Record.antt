-- The state that bytes stand for: the first 115 of a record of 259, which ends with the downloads. docs/RECORD.md has the layout.
-- Assumes nothing.
use Rattle.std.specs.Prelude.{ℕ, ◌<◌, ◌≤◌, ◌≡◌, Bool, true, false, cond, ◌&&◌, List, [], ◌∷◌, get_or, take, drop, eqb}
use Rattle.paper.specs.declared.State.{State}
use Rattle.paper.specs.Settings.{with_selected}
use Rattle.record_half.specs.Slots.{half_of}
use Rattle.record_bytes.specs.Bytes.{at_hold, at_half, at_upper, state_length, encoded}
use Rattle.record_parts.specs.Parts.{hold_at, slots_at, decoded_with}

-- ---- any bytes, read by their places

unfoldable pub decoded : List ℕ → State
decoded l = decoded_with l (hold_at l at_hold) (half_of (slots_at l at_half))

-- ---- the state that they stand for

-- the bytes of what is held and of what is half read are all 0: nothing is either
abbrev pub Idle : List ℕ → Type 0
Idle l = (k : ℕ) → at_hold ≤ k → k < at_upper → get_or l k 0 ≡ 0

-- whether two lists are the same
abbrev pub same : List ℕ → List ℕ → Bool
same [] [] = true
same [] (b ∷ m) = false
same (a ∷ l) [] = false
same (a ∷ l) (b ∷ m) = eqb a b && same l m

-- a state that is never accepted: there is no window 5
abbrev pub broken : State → State
broken s = with_selected s 5

-- "state record breaks a bound": bytes that no state is encoded by stand for a broken one
unfoldable pub state_of : List ℕ → State
state_of l = cond (same (encoded (decoded l)) l) (decoded l) (broken (decoded l))

-- ---- a record: a state's bytes, and the downloads

abbrev pub state_in : List ℕ → State
state_in l = state_of (take state_length l)

abbrev pub store_in : List ℕ → List ℕ
store_in l = drop state_length l
