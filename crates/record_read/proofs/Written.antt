-- Bytes and those of their state differ in nothing but what is held and what is half read. Assumes nothing.
use Prim.Native.Nat.{ℕ, zero, suc, ◌+◌, ◌<◌}
use Rattle.std.specs.Prelude.{Option}
use native.Mathlib.Omega.{arith}
use mathlib.Core.Path.{◌≡◌, refl, sym, ap, ap₂, ◌∙◌}
use mathlib.Core.List.{List, [], ◌∷◌, ◌++◌}
use mathlib.Core.Bool.{Bool, ◌&&◌}
use lib.ListN.{length, get_or}
use Rattle.paper.specs.declared.Half.{Half}
use Rattle.paper.specs.declared.Held.{Held}
use Rattle.paper.specs.Panel.{bytes_from}
use Rattle.record_half.specs.Slots.{half_slots}
use Rattle.record_bytes.specs.Bytes.{settings_length, window_length, base_length, hold_length, half_length, spans_length, state_length}
use Rattle.record_bytes.specs.Bytes.{at_first, at_second, at_third, at_fourth, at_base, at_selected, at_hold, at_half, at_upper, at_lower}
use Rattle.record_bytes.specs.Bytes.{low, high, window_bytes, windows_bytes, base_bytes, hold_bytes, slot_bytes, span_bytes, tail_bytes, encoded}
use Rattle.record_write.proofs.Laid.{hold_length_lem}
use Rattle.record_parts.specs.Parts.{word_at, cursor_at, window_from, span_at, decoded_with}
use Rattle.record_read.specs.Record.{same}
use Rattle.record_read.proofs.Same.{same-between}

-- ---- a list by its bytes

reads_next : (n i b : ℕ) (l : List ℕ) → bytes_from n (suc i) (b ∷ l) ≡ bytes_from n i l
reads_next zero i b l = refl
reads_next (suc n) i b l = ap (λ (t : List ℕ). get_or l i 0 ∷ t) (reads_next n (suc i) b l)

reads_all : (l : List ℕ) → bytes_from (length l) 0 l ≡ l
reads_all [] = refl
reads_all (b ∷ l) = ap (λ (t : List ℕ). b ∷ t) (reads_next (length l) 0 b l ∙ reads_all l)

module _ (l : List ℕ) (bytes : (k : ℕ) → get_or l k 0 < 256) where
  -- ---- parts whose bytes are the list's own

  -- a 16-bit number's two bytes
  two : (i : ℕ) {t t' : List ℕ} → t ≡ t' → low (word_at l i) ∷ high (word_at l i) ∷ t ≡ get_or l i 0 ∷ get_or l (i + 1) 0 ∷ t'
  two i e =
      let b = bytes i in
      ap₂ ◌∷◌ (omega arith) (ap₂ ◌∷◌ (omega arith) e)

  -- a window's, the cursor's among them
  window_same : (i : ℕ) → window_bytes (window_from l i)
      ≡ get_or l i 0 ∷ get_or l (i + 1) 0 ∷ get_or l (i + 2) 0 ∷ get_or l (i + 2 + 1) 0 ∷ get_or l (i + 4) 0 ∷ get_or l (i + 4 + 1) 0 ∷ get_or l (i + 6) 0
      ∷ get_or l (i + 6 + 1) 0 ∷ get_or l (i + 8) 0 ∷ get_or l (i + 8 + 1) 0 ∷ get_or l (i + 8 + 2) 0 ∷ get_or l (i + 8 + 2 + 1) 0 ∷ get_or l (i + 8 + 4) 0 ∷ []
  unfolding window_from cursor_at
  window_same i = two i (two (i + 2) (two (i + 4) (two (i + 6) (two (i + 8) (two (i + 8 + 2) refl)))))

  windows_same : windows_bytes (window_from l at_first ∷ window_from l at_second ∷ window_from l at_third ∷ window_from l at_fourth ∷ [])
      ≡ bytes_from window_length at_first l ++ (bytes_from window_length at_second l ++ (bytes_from window_length at_third l ++ bytes_from window_length at_fourth l))
  unfolding windows_bytes
  windows_same = ap₂ ◌++◌ (window_same at_first) (ap₂ ◌++◌ (window_same at_second) (ap₂ ◌++◌ (window_same at_third) (window_same at_fourth)))

  -- a span's
  span_same : (i : ℕ) → span_bytes (span_at l i) ≡ get_or l i 0 ∷ get_or l (i + 1) 0 ∷ get_or l (i + 2) 0 ∷ get_or l (i + 2 + 1) 0 ∷ []
  unfolding span_at
  span_same i = two i (two (i + 2) refl)

  -- the base's, and the selection
  base_same : base_bytes (cursor_at l at_base) (get_or l at_selected 0) ≡ bytes_from base_length at_base l
  unfolding cursor_at
  base_same = two at_base (two (at_base + 2) refl)

  -- ---- all of them

  -- its own parts
  own_parts : length l ≡ state_length → l ≡ bytes_from at_hold 0 l ++ (bytes_from hold_length at_hold l ++ (bytes_from half_length at_half l ++ bytes_from spans_length at_upper l))
  own_parts long = sym (reads_all l) ∙ ap (λ (n : ℕ). bytes_from n 0 l) long

  module _ (hold : Option Held) (half : Half) where
    tail_same : tail_bytes (decoded_with l hold half)
        ≡ bytes_from base_length at_base l ++ (hold_bytes hold ++ (slot_bytes (half_slots half) ++ bytes_from spans_length at_upper l))
    unfolding tail_bytes
    tail_same =
        ap₂ ◌++◌ base_same
        (ap (λ (t : List ℕ). hold_bytes hold ++ (slot_bytes (half_slots half) ++ t)) (ap₂ ◌++◌ (span_same at_upper) (span_same at_lower)))

    -- those of its state's bytes
    state_parts : encoded (decoded_with l hold half)
        ≡ bytes_from at_hold 0 l ++ (hold_bytes hold ++ (slot_bytes (half_slots half) ++ bytes_from spans_length at_upper l))
    unfolding encoded
    state_parts = ap (λ (t : List ℕ). bytes_from settings_length 0 l ++ t) (ap₂ ◌++◌ windows_same tail_same)

    -- the two are the same where these two parts are
    pub parts_decide : length l ≡ state_length
        → same (encoded (decoded_with l hold half)) l ≡ (same (hold_bytes hold) (bytes_from hold_length at_hold l) && same (slot_bytes (half_slots half)) (bytes_from half_length at_half l))
    parts_decide long =
        ap₂ same state_parts (own_parts long)
        ∙ same-between (bytes_from at_hold 0 l) (hold_bytes hold) (bytes_from hold_length at_hold l) (slot_bytes (half_slots half)) (bytes_from half_length at_half l) (bytes_from spans_length at_upper l) (hold_length_lem hold) refl

    -- a test of each
    pub both_tested : {held read : List ℕ} {t u : Bool} → length l ≡ state_length → held ≡ hold_bytes hold → read ≡ slot_bytes (half_slots half)
        → t ≡ same held (bytes_from (length held) at_hold l) → u ≡ same read (bytes_from (length read) at_half l)
        → (t && u) ≡ same (encoded (decoded_with l hold half)) l
    both_tested long h p e f = rw (parts_decide long, e, f, h, p, hold_length_lem hold)
