-- What was encoded decodes to the same state, and a record that stands for an accepted state is that state's, with its downloads.
-- Assumes nothing.
use Prim.Native.Nat.{ℕ, ◌+◌, ◌*◌}
use Rattle.std.specs.Prelude.{Option, None, Some}
use native.Mathlib.Nat.{div-add-mod'}
use native.Mathlib.Omega.{arith}
use mathlib.Core.Path.{◌≡◌, refl, sym, ap, ◌∙◌}
use mathlib.Core.List.{List, [], ◌∷◌, ◌++◌}
use mathlib.Core.Bool.{Bool, true, false, and-false, true≢false}
use lib.ListN.{length, get_or, take, take-append-drop}
use lib.Seq.{take_at, drop_at}
use Rattle.paper.specs.declared.Module.{Module}
use Rattle.paper.specs.declared.Settings.{Settings}
use Rattle.paper.specs.declared.Cursor.{Cursor}
use Rattle.paper.specs.declared.Window.{Window}
use Rattle.paper.specs.declared.Span.{Span}
use Rattle.paper.specs.declared.Half.{Half}
use Rattle.paper.specs.declared.Held.{Held}
use Rattle.paper.specs.declared.State.{State}
use Rattle.paper.specs.Panel.{panel}
use Rattle.paper.specs.Strokes.{no_span}
use Rattle.paper.specs.Settings.{window_at, selectable}
use Rattle.paper.specs.Bounds.{state_ok, accepted}
use Rattle.laws_bytes.proofs.Tests.{both_of}
use Rattle.laws_memory.proofs.Spans.{two_spans}
use Rattle.laws_state.specs.Sized.{Sized}
use Rattle.laws_state.proofs.Tests.{by_cond}
use Rattle.record_half.specs.declared.Slots.{Slots}
use Rattle.record_half.specs.Slots.{slots, half_slots}
use Rattle.record_half.proofs.Back.{half_back}
use Rattle.record_bytes.specs.Bytes.{at_first, at_second, at_third, at_fourth, at_base, at_selected, at_hold, at_half, at_upper, at_lower}
use Rattle.record_bytes.specs.Bytes.{low, high, state_length, windows_bytes, hold_bytes, tail_bytes, encoded, record_of}
use Rattle.record_write.proofs.Laid.{encoded-length}
use Rattle.record_parts.specs.Parts.{settings_at, cursor_at, window_from, span_at, hold_at, slots_at}
use Rattle.record_read.specs.Record.{decoded, same, broken, state_of, state_in, store_in}
use Rattle.record_read.proofs.Same.{same_self, same-eq}

-- ---- the parts

-- a 16-bit number of its two bytes
abbrev word : ℕ → ℕ
word n = low n + 256 * high n

word_back : (n : ℕ) → word n ≡ n
word_back n = omega (arith, div-add-mod' n 256)

cursor_back : (k : Cursor)
    → record { x = word k.x; y = word k.y; mode = k.mode } ≡ k
cursor_back k = rw (word_back k.x, word_back k.y)

window_back : (w : Window)
    → record {
      left = word w.left;
      top = word w.top;
      width = word w.width;
      height = word w.height;
      cursor = record { x = word w.cursor.x; y = word w.cursor.y; mode = w.cursor.mode };
    } ≡ w
window_back w = rw (word_back w.left, word_back w.top, word_back w.width, word_back w.height, cursor_back w.cursor)

span_back : (p : Span) → record { first = word p.first; end = word p.end } ≡ p
span_back p = rw (word_back p.first, word_back p.end)

four : (ws : List Window) → length ws ≡ 4 → window_at ws 1 ∷ window_at ws 2 ∷ window_at ws 3 ∷ window_at ws 4 ∷ [] ≡ ws
four [] e = absurd (omega arith)
four (a ∷ []) e = absurd (omega arith)
four (a ∷ b ∷ []) e = absurd (omega arith)
four (a ∷ b ∷ c ∷ []) e = absurd (omega arith)
four (a ∷ b ∷ c ∷ d ∷ []) e = refl
four (a ∷ b ∷ c ∷ d ∷ f ∷ ws) e = absurd (omega arith)

slots_back : (t : Slots)
    → slots t.case t.a t.b t.c t.d (word t.p) (word t.q) (word t.r) (word t.s) t.columns ≡ t
slots_back t = rw (word_back t.p, word_back t.q, word_back t.r, word_back t.s)

-- ---- the state's bytes

-- a state by its fields
abbrev state : Settings → List Window → Cursor → ℕ → Option Held → Half → List Span → State
state v ws k n h p ps =
    record { settings = v; windows = ws; base = k; selected = n; hold = h; half = p; spans = ps }

module _ (s : State) where
  first_back : window_from (encoded s) at_first ≡ window_at s.windows 1
  unfolding encoded windows_bytes window_from cursor_at
  first_back = window_back (window_at s.windows 1)

  second_back : window_from (encoded s) at_second ≡ window_at s.windows 2
  unfolding encoded windows_bytes window_from cursor_at
  second_back = window_back (window_at s.windows 2)

  third_back : window_from (encoded s) at_third ≡ window_at s.windows 3
  unfolding encoded windows_bytes window_from cursor_at
  third_back = window_back (window_at s.windows 3)

  fourth_back : window_from (encoded s) at_fourth ≡ window_at s.windows 4
  unfolding encoded windows_bytes window_from cursor_at
  fourth_back = window_back (window_at s.windows 4)

  base_back : cursor_at (encoded s) at_base ≡ s.base
  unfolding encoded windows_bytes tail_bytes cursor_at
  base_back = cursor_back s.base

-- what stands after the hold is found by taking the hold apart
module _ (v : Settings) (ws : List Window) (k : Cursor) (n : ℕ) (p : Half) (ps : List Span) where
  hold_back : (h : Option Held) → hold_at (encoded (state v ws k n h p ps)) at_hold ≡ h
  unfolding encoded windows_bytes tail_bytes hold_bytes hold_at
  hold_back None = refl
  hold_back (Some x) = refl

  tail_slots : (h : Option Held) → slots_at (encoded (state v ws k n h p ps)) at_half ≡ half_slots p
  unfolding encoded windows_bytes tail_bytes hold_bytes slots_at
  tail_slots None = slots_back (half_slots p)
  tail_slots (Some x) = slots_back (half_slots p)

  upper_back : (h : Option Held) → span_at (encoded (state v ws k n h p ps)) at_upper ≡ get_or ps 0 no_span
  unfolding encoded windows_bytes tail_bytes hold_bytes span_at
  upper_back None = span_back (get_or ps 0 no_span)
  upper_back (Some x) = span_back (get_or ps 0 no_span)

  lower_back : (h : Option Held) → span_at (encoded (state v ws k n h p ps)) at_lower ≡ get_or ps 1 no_span
  unfolding encoded windows_bytes tail_bytes hold_bytes span_at
  lower_back None = span_back (get_or ps 1 no_span)
  lower_back (Some x) = span_back (get_or ps 1 no_span)

module _ (s : State) where
  settings_back : settings_at (encoded s) 0 ≡ s.settings
  unfolding encoded
  settings_back = refl

  selected_back : get_or (encoded s) at_selected 0 ≡ s.selected
  unfolding encoded windows_bytes tail_bytes
  selected_back = refl

  -- what was encoded decodes to the same state
  pub back : Sized panel s → decoded (encoded s) ≡ s
  unfolding decoded panel
  back z =
      rw (
        settings_back,
        first_back s,
        second_back s,
        third_back s,
        fourth_back s,
        base_back s,
        selected_back,
        hold_back s.settings s.windows s.base s.selected s.half s.spans s.hold,
        tail_slots s.settings s.windows s.base s.selected s.half s.spans s.hold,
        half_back s.half,
        upper_back s.settings s.windows s.base s.selected s.half s.spans s.hold,
        lower_back s.settings s.windows s.base s.selected s.half s.spans s.hold,
        four s.windows z.windows,
        two_spans s.spans z.spans,
      )

-- ---- the state that bytes stand for

-- whatever the bytes, it has four windows and two spans
pub record_sized : (l : List ℕ) → Sized panel (state_of l)
unfolding state_of decoded panel
record_sized l =
    by_cond (λ (s : State). Sized panel s) (same (encoded (decoded l)) l)
    (λ _. record { windows = refl; spans = refl }) (λ _. record { windows = refl; spans = refl })

-- a state's bytes stand for it
pub read_back : (s : State) → Sized panel s → state_of (encoded s) ≡ s
unfolding state_of
read_back s z = rw (back s z, same_self (encoded s))

-- there is no window 5
broken_refused : (g : Module) (s : State) → state_ok g (broken s) ≡ false
unfolding state_ok selectable
broken_refused g s = simp and-false

-- bytes that stand for a state within its bounds are its encoding
own_bytes : (g : Module) (l : List ℕ) → state_ok g (state_of l) ≡ true → l ≡ encoded (state_of l)
unfolding state_of
own_bytes g l =
    by_cond (λ (s : State). state_ok g s ≡ true → l ≡ encoded s) (same (encoded (decoded l)) l)
    (λ h _. sym (same-eq (encoded (decoded l)) l h))
    (λ _ h. absurd (true≢false (sym h ∙ broken_refused g (decoded l))))

-- ---- with the downloads

-- what a record was made of
pub state_part : (s : State) (ds : List ℕ) → take state_length (record_of s ds) ≡ encoded s
state_part s ds = take_at (encoded s) ds state_length (encoded-length s)

pub state_back : (s : State) (ds : List ℕ) → Sized panel s → state_in (record_of s ds) ≡ s
state_back s ds z = ap state_of (state_part s ds) ∙ read_back s z

pub store_back : (s : State) (ds : List ℕ) → store_in (record_of s ds) ≡ ds
store_back s ds = drop_at (encoded s) ds state_length (encoded-length s)

not_so : (t : Bool) → (t ≡ true → ⊥) → t ≡ false
not_so true never = absurd (never refl)
not_so false never = refl

module _ (g : Module) (l : List ℕ) where
  -- a record that stands for an accepted state is that state's, with these downloads
  pub accepted_record : accepted g (state_in l) (store_in l) ≡ true → l ≡ record_of (state_in l) (store_in l)
  unfolding accepted
  accepted_record h =
      sym (take-append-drop state_length l)
      ∙ ap (λ (a : List ℕ). a ++ store_in l) (own_bytes g (take state_length l) (both_of (state_ok g (state_in l)) _ h).0)

  -- any other bytes stand for a state that is not accepted
  pub other_bytes : ((s : State) (ds : List ℕ) → accepted g s ds ≡ true → l ≡ record_of s ds → ⊥)
      → accepted g (state_in l) (store_in l) ≡ false
  other_bytes never =
      not_so (accepted g (state_in l) (store_in l)) (λ h. never (state_in l) (store_in l) h (accepted_record h))
