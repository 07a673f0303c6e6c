-- Number 8 by a record's bytes: they stand for a state that is not accepted exactly if they are no accepted state's record.
-- Assumes nothing.
use mathlib.Core.Path.{◌≡◌, refl, sym, ap, ap₂, ◌∙◌}
use Rattle.std.specs.Prelude.{Option, None, Some}
use mathlib.Core.Logic.{◌↔◌}
use mathlib.Core.Bool.{true, false, and-eq-true_iff, true≢false}
use mathlib.Core.List.{List, [], ◌∷◌}
use Prim.Native.Nat.{ℕ, zero, suc}
use native.Mathlib.Omega.{arith}
use lib.ListN.{length, get_or}
use borrow.Author.Tests.{lt-leb}
use Rattle.paper.specs.declared.Window.{Window}
use Rattle.paper.specs.declared.Span.{Span}
use Rattle.paper.specs.declared.Held.{Held}
use Rattle.paper.specs.declared.State.{State}
use Rattle.paper.specs.Panel.{panel}
use Rattle.paper.specs.Strokes.{no_span}
use Rattle.paper.specs.Settings.{window_at, selectable}
use Rattle.paper.specs.Bounds.{windows_ok, hold_ok, span_ok, spans_ok, state_ok, accepted}
use Rattle.laws_downloads.proofs.Stored.{store_length_lem}
use Rattle.laws_state.proofs.Parts.{parts, whole}
use Rattle.laws_state.proofs.Records.{accepted_parts, accepted_whole}
use Rattle.record_bytes.specs.Bytes.{record_length, windows_bytes, tail_bytes, encoded, record_of}
use Rattle.record_write.proofs.Laid.{record_length_lem}
use Rattle.record_read.specs.Record.{state_of, state_in, store_in}
use Rattle.record_read.proofs.Back.{read_back, state_part, store_back, accepted_record, other_bytes}
use Rattle.face.proofs.Laws.{NoState}

-- ---- a record has four windows and two spans, and no more of a state is ever tested

-- a span for each row
pub panel-rows : panel.rows ≡ 2
unfolding panel
panel-rows = refl

abbrev four : List Window → List Window
four ws = window_at ws 1 ∷ window_at ws 2 ∷ window_at ws 3 ∷ window_at ws 4 ∷ []

abbrev two : List Span → List Span
two ps = get_or ps 0 no_span ∷ get_or ps 1 no_span ∷ []

-- the state of a state's record
abbrev trimmed : State → State
trimmed s =
    record {
      settings = s.settings;
      windows = four s.windows;
      base = s.base;
      selected = s.selected;
      hold = s.hold;
      half = s.half;
      spans = two s.spans;
    }

select_same : (ws : List Window) (k : ℕ) → selectable (four ws) k ≡ selectable ws k
unfolding selectable
select_same ws zero = refl
select_same ws (suc zero) = refl
select_same ws (suc (suc zero)) = refl
select_same ws (suc (suc (suc zero))) = refl
select_same ws (suc (suc (suc (suc zero)))) = refl
select_same ws (suc (suc (suc (suc (suc k))))) = rw (lt-leb (suc (suc (suc (suc (suc k))))) 4 (omega arith))

hold_same : (ws : List Window) (n : ℕ) (h : Option Held) → hold_ok panel (four ws) n h ≡ hold_ok panel ws n h
unfolding hold_ok
hold_same ws n None = refl
hold_same ws n (Some x) = rw (select_same ws x.window, select_same ws x.selected)

two_ok : (ps : List Span) → spans_ok panel ps ≡ true → spans_ok panel (two ps) ≡ true
unfolding span_ok
two_ok [] e = refl
two_ok (p ∷ []) e = e
two_ok (p ∷ q ∷ ps) e =
    let f = (and-eq-true_iff (span_ok panel p) (spans_ok panel (q ∷ ps))).0 e in
    rw (f.0, ((and-eq-true_iff (span_ok panel q) (spans_ok panel ps)).0 f.1).0)

module _ (s : State) where
  trimmed_ok : state_ok panel s ≡ true → state_ok panel (trimmed s) ≡ true
  unfolding windows_ok
  trimmed_ok h =
      let p = parts panel s h in
      whole panel (trimmed s)
      (record {
        settings = p.settings;
        windows = p.windows;
        base = p.base;
        selected = select_same s.windows s.selected ∙ p.selected;
        hold = hold_same s.windows s.selected s.hold ∙ p.hold;
        half = p.half;
        spans = two_ok s.spans p.spans;
      })

  trimmed_accepted : (ds : List ℕ) → accepted panel s ds ≡ true → accepted panel (trimmed s) ds ≡ true
  trimmed_accepted ds h =
      let p = accepted_parts panel s ds h in accepted_whole panel (trimmed s) ds (trimmed_ok p.0) p.1 p.2

  -- its record stands for it
  trimmed_bytes : state_of (encoded s) ≡ trimmed s
  unfolding panel encoded windows_bytes tail_bytes
  trimmed_bytes = read_back (trimmed s) (record { windows = refl; spans = refl })

  trimmed_back : (ds : List ℕ) → state_in (record_of s ds) ≡ trimmed s
  trimmed_back ds = ap state_of (state_part s ds) ∙ trimmed_bytes

-- ---- what stands for an accepted state

-- has the length of a record
pub record_long : (l : List ℕ) → accepted panel (state_in l) (store_in l) ≡ true → length l ≡ record_length
record_long l h =
    ap length (accepted_record panel l h)
    ∙ record_length_lem (state_in l) (store_in l) (store_length_lem (store_in l) (accepted_parts panel (state_in l) (store_in l) h).1)

-- and is its record: number 8
pub no_state : (l : List ℕ) → (accepted panel (state_in l) (store_in l) ≡ false) ↔ NoState panel l
no_state l = (
  λ e s ds h r.
      true≢false
      (sym (trimmed_accepted s ds h)
      ∙ ap₂ (accepted panel) (sym (trimmed_back s ds) ∙ ap state_in (sym r)) (sym (store_back s ds) ∙ ap store_in (sym r))
      ∙ e),
  other_bytes panel l,
)
