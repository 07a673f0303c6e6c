-- A piece fed to the fresh, refreshed panel of the marked cases is run byte by byte. Assumes nothing.
use mathlib.Core.Path.{◌≡◌, refl, ap, ap₂, ◌∙◌}
use mathlib.Core.Bool.{true}
use mathlib.Core.List.{List}
use Prim.Native.Nat.{ℕ}
use lib.ListN.{length}
use lib.Dec.{eqb}
use Rattle.paper.specs.declared.Answer.{Answer}
use Rattle.paper.specs.declared.State.{State}
use Rattle.paper.specs.declared.Refusal.TheVariants.{Accepted}
use Rattle.paper.specs.Panel.{panel}
use Rattle.paper.specs.Strokes.{rect_map, grown, grown_by}
use Rattle.paper.specs.Numbers.{refusal_number}
use Rattle.paper.specs.Settings.{initial_style, initial_settings, top_left, initial_state, in_domain, in_enlargement, selectable}
use Rattle.paper.specs.Bounds.{settings_ok, cursor_ok, is_blank, window_ok, windows_ok, hold_ok, span_ok, word_ok, half_ok, state_ok, is_free, place_ok, store_ok, half_note_ok, define_ok, accepted}
use Rattle.paper.specs.Calls.{is_accepted, start_refusal, start_call, feed_refusal, Feeding, run, fed_nothing, feed_call, hold_call, refresh_refusal, emptied, refresh_call}
use Rattle.laws_marked.specs.Marked.{Font, begun, fresh, fresh_state, fed, fed_over, held, fed_held, ◌of◌}

-- a feed that is not refused runs over its piece
pub runs : (font : List ℕ) (s : State) (ds m piece : List ℕ) → length font ≡ 1120 → eqb (length m) 1024 ≡ true → accepted panel s ds ≡ true
    → feed_call panel font s ds m piece ≡ run panel font (fed_nothing Accepted s ds m) piece
unfolding feed_call feed_refusal is_accepted refusal_number panel
runs font s ds m piece f l a = rw (f, l, a)

-- the fresh memory has its length, and the fresh, refreshed state is accepted with its downloads
ready : (eqb (length begun.mem) 1024 ≡ true) × (accepted panel fresh_state begun.store ≡ true)
unfolding begun fresh start_call start_refusal is_accepted refresh_call refresh_refusal emptied panel rect_map grown grown_by refusal_number initial_style initial_settings top_left initial_state in_domain in_enlargement selectable settings_ok cursor_ok is_blank window_ok windows_ok hold_ok span_ok word_ok half_ok state_ok is_free place_ok store_ok half_note_ok define_ok accepted
ready = (refl, refl)

-- over the fresh memory, and over a memory of any byte
pub on : {font : List ℕ} → Font font → (piece : List ℕ)
    → fed font piece ≡ run panel font (fed_nothing Accepted fresh_state begun.store begun.mem) piece
on {font} f piece = runs font fresh_state begun.store begun.mem piece f.size ready.0 ready.1

pub on_over : {font : List ℕ} → Font font → (b : ℕ) (piece : List ℕ)
    → fed_over b font piece ≡ run panel font (fed_nothing Accepted fresh_state begun.store (1024 of b)) piece
on_over {font} f b piece = runs font fresh_state begun.store (1024 of b) piece f.size refl ready.1

-- two feeds alike leave one memory
pub mem_of : {t u : Feeding} → t ≡ u → t.mem ≡ u.mem
mem_of e = ap (λ (t : Feeding). t.mem) e

-- ---- window 1 held after a piece that defines it

module _ {font : List ℕ} (f : Font font) where
  -- what a piece comes to
  abbrev pub ran : List ℕ → Feeding
  ran piece = run panel font (fed_nothing Accepted fresh_state begun.store begun.mem) piece

  abbrev pub held_after : List ℕ → Answer
  held_after piece = hold_call panel (ran piece).answer.state (ran piece).store 1

  pub holding : (piece : List ℕ) → held font piece ≡ held_after piece
  holding piece = ap (λ (t : Feeding). hold_call panel t.answer.state t.store 1) (on f piece)

  pub on_held : (b : ℕ) (before piece : List ℕ) → accepted panel (held_after before).state (ran before).store ≡ true
      → fed_held b font before piece ≡ run panel font (fed_nothing Accepted (held_after before).state (ran before).store (1024 of b)) piece
  on_held b before piece a =
      ap₂ (λ (h : Answer) (ds : List ℕ). feed_call panel font h.state ds (1024 of b) piece) (holding before)
      (ap (λ (t : Feeding). t.store) (on f before))
      ∙ runs font (held_after before).state (ran before).store (1024 of b) piece f.size refl a
