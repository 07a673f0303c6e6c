-- The panel of marked case 11, started, fed and held: what its define comes to, whatever is lent. Assumes nothing.
use mathlib.Core.Path.{◌≡◌, refl, ap, subst, ◌∙◌}
use mathlib.Core.Bool.{true}
use mathlib.Core.List.{List, [], ◌∷◌}
use Prim.Native.Nat.{ℕ}
use lib.ListN.{length, replicate}
use Rattle.paper.specs.declared.Refusal.TheVariants.{Accepted}
use Rattle.paper.specs.Panel.{panel, memory_length, font_length}
use Rattle.paper.specs.Downloads.{store_length}
use Rattle.paper.specs.Strokes.{apply_all, grown, grown_by}
use Rattle.paper.specs.Numbers.{refusal_number, outcome_number}
use Rattle.paper.specs.Reading.{read_first, read_unit, read_group, read_windows, read_window_b, read_word, read_of}
use Rattle.paper.specs.Settings.{initial_style, initial_settings, top_left, initial_state, in_domain, in_enlargement, selectable, fits}
use Rattle.paper.specs.Bounds.{settings_ok, cursor_ok, is_blank, window_ok, windows_ok, hold_ok, span_ok, half_ok, state_ok, is_free, place_ok, store_ok, half_note_ok, define_ok, accepted}
use Rattle.paper.specs.Cells.{erase_stroke}
use Rattle.paper.specs.Carry.{asks, is_held, carried_out, command_of, take_of, byte_means, leaves, command_store, take_store, byte_store}
use Rattle.paper.specs.Calls.{is_accepted, started, start_call, Feeding, run, fed_nothing, hold_refusal, hold_call}
use Rattle.laws_marked.specs.Marked.{window_one}
use Rattle.laws_state.proofs.Views.{panel_usable}
use Rattle.laws_state.proofs.Calls.{started-accepted}
use Rattle.laws_state.proofs.Refusals.{feed_taken}
use Rattle.laws_state.proofs.Outside.{length_run}
use Rattle.laws_state.proofs.Joined.{feed_runs}
use Rattle.laws_memory.proofs.Strokes.{apply_length}
use Rattle.demands.specs.Events.{StateRecord, state_record, onwards}
use Rattle.demands.specs.Demands.{hold_number, window_fed}
use Rattle.demands.proofs.Calls.{start_answers}
use Rattle.demands.proofs.Unseen.{kept, run_kept}

-- no download is stored
abbrev no_downloads : List ℕ
no_downloads = replicate store_length 0

-- the state in which window 1 is defined, with its downloads, reached by no memory's bytes
abbrev pub with_window : List ℕ → StateRecord
with_window font = onwards panel font (state_record (started panel) no_downloads) window_one

-- the memory after a start
abbrev erased : List ℕ → List ℕ
erased m = apply_all panel m (erase_stroke panel ∷ [])

module _ (font : List ℕ) where
  -- window 1 can be held
  pub holdable : hold_number panel (with_window font).state (with_window font).downloads 1 ≡ 0
  unfolding panel grown grown_by refusal_number outcome_number read_first read_unit read_group read_windows read_window_b read_word read_of initial_style initial_settings top_left initial_state in_domain in_enlargement selectable fits settings_ok cursor_ok is_blank window_ok windows_ok hold_ok span_ok half_ok state_ok is_free place_ok store_ok half_note_ok define_ok accepted asks is_held carried_out command_of take_of byte_means leaves command_store take_store byte_store is_accepted hold_refusal hold_call
  holdable = refl

  -- the base window is selected, and no setting is changed
  pub as_initial : ((with_window font).state.selected ≡ 0) × ((with_window font).state.settings ≡ initial_settings panel)
  unfolding panel grown grown_by read_first read_unit read_group read_windows read_window_b read_word read_of initial_state fits asks is_held carried_out command_of take_of byte_means
  as_initial = (refl, refl)

-- the start is not refused
pub starts : (m ds : List ℕ) → length m ≡ memory_length panel
    → ((start_call panel m ds).answer.state ≡ started panel) × ((start_call panel m ds).mem ≡ erased m)
unfolding panel
starts m ds memory = let a = start_answers panel m ds in a.taken (a.number_0.1 memory)

module _ (font m ds : List ℕ) (fonts : length font ≡ font_length panel) (memory : length m ≡ memory_length panel)
    (room : length ds ≡ store_length) where
  abbrev begins : Feeding
  begins = fed_nothing Accepted (started panel) no_downloads (erased m)

  -- nor is the feed
  runs : window_fed font m ds ≡ run panel font begins window_one
  unfolding panel
  runs =
      let a = starts m ds memory in
      let none : (start_call panel m ds).store ≡ no_downloads =
      (start_answers panel m ds).downloads ∙ ap (λ (n : ℕ). replicate n 0) room in
      let ok = subst (λ (n : ℕ). accepted panel (started panel) (replicate n 0) ≡ true) room (started-accepted panel panel_usable ds room) in
      rw (a.0, a.1, none)
      (feed_runs panel font (started panel) no_downloads (erased m) window_one
      (feed_taken panel font (started panel) no_downloads (erased m) (apply_length panel m (erase_stroke panel ∷ []) ∙ memory) fonts ok))

  pub window_kept : kept (window_fed font m ds) ≡ with_window font
  window_kept = ap kept runs ∙ run_kept panel font begins window_one

  pub window_memory : length (window_fed font m ds).mem ≡ memory_length panel
  window_memory =
      ap (λ (f : Feeding). length f.mem) runs
      ∙ length_run panel font begins window_one
      ∙ apply_length panel m (erase_stroke panel ∷ [])
      ∙ memory
