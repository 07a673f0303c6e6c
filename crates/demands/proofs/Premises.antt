-- What the theorems assume can be had: for each premise that a theorem for users takes, one panel or list that meets it, with
-- nothing assumed in turn. The panel is marked case 11's. A module is `Usable`: laws_state/proofs/Views `panel-usable`. Assumes nothing.
use mathlib.Core.Path.{◌≡◌, refl, ap, ◌∙◌}
use mathlib.Core.Bool.{true, false}
use mathlib.Core.List.{[], ◌∷◌}
use Prim.Native.Nat.{ℕ, zero, suc, ◌<◌, ◌≤◌}
use native.Mathlib.Omega.{arith}
use lib.Dec.{ltb}
use lib.ListN.{length, get_or, replicate}
use Rattle.paper.specs.declared.Word.TheVariants.{CursorX}
use Rattle.paper.specs.declared.Batch.{Batch}
use Rattle.paper.specs.declared.Columns.{Columns}
use Rattle.paper.specs.declared.Half.TheVariants.{GlyphByte, Low, ImageData}
use Rattle.paper.specs.declared.Reading.TheVariants.{GlyphEnd}
use Rattle.paper.specs.Panel.{panel, glass_length, memory_length, font_length}
use Rattle.paper.specs.Downloads.{all_erased}
use Rattle.paper.specs.Strokes.{no_span, span_holds, grown, grown_by}
use Rattle.paper.specs.Numbers.{outcome_number}
use Rattle.paper.specs.Reading.{read_first, read_unit, batch, with_column, read_column, read_of}
use Rattle.paper.specs.Settings.{initial_settings, initial_state, with_half}
use Rattle.paper.specs.Bounds.{batch_ok, rest_blank, columns_ok, half_ok, half_note_ok, define_ok, accepted}
use Rattle.paper.specs.Carry.{is_held}
use Rattle.paper.specs.Calls.{started, start_call, feed_call}
use Rattle.laws_bytes.specs.Beginnings.{Begins, no_byte, one_more, Fits}
use Rattle.laws_marked.specs.Marked.{Font}
use Rattle.laws_downloads.proofs.Notes.{fresh_note}
use Rattle.laws_state.specs.Sized.{Sized}
use Rattle.laws_state.specs.Guest.{Holding}
use Rattle.laws_state.proofs.Views.{panel_usable}
use Rattle.laws_state.proofs.Parts.{parts, whole}
use Rattle.laws_state.proofs.Builders.{half_parts}
use Rattle.laws_state.proofs.Records.{accepted_parts, accepted_whole}
use Rattle.laws_state.proofs.Calls.{started-accepted}
use Rattle.laws_state.proofs.Sized.{start_sized}
use Rattle.laws_glass.specs.Synced.{Synced}
use Rattle.demands.specs.Events.{StateRecord}
use Rattle.demands.specs.Demands.{hold_number, window_fed, window_held, some_font, some_memory, some_downloads, some_glass}
use Rattle.demands.proofs.Begun.{holdable, window_kept}
use Rattle.demands.proofs.Demands.{demand_2_outcome, demand_2_byte, demand_3_start, demand_3_met}

-- demand_2_byte, demand_2_piece; laws_state/proofs/Records accepted_kept, run-accepted, and Calls feed_keeps to refresh_keeps
pub fed_met : (length some_memory ≡ memory_length panel) × (length some_font ≡ font_length panel) × (accepted panel (started panel) (all_erased some_downloads) ≡ true)
unfolding panel
fed_met = (refl, refl, started-accepted panel panel_usable some_downloads refl)

-- demand_2_answered, with these: 00h is an unknown code
pub answered_met : 11 ≤ outcome_number (feed_call panel some_font (started panel) (all_erased some_downloads) some_memory (0x00 ∷ [])).answer.outcome
unfolding initial_state read_of read_first
answered_met =
    let unknown = (demand_2_outcome some_font (started panel) (all_erased some_downloads) 0x00).number_13.1 refl in
    let f = demand_2_byte some_font (started panel) (all_erased some_downloads) some_memory fed_met.0 fed_met.1 fed_met.2 0x00 in
    rw f.outcome (omega (arith, unknown))

-- demand-2-define: a define of 41h alone whose last column is awaited, with 00h
abbrev some_batch : Batch
some_batch = batch 0x41 0x41 0x41

abbrev some_columns : Columns
some_columns = record { width = 5; come = 4; c0 = 0; c1 = 0; c2 = 0; c3 = 0; c4 = 0; c5 = 0; c6 = 0 }

pub define_met : let s = with_half (started panel) (GlyphByte some_batch false some_columns) in
    (accepted panel s (all_erased some_downloads) ≡ true) × (is_held s.hold ≡ false)
    × (read_of panel s.half 0x00 ≡ GlyphEnd some_batch false (with_column some_columns 0x00))
    × (ltb some_batch.code some_batch.last ≡ false)
unfolding panel initial_state is_held read_of read_column with_column half_ok batch_ok columns_ok rest_blank half_note_ok define_ok
define_met =
    let ds = all_erased some_downloads in
    let p = accepted_parts panel (started panel) ds fed_met.2 in
    let halves = half_parts panel (started panel) (parts panel (started panel) p.0) (GlyphByte some_batch false some_columns) refl in
    (accepted_whole panel _ ds (whole panel _ halves) p.1 (fresh_note ds 0x41 0x41), refl, refl, refl)

-- demand_3 takes `InStep`: demand_3_met. laws_state/proofs/Held run_guest to feed_downloads
pub holding_met : Holding panel 1 0 (initial_settings panel) (window_held some_font some_memory some_downloads some_glass).answer.state
    (window_fed some_font some_memory some_downloads).store
holding_met = demand_3_met.holding

-- demand_3_feed; record_read/proofs/Back back, read-back
pub sized_met : Sized panel (start_call panel some_memory some_downloads).answer.state
sized_met = start_sized panel some_memory some_downloads

-- demand_3_feed, demand_3_hold; laws_glass/proofs/Glass strokes_synced, refreshed_shows, refreshed-synced
pub synced_met : (length (started panel).spans ≡ panel.rows) × (glass_length panel ≤ length some_memory)
    × (length some_glass ≡ glass_length panel) × Synced panel some_memory some_glass (started panel).spans
unfolding panel initial_state
synced_met = (refl, omega arith, refl, demand_3_start some_memory some_glass)

-- demand_3_hold
pub hold_met : let f = window_fed some_font some_memory some_downloads in hold_number panel f.answer.state f.store 1 ≡ 0
unfolding panel
hold_met =
    ap (λ (q : StateRecord). hold_number panel q.state q.downloads 1) (window_kept some_font some_memory some_downloads refl refl refl)
    ∙ holdable some_font

-- laws_state/proofs/Spans run-holds, feed_holds
pub span_met : span_holds (get_or (started panel).spans 0 no_span) 0 ≡ true
unfolding panel initial_state grown grown_by
span_met = refl

-- a font of zeros has no byte but 0
zeros : (n k : ℕ) → get_or (replicate n 0) k 0 < 256
zeros zero k = omega arith
zeros (suc n) zero = omega arith
zeros (suc n) (suc k) = zeros n k

-- laws_marked/proofs/Cases marked
pub font_met : Font some_font
unfolding panel
font_met = record { size = refl; bytes = zeros (font_length panel) }

-- laws_bytes/proofs/Beginnings begins_ok
pub begins_met : Begins panel (0x1F ∷ 0x24 ∷ []) (Low CursorX)
unfolding read_first read_unit read_of
begins_met = one_more 0x24 (one_more 0x1F no_byte (omega arith) refl) (omega arith) refl

-- laws_bytes/proofs/Beginnings ok_begins
pub fits_met : Fits (ImageData 512 2 511 1) × (half_ok panel (ImageData 512 2 511 1) ≡ true)
unfolding panel half_ok
fits_met = (omega arith, refl)
