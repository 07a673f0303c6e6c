-- Document 02's order 2 holds, for every font: `lanes`. Each case is computed from the paper's definitions. Assumes nothing.
use mathlib.Core.Path.{◌≡◌, refl, sym, ap, ◌∙◌}
use mathlib.Core.List.{List, [], ◌∷◌, ◌++◌}
use Prim.Native.Nat.{ℕ}
use Rattle.paper.specs.declared.Answer.{Answer}
use Rattle.paper.specs.declared.Outcome.TheVariants.{Dropped}
use Rattle.paper.specs.declared.Refusal.TheVariants.{Accepted}
use Rattle.paper.specs.Panel.{panel, byte_of, glyph_dot}
use Rattle.paper.specs.Strokes.{rect_map, grown, grown_by, refreshed, shown}
use Rattle.paper.specs.Numbers.{outcome_number, refusal_number, carried_by, answered_by}
use Rattle.paper.specs.Downloads.{place, with_place, place_for, is_dropped, put_in, erased, glyph_of, is_stored}
use Rattle.paper.specs.Reading.{read_move, read_first, read_escape, read_unit, read_group, read_characters, read_windows, read_window_b, read_word, with_column, read_column, read_of}
use Rattle.paper.specs.Settings.{initial_style, initial_settings, top_left, initial_state, in_domain, in_enlargement, with_setting, selectable, fits, cursor_of, at_cursor, inside_window, base_view, view_of, cursor_in}
use Rattle.paper.specs.Bounds.{settings_ok, cursor_ok, is_blank, window_ok, windows_ok, hold_ok, span_ok, word_ok, batch_ok, rest_blank, columns_ok, half_ok, state_ok, is_free, download_ok, place_ok, store_ok, all_stored, note_ok, half_note_ok, define_ok, accepted}
use Rattle.paper.specs.Cells.{cell_dot, penned, cell_width, too_large}
use Rattle.paper.specs.Moves.{next_line, next_line_up, push_left, ht_of, draw_tab, blank_tab, character_of}
use Rattle.paper.specs.Carry.{not_carried_value, is_write, asks, is_held, carried_out, command_of, glyph_ends, take_of, byte_means, leaves, command_store, take_store, byte_store}
use Rattle.paper.specs.Calls.{is_accepted, start_refusal, start_call, feeding, feed_refusal, Feeding, next, run, fed_nothing, feed_call, hold_refusal, held_by, hold_call, release_refusal, released, release_call, refresh_refusal, emptied, refresh_call}
use Rattle.laws_state.proofs.Joined.{run-append}
use Rattle.laws_marked.proofs.Fed.{on, on_over, holding, on_held, mem_of}
use Rattle.laws_marked.proofs.Glyph.{below}
use Rattle.laws_marked.specs.Marked.{Font, begun, fresh, fresh_state, ◌of◌, fed, answers_to, rows, window_one}
use Rattle.laws_marked.specs.Lanes.{switch_on, narrow, lower, initialise, define, erase, five, seven, times, places_of, drawn, seventeen, Lanes}

-- two feeds alike have the same downloads and counts
store_of : {t u : Feeding} → t ≡ u → t.store ≡ u.store
store_of e = ap (λ (t : Feeding). t.store) e

carried_of : {t u : Feeding} → t ≡ u → t.answer.carried ≡ u.answer.carried
carried_of e = ap (λ (t : Feeding). t.answer.carried) e

answered_of : {t u : Feeding} → t ≡ u → t.answer.answered ≡ u.answer.answered
answered_of e = ap (λ (t : Feeding). t.answer.answered) e

-- the state of the fresh panel with 30h to 3Fh stored: what seventeen codes come to
abbrev full : Feeding
full = feeding Accepted fresh_state 0 1 Dropped begun.mem (places_of 0x30 16)

seventeen_come : (font : List ℕ) → run panel font (fed_nothing Accepted fresh_state begun.store begun.mem) seventeen ≡ full
unfolding begun fresh start_call start_refusal is_accepted refresh_call refresh_refusal emptied refreshed shown panel byte_of glyph_dot rect_map grown grown_by outcome_number refusal_number carried_by answered_by place with_place place_for is_dropped put_in erased glyph_of read_move read_first read_escape read_unit read_group read_characters read_windows read_window_b read_word with_column read_column read_of initial_style initial_settings top_left initial_state in_domain in_enlargement with_setting selectable fits cursor_of at_cursor inside_window base_view view_of cursor_in settings_ok cursor_ok is_blank window_ok windows_ok hold_ok span_ok word_ok batch_ok rest_blank columns_ok half_ok state_ok is_free download_ok place_ok store_ok all_stored note_ok half_note_ok define_ok accepted cell_dot penned cell_width too_large next_line next_line_up push_left ht_of draw_tab blank_tab character_of not_carried_value is_write asks is_held carried_out command_of glyph_ends take_of byte_means leaves command_store take_store byte_store next feed_refusal feed_call hold_refusal held_by hold_call release_refusal released release_call
seventeen_come font = refl

-- a piece after them
after : {font : List ℕ} → Font font → (piece : List ℕ) → fed font (seventeen ++ piece) ≡ run panel font full piece
after {font} f piece =
    on f (seventeen ++ piece) ∙ run-append panel font _ seventeen piece
    ∙ ap (λ (t : Feeding). run panel font t piece) (seventeen_come font)

pub lanes : (font : List ℕ) → Font font → Lanes font
unfolding begun fresh start_call start_refusal is_accepted refresh_call refresh_refusal emptied refreshed shown panel byte_of glyph_dot rect_map grown grown_by outcome_number refusal_number carried_by answered_by place with_place place_for is_dropped put_in erased glyph_of read_move read_first read_escape read_unit read_group read_characters read_windows read_window_b read_word with_column read_column read_of initial_style initial_settings top_left initial_state in_domain in_enlargement with_setting selectable fits cursor_of at_cursor inside_window base_view view_of cursor_in settings_ok cursor_ok is_blank window_ok windows_ok hold_ok span_ok word_ok batch_ok rest_blank columns_ok half_ok state_ok is_free download_ok place_ok store_ok all_stored note_ok half_note_ok define_ok accepted cell_dot penned cell_width too_large next_line next_line_up push_left ht_of draw_tab blank_tab character_of not_carried_value is_write asks is_held carried_out command_of glyph_ends take_of byte_means leaves command_store take_store byte_store next feed_refusal feed_call hold_refusal held_by hold_call release_refusal released release_call
lanes font f = record {
  five_upper = λ b. mem_of (on_over f b (drawn five []));
  five_lower = λ b. mem_of (on_over f b (drawn five lower));
  five_narrow = λ b. mem_of (on_over f b (drawn five narrow));
  five_narrow_lower = λ b. mem_of (on_over f b (drawn five (narrow ++ lower)));
  seven_upper = λ b. mem_of (on_over f b (drawn seven []));
  seven_lower = λ b. mem_of (on_over f b (drawn seven lower));
  seven_narrow = λ b. mem_of (on_over f b (drawn seven narrow));
  seven_narrow_lower = λ b. mem_of (on_over f b (drawn seven (narrow ++ lower)));
  switched_off = λ b. mem_of (on_over f b (define 0x41 0x41 ++ five ++ 0x41 ∷ []))
      ∙ ap (λ (l : List ℕ). rows (0 ∷ l ++ 0 ∷ 505 of b) (512 of b)) (below f);
  not_stored = λ b. mem_of (on_over f b (define 0x23 0x23 ++ seven ++ switch_on ++ 0x41 ∷ []))
      ∙ ap (λ (l : List ℕ). rows (0 ∷ l ++ 0 ∷ 505 of b) (512 of b)) (below f);
  switch_2 = ap answers_to (on f (0x1B ∷ 0x25 ∷ 2 ∷ []));
  one_to_come = store_of (on f (define 0x23 0x23 ++ 5 ∷ 0x81 ∷ 0x43 ∷ 0x25 ∷ 0x19 ∷ []));
  last_byte = store_of (on f (define 0x23 0x24 ++ five));
  replaced = store_of (on f (define 0x23 0x24 ++ five ++ five ++ define 0x23 0x23 ++ seven));
  dropped = (ap answers_to here, (carried_of here, answered_of here), store_of here);
  full = (
    ap answers_to (after f (define 0x30 0x3F ++ times 16 five)),
    ap answers_to (after f (define 0x2F 0x30 ++ five ++ seven)),
    store_of (after f (define 0x2F 0x30 ++ five ++ seven)),
  );
  erased = (
    ap answers_to (after f (erase 0x35)),
    ap (λ (t : Feeding). is_stored t.store 0x35) (after f (erase 0x35)),
    ap answers_to (after f (erase 0x35 ++ erase 0x35)),
    (carried_of (after f (erase 0x35 ++ erase 0x35)), answered_of (after f (erase 0x35 ++ erase 0x35))),
    store_of (after f (erase 0x35 ++ erase 0x35)) ∙ sym (store_of (after f (erase 0x35))),
    ap answers_to (after f (erase 0x35 ++ define 0x40 0x40 ++ five)),
    store_of (after f (erase 0x35 ++ define 0x40 0x40 ++ five)),
  );
  erase-domain = (
    ap answers_to (on f (0x1B ∷ 0x3F ∷ 2 ∷ 0x23 ∷ [])),
    ap answers_to (on f (erase 0x1F)),
    ap answers_to (on f (erase 0x20)),
  );
  cancelled = (
    ap answers_to (on f (define 0x23 0x24 ++ five ++ 6 ∷ [])),
    store_of (on f (define 0x23 0x24 ++ five ++ 6 ∷ [])),
  );
  initialised = (
    store_of (on f (drawn five [] ++ initialise)),
    ap (λ (t : Feeding). t.answer.state.settings.switch) (on f (drawn five [] ++ initialise)),
  );
  held_define = λ b. (
    ap answers_to (on_held f b window_one (define 0x23 0x24 ++ five ++ seven) refl),
    store_of (on_held f b window_one (define 0x23 0x24 ++ five ++ seven) refl),
  );
  held_erase = λ b. (
    ap answers_to (on_held f b (window_one ++ define 0x23 0x23 ++ five) (erase 0x23) refl),
    store_of (on_held f b (window_one ++ define 0x23 0x23 ++ five) (erase 0x23) refl),
  );
  held_half = λ b. (
    ap (λ (a : Answer). refusal_number a.refusal) (holding f (window_one ++ define 0x23 0x24 ++ five ++ 5 ∷ [])),
    ap answers_to (on_held f b (window_one ++ define 0x23 0x24 ++ five ++ 5 ∷ []) (0x41 ∷ []) refl),
    store_of (on_held f b (window_one ++ define 0x23 0x24 ++ five ++ 5 ∷ []) (0x41 ∷ []) refl),
  );
  switch_saved = λ b. (
    ap (λ (t : Feeding). t.answer.state.settings.switch) (on_held f b window_one switch_on refl),
    ap (λ (t : Feeding). (release_call panel t.answer.state t.store).state.settings.switch) (on_held f b window_one switch_on refl),
  );
  bounds = (rw f.size, rw f.size, rw f.size, rw f.size);
} where
  here : fed font seventeen ≡ full
  here = on f seventeen ∙ seventeen_come font
