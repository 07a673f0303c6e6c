-- Document 02's order 1 holds, for every font: `line-feed`. Each case is computed from the paper's definitions. Assumes nothing.
use mathlib.Core.Path.{ap}
use mathlib.Core.List.{List, [], ◌∷◌, ◌++◌}
use Prim.Native.Nat.{ℕ}
use Rattle.paper.specs.Panel.{panel}
use Rattle.paper.specs.Strokes.{rect_map, grown, grown_by, refreshed, shown}
use Rattle.paper.specs.Numbers.{outcome_number, refusal_number, carried_by, answered_by}
use Rattle.paper.specs.Reading.{read_move, read_first, read_unit, read_group, read_characters, read_windows, read_window_b, read_word, read_of}
use Rattle.paper.specs.Settings.{with_setting, initial_style, initial_settings, top_left, initial_state, in_domain, in_enlargement, selectable, fits, cursor_of, at_cursor, in_mode, inside_window, base_view, view_of, cursor_in}
use Rattle.paper.specs.Bounds.{settings_ok, cursor_ok, is_blank, window_ok, windows_ok, hold_ok, span_ok, word_ok, half_ok, state_ok, is_free, place_ok, store_ok, half_note_ok, define_ok, accepted}
use Rattle.paper.specs.Cells.{cell_width, too_large}
use Rattle.paper.specs.Moves.{next_line, next_line_up, push_left, ht_of, line_down, line_down_up, line_feed_of}
use Rattle.paper.specs.Carry.{not_carried_value, is_write, asks, is_held, carried_out, command_of, take_of, byte_means, leaves, command_store, take_store, byte_store}
use Rattle.paper.specs.Calls.{is_accepted, start_refusal, start_call, Feeding, next, refresh_refusal, emptied, refresh_call}
use Rattle.laws_marked.proofs.Fed.{on, on_over, mem_of}
use Rattle.laws_marked.specs.Marked.{Font, begun, fresh, cursor_after, next_refresh, cursor_set, md2, md3}
use Rattle.laws_marked.specs.LineFeed.{line_feed_at, whole_base, two_rows, in_window, LineFeed}

pub line_feed : (font : List ℕ) → Font font → LineFeed font
unfolding begun fresh start_call start_refusal is_accepted refresh_call refresh_refusal emptied refreshed shown panel rect_map grown grown_by outcome_number refusal_number carried_by answered_by read_move read_first read_unit read_group read_characters read_windows read_window_b read_word read_of initial_style initial_settings top_left initial_state in_domain in_enlargement selectable fits cursor_of at_cursor in_mode inside_window base_view view_of cursor_in settings_ok cursor_ok is_blank window_ok windows_ok hold_ok span_ok word_ok half_ok state_ok is_free place_ok store_ok half_note_ok define_ok accepted cell_width too_large next_line next_line_up push_left ht_of line_down line_down_up line_feed_of asks is_held carried_out command_of take_of byte_means leaves command_store take_store byte_store next not_carried_value is_write with_setting
line_feed font f = record {
  corner = λ v l one full. rw (one, full);
  top = λ g v l one full. rw (one, full);
  down = λ g v l one room. rw (one, room);
  visible = ap cursor_after (on f (line_feed_at 111 1));
  hidden = ap cursor_after (on f (line_feed_at 200 1));
  whole = ap cursor_after (on f (whole_base ++ line_feed_at 200 1));
  window = (
    ap (λ (t : Feeding). t.answer.state.selected) (on f (cursor_set 50 0 1 0 ++ in_window ++ line_feed_at 5 1)),
    ap cursor_after (on f (cursor_set 50 0 1 0 ++ in_window ++ line_feed_at 5 1)),
    ap (λ (t : Feeding). t.answer.state.base) (on f (cursor_set 50 0 1 0 ++ in_window ++ line_feed_at 5 1)),
  );
  high = ap cursor_after (on f (two_rows ++ line_feed_at 14 0));
  room = ap cursor_after (on f (line_feed_at 14 0));
  dots = λ b. mem_of (on_over f b (line_feed_at 14 1));
  moved = ap next_refresh (on f (line_feed_at 14 1));
  scrolled = (λ b. mem_of (on_over f b (md2 ++ line_feed_at 14 1)), ap cursor_after (on f (md2 ++ line_feed_at 14 1)));
  nothing = ap cursor_after (on f (md3 ++ line_feed_at 14 1));
  wraps = (
    ap cursor_after (on f (cursor_set 105 0 1 0 ++ 0x09 ∷ [])),
    ap cursor_after (on f (cursor_set 105 0 0 0 ++ 0x09 ∷ [])),
  );
}
