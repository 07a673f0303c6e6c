-- The marked cases hold, for every font: `marked`. Each is computed from the paper's definitions. Assumes nothing.
use mathlib.Core.Path.{◌≡◌, refl, ap, ◌∙◌}
use mathlib.Core.List.{List, [], ◌∷◌, ◌++◌}
use Prim.Native.Nat.{ℕ, zero, suc, ◌-◌, ◌<◌}
use native.Mathlib.Omega.{arith}
use lib.ListN.{length, get_or}
use Rattle.paper.specs.declared.Answer.{Answer}
use Rattle.paper.specs.declared.Refusal.TheVariants.{Accepted}
use Rattle.paper.specs.Panel.{panel, byte_of, glyph_dot}
use Rattle.paper.specs.Downloads.{place, glyph_of}
use Rattle.paper.specs.Strokes.{rect_map, grown, grown_by, refreshed, shown}
use Rattle.paper.specs.Numbers.{outcome_number, refusal_number, carried_by, answered_by}
use Rattle.paper.specs.Reading.{read_move, read_first, read_escape, read_unit, read_group, read_images, read_windows, read_window_b, read_word, read_of}
use Rattle.paper.specs.Settings.{initial_style, initial_settings, top_left, initial_state, in_domain, in_enlargement, selectable, fits, cursor_of, at_cursor, in_mode, inside_window, base_view, view_of, cursor_in}
use Rattle.paper.specs.Bounds.{settings_ok, cursor_ok, is_blank, window_ok, windows_ok, hold_ok, span_ok, word_ok, half_ok, state_ok, is_free, place_ok, store_ok, half_note_ok, define_ok, accepted}
use Rattle.paper.specs.Cells.{cell_dot, penned, cell_width, too_large}
use Rattle.paper.specs.Moves.{next_line, next_line_up, push_left, ht_of, draw_tab, blank_tab, character_of, line_down, line_down_up, line_feed_of, clear_of}
use Rattle.paper.specs.Carry.{asks, is_held, carried_out, command_of, take_of, byte_means, leaves, command_store, take_store, byte_store}
use Rattle.paper.specs.Calls.{is_accepted, start_refusal, start_call, Feeding, next, run, fed_nothing, hold_refusal, held_by, hold_call, refresh_refusal, emptied, refresh_call}
use Rattle.laws_marked.proofs.Fed.{on, on_over, holding, on_held, mem_of}
use Rattle.laws_marked.proofs.Glyph.{below, above}
use Rattle.laws_marked.proofs.Typed.{runs_alike}
use Rattle.laws_marked.specs.Marked.{Font, begun, fresh, fresh_state, answers_to, cursor_after, next_refresh, rows, ◌of◌, glyph, Characters, cursor_set, md2, md3, window_one, image, held, Marked}

-- ---- a font

-- a list of one byte
same_bytes : (n b k : ℕ) → b < 256 → get_or (n of b) k 0 < 256
same_bytes zero b k h = omega arith
same_bytes (suc n) b zero h = h
same_bytes (suc n) b (suc k) h = same_bytes n b k h

-- one with every dot lit
pub a_font : Font (1120 of 0xFE)
a_font = record { size = refl; bytes = λ k. same_bytes 1120 0xFE k (omega arith) }

-- ---- the cases

pub marked : (font : List ℕ) → Font font → Marked font
unfolding begun fresh start_call start_refusal is_accepted refresh_call refresh_refusal emptied refreshed shown panel byte_of glyph_dot rect_map grown grown_by outcome_number refusal_number carried_by answered_by read_move read_first read_escape read_unit read_group read_images read_windows read_window_b read_word read_of initial_style initial_settings top_left initial_state in_domain in_enlargement selectable fits cursor_of at_cursor in_mode inside_window base_view view_of cursor_in settings_ok cursor_ok is_blank window_ok windows_ok hold_ok span_ok word_ok half_ok state_ok is_free place_ok store_ok half_note_ok define_ok accepted place glyph_of cell_dot penned cell_width too_large next_line next_line_up push_left ht_of draw_tab blank_tab character_of line_down line_down_up line_feed_of clear_of asks is_held carried_out command_of take_of byte_means leaves command_store take_store byte_store next hold_refusal held_by hold_call
marked font f = record {
  fresh_memory = refl;
  fresh_store = refl;
  case_1 = on f [];
  case-2 = (
    λ b. mem_of (on_over f b (0x41 ∷ [])) ∙ ap (λ (l : List ℕ). rows (0 ∷ l ++ 0 ∷ 505 of b) (512 of b)) (below f),
    ap cursor_after (on f (0x41 ∷ [])),
    ap next_refresh (on f (0x41 ∷ [])),
  );
  case_3 = λ codes n i. ap cursor_after (on f codes) ∙ ap cursor_of (typed codes n i);
  case-4 = (
    λ b. mem_of (on_over f b (cursor_set 106 0 0 0 ++ 0x41 ∷ []))
        ∙ ap (λ (l : List ℕ). rows (106 of b ++ 6 of 0 ++ 400 of b) (0 ∷ l ++ 0 ∷ 505 of b)) (above f),
    ap cursor_after (on f (cursor_set 106 0 0 0 ++ 0x41 ∷ [])),
  );
  case-5 = (
    ap answers_to (on f (cursor_set 0x00 0x02 0x00 0x00)),
    ap cursor_after (on f (cursor_set 0x00 0x02 0x00 0x00)),
    ap cursor_after (on f (cursor_set 0xFF 0x01 0x01 0x00)),
  );
  case-6 = (
    ap answers_to (on f (image 0x00 0x00)),
    λ b. mem_of (on_over f b (image 0x00 0x00)),
    ap answers_to (on f (image 0x00 0x00 ++ 0x0C ∷ [])),
    λ b. mem_of (on_over f b (image 0x00 0x00 ++ 0x0C ∷ [])),
    ap (λ (t : Feeding). t.answer.carried) (on f (image 0x00 0x00 ++ 0x0C ∷ [])),
    ap (λ (t : Feeding). t.answer.answered) (on f (image 0x00 0x00 ++ 0x0C ∷ [])),
  );
  case_7 = (ap answers_to (on f (image 0x00 0x02)), ap answers_to (on f (image 0x01 0x02)));
  case_8 = ap cursor_after (on f (cursor_set 14 0 1 0 ++ 0x0A ∷ []));
  case-9 = (
    λ b. mem_of (on_over f b (md2 ++ cursor_set 0 0 1 0 ++ 0x41 ∷ 0x0A ∷ []))
        ∙ ap (λ (l : List ℕ). rows (0 ∷ l ++ 0 ∷ 505 of b) (112 of 0 ++ 400 of b)) (above f),
    ap cursor_after (on f (md2 ++ cursor_set 0 0 1 0 ++ 0x41 ∷ 0x0A ∷ [])),
  );
  case-10 = (
    λ b. mem_of (on_over f b (md3 ++ cursor_set 105 0 0 0 ++ 0x41 ∷ []))
        ∙ ap (λ (l : List ℕ). rows (98 of b ++ 0 ∷ l ++ 0 ∷ 7 of 0 ++ 400 of b) (512 of b)) (below f),
    ap cursor_after (on f (md3 ++ cursor_set 105 0 0 0 ++ 0x41 ∷ [])),
  );
  case-11 = (
    ap (λ (a : Answer). refusal_number a.refusal) (holding f window_one),
    λ b. ap answers_to (on_held f b window_one (0x1B ∷ 0x40 ∷ []) refl),
    λ b. mem_of (on_held f b window_one (0x1B ∷ 0x40 ∷ []) refl),
    λ b. mem_of (on_held f b window_one (0x1B ∷ 0x40 ∷ 0x0C ∷ []) refl),
  );
  case-12 = (
    ap (λ (a : Answer). refusal_number a.refusal) (holding f (window_one ++ 0x1F ∷ 0x24 ∷ [])),
    λ b. ap answers_to (on_held f b (window_one ++ 0x1F ∷ 0x24 ∷ []) (0x41 ∷ []) refl),
    λ b. mem_of (on_held f b (window_one ++ 0x1F ∷ 0x24 ∷ []) (0x41 ∷ []) refl)
        ∙ ap (λ (l : List ℕ). rows (10 of b ++ 0 ∷ l ++ 0 ∷ 495 of b) (512 of b)) (below f),
    λ b. ap cursor_after (on_held f b (window_one ++ 0x1F ∷ 0x24 ∷ []) (0x41 ∷ []) refl),
  );
} where
  -- the state after sixteen characters
  typed : (codes : List ℕ) → length codes ≡ 16 → Characters codes
      → (run panel font (fed_nothing Accepted fresh_state begun.store begun.mem) codes).answer.state
      ≡ (run panel font (fed_nothing Accepted fresh_state begun.store begun.mem) (16 of 0x41)).answer.state
  typed codes n i =
      let start = fed_nothing Accepted fresh_state begun.store begun.mem in
      runs_alike panel font start start codes refl refl refl i
      ∙ ap (λ (k : ℕ). (run panel font start (k of 0x41)).answer.state) n
