-- The cases of specs/Rules hold: each is computed. Assumes nothing.
use mathlib.Core.Path.{refl}
use Rattle.paper.specs.Panel.{panel}
use Rattle.paper.specs.Downloads.{Faces}
use Rattle.paper.specs.Settings.{initial_style, initial_settings, top_left, initial_state, base_view, view_of}
use Rattle.paper.specs.Cells.{cell_width, too_large}
use Rattle.paper.specs.Moves.{next_line, next_line_up, push_left, ht_of, draw_tab, blank_tab, character_of, line_down_up, line_feed_of, clear_of}
use Rattle.paper.specs.Carry.{asks, is_held, carried_out, command_of, image_strokes, take_of}
use Rattle.laws_marked.specs.Rules.{Rules}

pub rules : (font : Faces) → Rules font
unfolding panel initial_style initial_settings top_left initial_state base_view view_of cell_width too_large next_line next_line_up push_left ht_of draw_tab blank_tab character_of line_down_up line_feed_of clear_of asks is_held carried_out command_of image_strokes take_of
rules font =
    record {
      a_character = refl;
      a_wrap = refl;
      a_wrap_scrolls = refl;
      a_tab_pushes = refl;
      a_line_feed_scrolls = refl;
      a_clear = refl;
      an_initialise = refl;
      an_image_byte = refl;
      an_image_byte_outside = refl;
    }
