-- Order 4's case and its neighbours. Assumes nothing.
use mathlib.Core.Path.{refl}
use Rattle.paper.specs.Telegrams.{framed, good, first_of, first_good, searched, search_from, receive_call}
use Rattle.laws_telegrams.specs.Cases.{MarkedTelegrams}

pub marked_telegrams : MarkedTelegrams
unfolding receive_call search_from searched first_good first_of good framed
marked_telegrams =
    record {
      case_found = refl;
      its_data = refl;
      not_ours = refl;
      no_address = refl;
      no_byte = refl;
      no_piece = refl;
      to_all = refl;
      to_none = refl;
      inside_good = refl;
      inside_broken = refl;
      cut_off = refl;
      twice_begun = refl;
      of_none = refl;
      of_128 = refl;
      of_129 = refl;
    }
