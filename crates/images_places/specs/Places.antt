-- The place of an image's next byte, and a range as an image sees it. Assumes nothing.
use Rattle.std.specs.Prelude.{cond, ℕ, ◌+◌, ◌-◌, ltb}
use Rattle.paper.specs.declared.View.{View}
use Rattle.images_places.specs.declared.Place.{Place}

-- the place of the byte after another: "column by column, top first"
abbrev pub place_after : ℕ → ℕ → ℕ → Place
place_after height column row =
    record { column = cond (ltb (row + 1) height) column (column + 1); row = cond (ltb (row + 1) height) (row + 1) 0 }

-- what of a range lies right of its cursor and below, with the cursor at its top left
abbrev pub from_cursor : View → View
from_cursor v =
    record {
      left = v.left + v.x;
      top = v.top + v.y;
      width = v.width - v.x;
      height = v.height - v.y;
      x = 0;
      y = 0;
      mode = v.mode;
    }
