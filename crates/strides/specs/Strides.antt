-- What needs no state to be carried out: a move by its byte, reverse and mixing. Assumes nothing.
use Rattle.std.specs.Prelude.{Bool, true, false, cond, ◌&&◌, ◌||◌, List, ℕ, ◌+◌, ◌-◌, length, get_or, leb, ltb, eqb}
use Rattle.paper.specs.declared.Module.{Module}
use Rattle.paper.specs.declared.Style.{Style}
use Rattle.paper.specs.declared.View.{View}
use Rattle.paper.specs.Reading.{between}
use Rattle.paper.specs.Settings.{make_style}
use Rattle.paper.specs.Moves.{Moved, only, ht_of, back_of, line_feed_of, home_of, return_of, clear_of}

-- "08h to 0Dh are BS, HT, LF, HOM, CLR, CR"
unfoldable pub step_of : Module → View → ℕ → ℕ → ℕ → Moved
step_of g v c l b =
    cond (eqb b 0x08) (only (back_of v c l))
    (cond (eqb b 0x09) (ht_of g v c l)
    (cond (eqb b 0x0A) (line_feed_of g v l)
    (cond (eqb b 0x0B) (only (home_of v))
    (cond (eqb b 0x0C) (clear_of v) (only (return_of v))))))

-- at i stands 1Fh 72h and 0 or 1, or 1Fh 77h and 0 to 3, whole
unfoldable pub is_styling : List ℕ → ℕ → Bool
is_styling piece i =
    cond (ltb (length piece - i) 3) false
    (eqb (get_or piece i 0) 0x1F
    && ((eqb (get_or piece (i + 1) 0) 0x72 && leb (get_or piece (i + 2) 0) 1) || (eqb (get_or piece (i + 1) 0) 0x77 && leb (get_or piece (i + 2) 0) 3)))

-- 72h sets reverse, 77h mixing
unfoldable pub styled_by : Style → ℕ → ℕ → Style
styled_by y k n =
    cond (eqb k 0x72) (make_style n y.mixing y.across y.down) (make_style y.reverse n y.across y.down)

-- at i stands a character, a move, a reverse or a mixing
unfoldable pub is_light : List ℕ → ℕ → Bool
is_light piece i = cond (leb 0x20 (get_or piece i 0)) true (cond (between 0x08 0x0D (get_or piece i 0)) true (is_styling piece i))
