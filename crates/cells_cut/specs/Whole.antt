-- Whether all of a cell is drawn, and whether by the rows that are made for it. Assumes nothing.
use Rattle.std.specs.Prelude.{Bool, ◌&&◌, ℕ, ◌+◌, ◌*◌, leb, eqb}
use Rattle.paper.specs.declared.Style.{Style}

-- a glyph of so many columns after at most one blank and before so many, repeated across at most four times, in a rectangle of its whole width and height
abbrev pub is_whole : ℕ → ℕ → ℕ → Style → ℕ → ℕ → Bool
is_whole glyph blanks right y width height =
    leb blanks 1 && (leb y.across 4 && (eqb height y.down && eqb width ((blanks + glyph + right) * y.across)))
