-- `view_glyph::column` is safe and gives the font's byte of a picture's column: so far that of the rows that have come.
use Rattle.std.proofs.Common.{◌≡◌}
use Rattle.view_glyph.proofs.Rows.{dot, upto}
use Rattle.view_glyph.proofs.column.Given as goal

abbrev pub invariant-loop-i : goal.invariant-loop-i
invariant-loop-i l = l.byte ≡ upto l.i (dot l.dots l.k)
