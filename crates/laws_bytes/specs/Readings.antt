-- What reading promises to carrying out: a test over what a byte gives to a half-read command. Assumes nothing.
-- That every reading of an accepted half-read command passes it is proved in proofs/Readings.antt.
use Rattle.std.specs.Prelude.{Bool, true, ◌&&◌, ◌||◌, leb, ltb, eqb}
use Rattle.paper.specs.declared.Module.{Module}
use Rattle.paper.specs.declared.Columns.{Columns}
use Rattle.paper.specs.declared.Half.TheVariants.{GlyphWidth}
use Rattle.paper.specs.declared.Command.{Command}
use Rattle.paper.specs.declared.Command.TheVariants.{Character, Back, Tab, LineFeed, Home, Clear, Return, Select, Initialise, Mode, Set, Enlarge, CursorSet, Define, Cancel, Uncarried, Erase}
use Rattle.paper.specs.declared.Reading.{Reading}
use Rattle.paper.specs.declared.Reading.TheVariants.{More, Whole, ImageByte, ImageEnd, GlyphEnd, Cancels, UnknownCode}
use Rattle.paper.specs.Reading.{between}
use Rattle.paper.specs.Bounds.{half_ok}

-- a command read whole: a character has a glyph, a mode is one of three, a window to define or cancel one of four; every other
-- parameter may have any value
unfoldable pub command_ok : Command → Bool
command_ok (Character b) = leb 0x20 b
command_ok Back = true
command_ok Tab = true
command_ok LineFeed = true
command_ok Home = true
command_ok Clear = true
command_ok Return = true
command_ok (Select k) = true
command_ok Initialise = true
command_ok (Mode n) = between 1 3 n
command_ok (Set key n) = true
command_ok (Enlarge x y) = true
command_ok (CursorSet x y) = true
command_ok (Define a left top width height) = between 1 4 a
command_ok (Cancel a) = between 1 4 a
command_ok Uncarried = true
command_ok (Erase a code) = true

-- a download's columns as they are stored: seven, or five and zeros
unfoldable pub whole_columns : Columns → Bool
whole_columns c = eqb c.width 7 || (eqb c.width 5 && (eqb c.c5 0 && eqb c.c6 0))

-- what a byte gives: what is half read next is accepted, a whole command passes, an image byte's place is one of the memory's,
-- a download's columns may be stored, and its define may go on
unfoldable pub reading_ok : Module → Reading → Bool
reading_ok g (More p) = half_ok g p
reading_ok g (Whole c) = command_ok c
reading_ok g (ImageByte column row b next) = ltb column g.columns && (ltb row g.rows && half_ok g next)
reading_ok g (ImageEnd column row b) = ltb column g.columns && ltb row g.rows
reading_ok g (GlyphEnd d n c) = half_ok g (GlyphWidth d n) && whole_columns c
reading_ok g Cancels = true
reading_ok g UnknownCode = true
