-- What carrying out is handed: all that a turn of the loop over a piece does not take without it. Assumes nothing.
use Rattle.std.specs.Prelude.{Bool, true, false, not, ◌||◌}
use Rattle.paper.specs.declared.Command.{Command}
use Rattle.paper.specs.declared.Command.TheVariants.{Character, Back, Tab, LineFeed, Home, Clear, Return, Select, Initialise, Mode, Set, Enlarge, CursorSet, Define, Cancel, Uncarried, Erase}
use Rattle.paper.specs.declared.Reading.{Reading}
use Rattle.paper.specs.declared.Reading.TheVariants.{More, Whole, ImageByte, ImageEnd, GlyphEnd, Cancels, UnknownCode}

-- a command that asks for a cell: "a character, BS, HT or LF"
unfoldable pub is_cell : Command → Bool
is_cell (Character b) = true
is_cell Back = true
is_cell Tab = true
is_cell LineFeed = true
is_cell Home = false
is_cell Clear = false
is_cell Return = false
is_cell (Select k) = false
is_cell Initialise = false
is_cell (Mode n) = false
is_cell (Set key n) = false
is_cell (Enlarge x y) = false
is_cell (CursorSet x y) = false
is_cell (Define a left top width height) = false
is_cell (Cancel a) = false
is_cell Uncarried = false
is_cell (Erase a code) = false

-- it is handed such a command only where the cell is too large
abbrev pub heavy_command : Bool → Command → Bool
heavy_command large c = not (is_cell c) || large

-- and no image's byte
unfoldable pub heavy : Bool → Reading → Bool
heavy large (More p) = true
heavy large (Whole c) = heavy_command large c
heavy large (ImageByte column row b next) = false
heavy large (ImageEnd column row b) = false
heavy large (GlyphEnd d n c) = true
heavy large Cancels = true
heavy large UnknownCode = true
