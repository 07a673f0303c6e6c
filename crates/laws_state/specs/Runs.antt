-- Bytes taken together: a run of characters, and a run of an image's bytes. Neither has a state in it. Assumes nothing.
use Rattle.std.specs.Prelude.{cond, List, [], ◌∷◌, ◌≡◌, ℕ, ◌+◌, ◌<◌, leb, ltb, eqb}
use Rattle.paper.specs.declared.Module.{Module}
use Rattle.paper.specs.declared.Span.{Span}
use Rattle.paper.specs.declared.State.{State}
use Rattle.paper.specs.declared.Style.{Style}
use Rattle.paper.specs.declared.View.{View}
use Rattle.paper.specs.declared.Half.{Half}
use Rattle.paper.specs.declared.Half.TheVariants.{Nothing, ImageData}
use Rattle.paper.specs.declared.Outcome.{Outcome}
use Rattle.paper.specs.declared.Outcome.TheVariants.{Unfinished, Carried}
use Rattle.paper.specs.Downloads.{Faces}
use Rattle.paper.specs.Strokes.{apply_all, mark_all}
use Rattle.paper.specs.Settings.{with_half, with_spans, with_view}
use Rattle.paper.specs.Moves.{Moved, character_of}
use Rattle.paper.specs.Carry.{image_strokes}
use Rattle.paper.specs.Calls.{Feeding, next}

-- ---- what is fed and what is left

-- feeding the bytes bs after x comes, byte by byte, to y with rest left
pub data Reaches (g : Module) (font : List ℕ) : Feeding → List ℕ → Feeding → List ℕ → Type 0 where
  here : {x : Feeding} {bs : List ℕ} → Reaches g font x bs x bs
  byte : {x y : Feeding} {b : ℕ} {bs rest : List ℕ} → Reaches g font (next g font x b) bs y rest → Reaches g font x (b ∷ bs) y rest

-- ---- characters

-- a range with its cursor, the spans and the memory
pub record Sheet : Type 0 where
  pub view : View
  pub spans : List Span
  pub mem : List ℕ

abbrev pub sheet : View → List Span → List ℕ → Sheet
sheet v ps m = record { view = v; spans = ps; mem = m }

-- after a move: its strokes grow the spans and move the memory
abbrev pub moved_on : Module → Sheet → Moved → Sheet
moved_on g h t = sheet t.view (mark_all h.spans t.strokes) (apply_all g h.mem t.strokes)

-- after a character, drawn from the faces in force
abbrev pub written_on : Module → Faces → ℕ → Style → Sheet → ℕ → Sheet
written_on g font w y h b = moved_on g h (character_of g font w y b h.view)

pub record Written : Type 0 where
  pub on : Sheet
  pub rest : List ℕ

abbrev pub written : Sheet → List ℕ → Written
written h rest = record { on = h; rest = rest }

-- the characters that bytes begin with, and the bytes from the first that is none
abbrev pub characters_of : Module → Faces → ℕ → Style → Sheet → List ℕ → Written
characters_of g font w y h [] = written h []
characters_of g font w y h (b ∷ bs) =
    cond (leb 0x20 b) (characters_of g font w y (written_on g font w y h b) bs) (written h (b ∷ bs))

-- the state with its current window's cursor and its spans where a sheet has them
abbrev pub on_sheet : State → Sheet → State
on_sheet s h = with_spans (with_view s h.view) h.spans

-- a view of the same range, with its cursor in it
pub record Within (u v : View) : Type 0 where
  pub left : v.left ≡ u.left
  pub top : v.top ≡ u.top
  pub width : v.width ≡ u.width
  pub height : v.height ≡ u.height
  pub x : v.x < u.width
  pub y : v.y < u.height

-- ---- an image's bytes

-- the spans and the memory, and the column and row of the image's next byte
pub record Image : Type 0 where
  pub spans : List Span
  pub mem : List ℕ
  pub column : ℕ
  pub row : ℕ

abbrev pub image : List Span → List ℕ → ℕ → ℕ → Image
image ps m column row = record { spans = ps; mem = m; column = column; row = row }

-- after a byte: "column by column, top first"
abbrev pub stored_on : Module → View → Style → ℕ → Image → ℕ → Image
stored_on g v y height i b =
    image (mark_all i.spans (image_strokes v y i.column i.row b)) (apply_all g i.mem (image_strokes v y i.column i.row b))
    (cond (ltb (i.row + 1) height) i.column (i.column + 1)) (cond (ltb (i.row + 1) height) (i.row + 1) 0)

pub record Stored : Type 0 where
  pub on : Image
  pub rest : List ℕ

abbrev pub stored : Image → List ℕ → Stored
stored i rest = record { on = i; rest = rest }

-- the bytes of an image that bytes begin with: all of them, or up to the image's last, after which the column is the width
abbrev pub image_bytes_of : Module → View → Style → ℕ → ℕ → Image → List ℕ → Stored
image_bytes_of g v y width height i [] = stored i []
image_bytes_of g v y width height i (b ∷ bs) =
    cond (eqb (stored_on g v y height i b).column width) (stored (stored_on g v y height i b) bs)
    (image_bytes_of g v y width height (stored_on g v y height i b) bs)

-- what is half read then, and what the last byte came to
abbrev pub half_at : ℕ → ℕ → Image → Half
half_at width height i = cond (eqb i.column width) Nothing (ImageData width height i.column i.row)

abbrev pub outcome_at : ℕ → Image → Outcome
outcome_at width i = cond (eqb i.column width) Carried Unfinished

abbrev pub done_at : ℕ → Image → ℕ
done_at width i = cond (eqb i.column width) 1 0

-- the state with its spans where an image has them, and an image's next byte or nothing awaited
abbrev pub on_image : State → ℕ → ℕ → Image → State
on_image s width height i = with_half (with_spans s i.spans) (half_at width height i)
