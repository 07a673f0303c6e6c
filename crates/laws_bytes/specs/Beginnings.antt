-- "A proper beginning of a command by the reading rules": which half-read commands some bytes lead to, and from which some bytes
-- lead to a whole command. Assumes nothing.
-- That the first are the ones the paper accepts is proved in proofs/Beginnings.antt, what finishes them in proofs/Endings.antt.
use Rattle.std.specs.Prelude.{ℕ, ◌<◌, ◌≡◌, Bool, true, false, List, [], ◌∷◌, ◌++◌, ltb}
use Rattle.paper.specs.declared.Module.{Module}
use Rattle.paper.specs.declared.Word.{Word}
use Rattle.paper.specs.declared.Word.TheVariants.{CursorX, CursorY, WindowLeft, WindowTop, WindowWidth, WindowHeight, ImageWidth, ImageHeight}
use Rattle.paper.specs.declared.Batch.{Batch}
use Rattle.paper.specs.declared.Columns.{Columns}
use Rattle.paper.specs.declared.Half.{Half}
use Rattle.paper.specs.declared.Half.TheVariants.{Nothing, Escape, Group, Actions, Images, Characters, Windows, Value, Rest, DownloadA, DownloadFrom, DownloadTo, GlyphWidth, GlyphByte, Low, High, ImageKind, ImageData, EnlargeX, EnlargeY, SelectA, WindowA, WindowB, EraseA, EraseCode}
use Rattle.paper.specs.declared.Command.{Command}
use Rattle.paper.specs.declared.Reading.TheVariants.{More, Whole, ImageByte, ImageEnd, GlyphEnd, Cancels}
use Rattle.paper.specs.Reading.{next_code, read_of}

-- the bytes, in the order in which they are read, begin a command, and this is half read after the last of them
pub data Begins (g : Module) : List ℕ → Half → Type 0 where
  no_byte : Begins g [] Nothing
  one_more : {bs : List ℕ} {p q : Half} (b : ℕ) → Begins g bs p → b < 256 → read_of g p b ≡ More q → Begins g (bs ++ (b ∷ [])) q
  one_stored : {bs : List ℕ} {p q : Half} (b column row : ℕ) → Begins g bs p → b < 256 → read_of g p b ≡ ImageByte column row b q
      → Begins g (bs ++ (b ∷ [])) q
  one_glyph : {bs : List ℕ} {p : Half} (b : ℕ) (d : Batch) (n : Bool) (c : Columns) → Begins g bs p → b < 256
      → read_of g p b ≡ GlyphEnd d n c → ltb d.code d.last ≡ true → Begins g (bs ++ (b ∷ [])) (GlyphWidth (next_code d) n)
  -- whether a code was dropped is no matter of the reading rules
  any_note : {bs : List ℕ} {n : Bool} (d : Batch) (dropped : Bool) → Begins g bs (GlyphWidth d n) → Begins g bs (GlyphWidth d dropped)

-- some bytes lead to a half-read command
pub record Beginning (g : Module) (p : Half) : Type 0 where
  pub bytes : List ℕ
  pub begins : Begins g bytes p

-- the bytes, read one after the other, make what is half read a whole command at the last of them, and not before
pub data Finishes (g : Module) : Half → List ℕ → Type 0 where
  made_whole : {p : Half} (b : ℕ) (c : Command) → b < 256 → read_of g p b ≡ Whole c → Finishes g p (b ∷ [])
  last_stored : {p : Half} (b column row : ℕ) → b < 256 → read_of g p b ≡ ImageEnd column row b → Finishes g p (b ∷ [])
  then_more : {p q : Half} {bs : List ℕ} (b : ℕ) → b < 256 → read_of g p b ≡ More q → Finishes g q bs → Finishes g p (b ∷ bs)
  then_stored : {p q : Half} {bs : List ℕ} (b column row : ℕ) → b < 256 → read_of g p b ≡ ImageByte column row b q → Finishes g q bs
      → Finishes g p (b ∷ bs)
  last_glyph : {p : Half} (b : ℕ) (d : Batch) (n : Bool) (c : Columns) → b < 256 → read_of g p b ≡ GlyphEnd d n c
      → ltb d.code d.last ≡ false → Finishes g p (b ∷ [])
  -- whatever the note of a drop
  then_glyph : {p : Half} {bs : List ℕ} (b : ℕ) (d : Batch) (n : Bool) (c : Columns) (dropped : Bool) → b < 256
      → read_of g p b ≡ GlyphEnd d n c → ltb d.code d.last ≡ true → Finishes g (GlyphWidth (next_code d) dropped) bs
      → Finishes g p (b ∷ bs)

-- some bytes lead from a half-read command to a whole one
pub record Finished (g : Module) (p : Half) : Type 0 where
  pub bytes : List ℕ
  pub finishes : Finishes g p bytes

-- "A bad size cancels when its high byte arrives", and not before: an image's size whose low byte has come and which is bad with
-- every high byte
pub data BadSize (g : Module) : Half → Type 0 where
  bad_width : (low : ℕ) → ((b : ℕ) → read_of g (High ImageWidth low) b ≡ Cancels) → BadSize g (High ImageWidth low)
  bad_height : (width low : ℕ) → ((b : ℕ) → read_of g (High (ImageHeight width) low) b ≡ Cancels)
      → BadSize g (High (ImageHeight width) low)

-- ---- the numbers of a half-read command fit the types that the paper declares for them

-- a u8
abbrev Byte : ℕ → Type 0
Byte n = n < 256

-- a u16
abbrev Short : ℕ → Type 0
Short n = n < 65536

-- a 16-bit parameter that is awaited
abbrev pub WordFits : Word → Type 0
WordFits CursorX = Unit {0}
WordFits (CursorY x) = Short x
WordFits (WindowLeft a) = Byte a
WordFits (WindowTop a left) = Byte a × Short left
WordFits (WindowWidth a left top) = Byte a × Short left × Short top
WordFits (WindowHeight a left top width) = Byte a × Short left × Short top × Short width
WordFits ImageWidth = Unit {0}
WordFits (ImageHeight width) = Short width

-- a define's codes
abbrev pub BatchFits : Batch → Type 0
BatchFits d = Byte d.first × Byte d.code × Byte d.last

-- a download's columns
abbrev pub ColumnsFit : Columns → Type 0
ColumnsFit c =
    Byte c.width × Byte c.come
    × Byte c.c0 × Byte c.c1 × Byte c.c2 × Byte c.c3 × Byte c.c4 × Byte c.c5 × Byte c.c6

-- every half-read command
abbrev pub Fits : Half → Type 0
Fits Nothing = Unit {0}
Fits Escape = Unit {0}
Fits Half.Unit = Unit {0}
Fits Group = Unit {0}
Fits Actions = Unit {0}
Fits Images = Unit {0}
Fits Characters = Unit {0}
Fits Windows = Unit {0}
Fits (Value key) = Unit {0}
Fits (Rest left) = Byte left
Fits DownloadA = Unit {0}
Fits DownloadFrom = Unit {0}
Fits (DownloadTo from) = Byte from
Fits (GlyphWidth d n) = BatchFits d
Fits (GlyphByte d n c) = BatchFits d × ColumnsFit c
Fits (Low w) = WordFits w
Fits (High w low) = WordFits w × Byte low
Fits (ImageKind width height) = Short width × Short height
Fits (ImageData width height column row) = Short width × Short height × Short column × Short row
Fits EnlargeX = Unit {0}
Fits (EnlargeY x) = Byte x
Fits SelectA = Unit {0}
Fits WindowA = Unit {0}
Fits (WindowB a) = Byte a
Fits EraseA = Unit {0}
Fits (EraseCode a) = Byte a
