-- What a turn of the loop over a piece owes. Assumes nothing.
use Rattle.std.specs.Prelude.{◌≡◌, Bool, true, false, not, ◌&&◌, List, ◌∷◌, ℕ, ◌+◌, ◌-◌, ◌<◌, ◌≤◌, length, drop}
use Rattle.paper.specs.declared.Module.{Module}
use Rattle.paper.specs.declared.Fed.{Fed}
use Rattle.paper.specs.declared.Half.{Half}
use Rattle.paper.specs.declared.Half.TheVariants.{Nothing}
use Rattle.paper.specs.declared.Reading.{Reading}
use Rattle.paper.specs.declared.Reading.TheVariants.{More}
use Rattle.paper.specs.declared.State.{State}
use Rattle.paper.specs.Panel.{font_length}
use Rattle.paper.specs.Reading.{read_of}
use Rattle.paper.specs.Carry.{exceeds}
use Rattle.laws_state.specs.Runs.{Reaches}
use Rattle.laws_state.specs.Told.{fed}
use Rattle.strides.specs.Strides.{is_light}
use Rattle.carry_dots.specs.Does.{Ready}
use Rattle.turns_half.specs.Halves.{is_nothing}
use Rattle.turns_light.specs.declared.Turn.{Turn}

-- a byte with which a stretch that needs no state begins, while nothing is half read and a cell has room
pub record Light (g : Module) (s : State) (piece : List ℕ) (i : ℕ) : Type 0 where
  pub free : s.half ≡ Nothing
  pub has : is_light piece i ≡ true
  pub room : exceeds g s ≡ false

-- the same as a test: whether such a stretch begins there, and whether a cell has room for it too
abbrev pub light_start : Half → List ℕ → ℕ → Bool
light_start h piece i = is_nothing h && is_light piece i

abbrev pub light_at : Module → State → List ℕ → ℕ → Bool
light_at g s piece i = light_start s.half piece i && not (exceeds g s)

-- reading on with the bytes bs after a reading comes, byte by byte, to another with rest left; only a half-read command is read on
pub data Gathers (g : Module) : Reading → List ℕ → Reading → List ℕ → Type 0 where
  here : {q : Reading} {bs : List ℕ} → Gathers g q bs q bs
  byte : {h : Half} {q r : Reading} {b : ℕ} {bs rest : List ℕ} → read_of g h b ≡ q → Gathers g q bs r rest → Gathers g (More h) (b ∷ bs) r rest

-- a byte of the piece is next, and all that are left can be counted
pub record Due (g : Module) (m font piece : List ℕ) (f : Fed) (i : ℕ) : Type 0 where
  pub ready : Ready g f.state m
  pub font_whole : length font ≡ font_length g
  pub inside : i < length piece
  pub countable : f.carried + f.answered + (length piece - i) < 18446744073709551616

-- some bytes more are fed, as they are one by one; before and after are a memory and the downloads
pub record Turned (g : Module) (font : List ℕ) (f : Fed) (m ds piece : List ℕ) (i : ℕ) (r : Turn) (m' ds' : List ℕ) : Type 0 where
  pub some : i < r.at
  pub end : r.at ≤ length piece
  pub reached : Reaches g font (fed f m ds) (drop i piece) (fed r.fed m' ds') (drop r.at piece)
