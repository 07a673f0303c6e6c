-- A case for each rule by which a cell is written: the rules of the strokes that a command means. Assumes nothing.
use Rattle.std.specs.Prelude.{◌≡◌, List, [], ◌∷◌, map, ℕ}
use Rattle.paper.specs.declared.Command.{Command}
use Rattle.paper.specs.declared.Command.TheVariants.{Character, Tab, LineFeed, Clear, Initialise}
use Rattle.paper.specs.declared.Reading.TheVariants.{ImageEnd}
use Rattle.paper.specs.declared.State.{State}
use Rattle.paper.specs.Panel.{panel}
use Rattle.paper.specs.Downloads.{Faces}
use Rattle.paper.specs.Strokes.{Rule, draw, wrapBlank, scroll, clear, image, initialise, Stroke}
use Rattle.paper.specs.Settings.{initial_state, with_base, cursor}
use Rattle.paper.specs.Carry.{Meaning, command_of, take_of}

abbrev pub rules_of : Meaning → List Rule
rules_of t = map (λ (s : Stroke). s.rule) t.strokes

-- the initial state with the base window's cursor at (x, y), in a mode
abbrev pub at : ℕ → ℕ → ℕ → State
at x y mode = with_base (initial_state panel) (cursor x y mode)

abbrev pub written : Faces → State → Command → List Rule
written font s c = rules_of (command_of panel font s c)

pub record Rules (font : Faces) : Type 0 where
  pub a_character : written font (at 0 0 1) (Character 0x41) ≡ draw ∷ []
  pub a_wrap : written font (at 106 0 1) (Character 0x41) ≡ wrapBlank ∷ draw ∷ []
  pub a_wrap_scrolls : written font (at 106 1 2) (Character 0x41) ≡ wrapBlank ∷ scroll ∷ draw ∷ []
  pub a_tab_pushes : written font (at 105 0 3) Tab ≡ scroll ∷ []
  pub a_line_feed_scrolls : written font (at 0 1 2) LineFeed ≡ scroll ∷ []
  pub a_clear : written font (at 5 1 1) Clear ≡ clear ∷ []
  pub an_initialise : written font (at 5 1 1) Initialise ≡ initialise ∷ []
  pub an_image_byte : rules_of (take_of panel font (at 5 1 1) (ImageEnd 0 0 0xFF)) ≡ image ∷ []
  pub an_image_byte_outside : rules_of (take_of panel font (at 5 1 1) (ImageEnd 0 1 0xFF)) ≡ []
