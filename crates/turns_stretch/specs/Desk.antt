-- What a stretch of characters, moves and styles begins with, and what it leaves. Assumes nothing.
use Rattle.std.specs.Prelude.{◌≡◌, false, ℕ, ◌≤◌}
use Rattle.paper.specs.declared.Module.{Module}
use Rattle.paper.specs.declared.Half.TheVariants.{Nothing}
use Rattle.paper.specs.declared.Outcome.{Outcome}
use Rattle.paper.specs.declared.Refusal.{Refusal}
use Rattle.paper.specs.declared.State.{State}
use Rattle.paper.specs.declared.Style.{Style}
use Rattle.paper.specs.Settings.{with_settings, with_spans, with_style, with_view}
use Rattle.paper.specs.Carry.{exceeds}
use Rattle.moves.specs.declared.Spot.{Spot}
use Rattle.turns_light.specs.declared.Turn.{Turn}

-- a byte that is a character, while nothing is half read and a cell has room
pub record Drawable (g : Module) (s : State) (b : ℕ) : Type 0 where
  pub free : s.half ≡ Nothing
  pub has : 0x20 ≤ b
  pub room : exceeds g s ≡ false

-- the state with another style, and with its current window's cursor and its spans where a spot has them
abbrev pub restyled : State → Style → State
restyled s y = with_settings s (with_style s.settings y)

abbrev pub on_desk : State → Style → Spot → State
on_desk s y p = with_spans (with_view (restyled s y) p.view) p.spans

-- a turn by its parts
abbrev pub turned_to : Refusal → State → ℕ → ℕ → Outcome → ℕ → Turn
turned_to r s c a o at = record { fed = record { refusal = r; state = s; carried = c; answered = a; outcome = o }; at = at }
