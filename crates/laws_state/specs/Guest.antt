-- What the bytes of a held window's guest keep, and what they leave alone. Assumes nothing.
use Rattle.std.specs.Prelude.{◌≡◌, true, false, List, ℕ, ◌<◌, ◌≤◌, get_or}
use Rattle.paper.specs.declared.Module.{Module}
use Rattle.paper.specs.declared.Rect.{Rect}
use Rattle.paper.specs.declared.Settings.{Settings}
use Rattle.paper.specs.declared.State.{State}
use Rattle.paper.specs.declared.Window.{Window}
use Rattle.paper.specs.Strokes.{rect_at, in_rect}
use Rattle.paper.specs.Settings.{window_at, hold_of}
use Rattle.paper.specs.Bounds.{accepted}

-- an accepted state, with its downloads, in which window k is held, `back` saved as selected and `v` as settings
pub record Holding (g : Module) (k back : ℕ) (v : Settings) (s : State) (ds : List ℕ) : Type 0 where
  pub accepts : accepted g s ds ≡ true
  pub held : s.hold ≡ hold_of k back v

-- state r after a guest's bytes in state s: the hold, the selection, the base cursor and every other window are as they were,
-- and window k has its rectangle and its cursor in it
pub record Guest (k back : ℕ) (v : Settings) (s r : State) : Type 0 where
  pub hold : r.hold ≡ hold_of k back v
  pub selected : r.selected ≡ k
  pub base : r.base ≡ s.base
  pub others : (j : ℕ) → 1 ≤ j → (j ≡ k → ⊥) → window_at r.windows j ≡ window_at s.windows j
  pub left : (window_at r.windows k).left ≡ (window_at s.windows k).left
  pub top : (window_at r.windows k).top ≡ (window_at s.windows k).top
  pub width : (window_at r.windows k).width ≡ (window_at s.windows k).width
  pub height : (window_at r.windows k).height ≡ (window_at s.windows k).height
  pub x : (window_at r.windows k).cursor.x < (window_at s.windows k).width
  pub y : (window_at r.windows k).cursor.y < (window_at s.windows k).height

-- the rectangle of a window
abbrev pub window_rect : Window → Rect
window_rect w = rect_at w.left w.top w.width w.height

-- no address outside window k's rectangle changed between memory m and memory n
pub record OnlyInside (g : Module) (k : ℕ) (s : State) (m n : List ℕ) : Type 0 where
  pub same : (a : ℕ) → in_rect g (window_rect (window_at s.windows k)) a ≡ false → get_or n a 0 ≡ get_or m a 0
