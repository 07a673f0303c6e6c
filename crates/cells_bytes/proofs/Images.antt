-- A byte of an image, mixed into memory. Assumes nothing.
use mathlib.Core.Path.{◌≡◌, sym, ap, ◌∙◌}
use mathlib.Core.List.{List}
use Prim.Native.Nat.{ℕ, ◌<◌}
use Rattle.paper.specs.declared.Module.{Module}
use Rattle.paper.specs.declared.Style.{Style}
use Rattle.paper.specs.Panel.{dot}
use Rattle.paper.specs.Strokes.{rect_at}
use Rattle.paper.specs.Cells.{penned}
use Rattle.laws_bytes.specs.Bytes.{reversed_byte, mixed_byte, penned_byte}
use Rattle.laws_bytes.proofs.Penned.{penned-dots}
use Rattle.laws_memory.specs.Rectangles.{Bytes}
use Rattle.laws_memory.proofs.Rects.{rect_same}
use Rattle.cells_columns.specs.Mixed.{mixed_at}
use Rattle.cells_bytes.specs.Stored.{imaged}

-- the one that stands there is mixed with it, as the paper has it
pub imaged_by : (g : Module) (y : Style) (x top v u : ℕ) (m m' : List ℕ) → v < 256 → Bytes m → u ≡ reversed_byte y v
    → m' ≡ mixed_at g y x top u m → m' ≡ imaged g y x top v m
unfolding mixed_at imaged penned_byte
imaged_by g y x top v u m m' hv bytes e p = p ∙ rect_same g (rect_at x top 1 1) _ _ m (λ j r hj hr. same _ (bytes _))
  where
    same : (b : ℕ) → b < 256 → mixed_byte y u b ≡ penned y (dot v) b
    same b hb = ap (λ (n : ℕ). mixed_byte y n b) e ∙ sym (penned-dots y v b hv hb)
