-- `glass::copy_both` meets its contract. Assumes nothing.
use mathlib.Core.Path.{◌≡◌, sym, ap, ap₂, ◌∙◌}
use mathlib.Core.List.{List}
use Prim.Native.Nat.{ℕ, zero, suc, ◌<◌}
use native.Mathlib.Omega.{arith}
use Rattle.paper.specs.Strokes.{shown}
use Rattle.laws_memory.specs.Glass.{copied_from}
use Rattle.laws_memory.proofs.Glass.{bytes_none, refreshed_both}
use Rattle.glass.proofs.copy_both.Goals as goal

-- as many bytes from the same address, or none from any
same_run : (m glass : List ℕ) (a b n k : ℕ) → n ≡ k → (0 < k → a ≡ b) → copied_from m a n glass ≡ copied_from m b k glass
same_run m glass a b n zero e h = ap (λ (t : ℕ). copied_from m a t glass) e ∙ sym (bytes_none m a glass) ∙ bytes_none m b glass
same_run m glass a b n (suc k) e h = ap₂ (λ (x y : ℕ). copied_from m x y glass) (h (omega arith)) e

pub returns : goal.returns
unfolding shown
returns c =
    let a = c.args in
    let copying = c.copy_bytes.ensures in (
      refreshed_both a.g _ a.p _ _ c.requires.0 (omega arith)
          (copying.0 ∙ same_run a.mem.now a.glass.now _ _ _ _ (omega arith) (λ h. omega (arith, h))),
      omega (arith, copying.1),
    )
