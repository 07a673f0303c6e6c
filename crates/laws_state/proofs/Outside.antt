-- What strokes leave alone: the memory's length, and every byte outside a rectangle that holds them. Assumes nothing.
use mathlib.Core.Path.{◌≡◌, refl, sym, ◌∙◌}
use mathlib.Core.Bool.{false}
use mathlib.Core.List.{List, [], ◌∷◌}
use Prim.Native.Nat.{ℕ}
use native.Mathlib.Omega.{arith}
use lib.ListN.{length, get_or, get_or-eq_default}
use Rattle.paper.specs.declared.Module.{Module}
use Rattle.paper.specs.declared.Rect.{Rect}
use Rattle.paper.specs.Strokes.{Stroke, in_rect, applied, apply_all}
use Rattle.paper.specs.Carry.{byte_means}
use Rattle.paper.specs.Calls.{Feeding, faces_now, next, run}
use Rattle.laws_memory.proofs.Tests.{lt_cases, not_both}
use Rattle.laws_memory.proofs.Rects.{InRect, rect_test}
use Rattle.laws_memory.proofs.Strokes.{applied-length, applied_out, apply_length}
use Rattle.laws_state.specs.Room.{Inside, AllIn}

module _ (g : Module) where
  -- a piece keeps the memory's length
  pub length_run : (font : List ℕ) (f : Feeding) (bs : List ℕ) → length (run g font f bs).mem ≡ length f.mem
  unfolding next
  length_run font f [] = refl
  length_run font f (b ∷ bs) =
      length_run font (next g font f b) bs ∙ apply_length g f.mem (byte_means g (faces_now font f) f.answer.state b).strokes

  module _ (q : Rect) (a : ℕ) (out : in_rect g q a ≡ false) where
    -- a stroke in a rectangle leaves what lies outside it; past the memory's end there is nothing
    stroke-outside : (m : List ℕ) (s : Stroke) → Inside q s → get_or (applied g m s) a 0 ≡ get_or m a 0
    stroke-outside m s i =
        lt_cases a (length m)
        (λ l. applied_out g m s a l (λ f. not_both (in_rect g q a) out (rect_test g q a (inner f))))
        (λ l. get_or-eq_default (applied g m s) 0 (omega (arith, applied-length g m s)) ∙ sym (get_or-eq_default m 0 l))
      where
        inner : InRect g s.rect a → InRect g q a
        inner f = omega arith

    -- and so do several
    pub isolated : (m : List ℕ) (ss : List Stroke) → AllIn q ss → get_or (apply_all g m ss) a 0 ≡ get_or m a 0
    isolated m [] i = refl
    isolated m (s ∷ ss) i = isolated (applied g m s) ss i.1 ∙ stroke-outside m s i.0
