-- Where the loop over stretches has come to: a stretch more, and where it ends. Assumes nothing.
use mathlib.Core.Path.{◌∙◌}
use mathlib.Core.List.{List}
use Prim.Native.Nat.{ℕ, ◌<◌, ◌≤◌}
use native.Mathlib.Omega.{arith}
use lib.ListN.{length, get_or}
use Rattle.paper.specs.declared.Module.{Module}
use Rattle.paper.specs.declared.Style.{Style}
use Rattle.paper.specs.Downloads.{Faces}
use Rattle.laws_state.proofs.Taken.{characters_stop, characters_end}
use Rattle.laws_memory.proofs.Tests.{eq_cases}
use Rattle.moves.specs.declared.Spot.{Spot}
use Rattle.runs_line.specs.declared.Drawn.{Drawn}
use Rattle.runs_line.specs.Went.{under, drawn_to, Went}
use Rattle.runs.specs.Runs.{Ran}

-- a place that is not the first
past : (piece : List ℕ) (from i : ℕ) → from ≤ i → 0x20 ≤ get_or piece from 0 → get_or piece i 0 < 0x20 → from < i
past piece from i l a b =
    eq_cases from i (λ e. let f : get_or piece from 0 < 0x20 = rw e b in absurd (omega arith)) (λ n. omega arith)

module _ (g : Module) (font : Faces) (w : ℕ) (y : Style) (p : Spot) (m piece : List ℕ) (from : ℕ) (q : Spot) (n : List ℕ) (i : ℕ)
    (k : Went g font w y p m piece from (drawn_to q i) n) where
  -- a stretch more
  pub went_on : {r : Drawn} {n' : List ℕ} → Went g font w y q n piece i r n' → Went g font w y p m piece from r n'
  went_on s =
      record {
        low = omega (arith, k.low, s.low);
        high = s.high;
        size = s.size ∙ k.size;
        within =
            record {
              left = s.within.left ∙ k.within.left;
              top = s.within.top ∙ k.within.top;
              width = s.within.width ∙ k.within.width;
              height = s.within.height ∙ k.within.height;
              x = rw (← k.within.width) s.within.x;
              y = rw (← k.within.height) s.within.y;
            };
        done = s.done ∙ k.done;
      }

  -- a byte that is none
  pub ran_stop : i < length piece → 0x20 ≤ get_or piece from 0 → get_or piece i 0 < 0x20 → Ran g font w y p m piece from (drawn_to q i) n
  ran_stop l a b =
      record {
        some = past piece from i k.low a b;
        end = k.high;
        within = k.within;
        done = characters_stop g font w y piece i (under q n) l b ∙ k.done;
      }

  -- the piece's end
  pub ran_end : from < length piece → length piece ≤ i → Ran g font w y p m piece from (drawn_to q i) n
  ran_end l e =
      record {
        some = omega arith;
        end = k.high;
        within = k.within;
        done = characters_end g font w y piece i (under q n) e ∙ k.done;
      }
