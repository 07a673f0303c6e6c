-- `rest_blank` meets its contract: past those that have come, column by column. Assumes nothing.
use Rattle.std.proofs.Common.{rules, ◌≡◌, ℕ, zero, suc, true, eqb, [], ◌∷◌, drop, refl, ◌∙◌}
use borrow.Author.Tests.{tests, lt-ltb}
use native.Mathlib.Omega.{arith}
use Rattle.std.proofs.lemmas.Iterator.{YieldsList-from_slice}
use Rattle.std.proofs.lemmas.Iterator.Search.{all_from_yields_List}
use Rattle.std.proofs.lemmas.Iterator.Consumers.{YieldsList-at}
use Rattle.std.proofs.lemmas.Iterator.Adapters.{YieldsList-from_skip}
use Rattle.std.specs.List.{list_all}
use mathlib.Core.Bool.{◌&&◌, ◌||◌, and-true}
use lib.Dec.{ltb}
use Rattle.paper.specs.Bounds.{rest_blank}
use Rattle.accept_define.proofs.rest_blank.Goals as goal

-- how many have come decides which are tested
tested : (n c0 c1 c2 c3 c4 c5 c6 : ℕ) → list_all (λ b. eqb b 0) (drop n (c0 ∷ c1 ∷ c2 ∷ c3 ∷ c4 ∷ c5 ∷ c6 ∷ []))
    ≡ ((ltb 0 n || eqb c0 0) && ((ltb 1 n || eqb c1 0) && ((ltb 2 n || eqb c2 0) && ((ltb 3 n || eqb c3 0)
    && ((ltb 4 n || eqb c4 0) && ((ltb 5 n || eqb c5 0) && (ltb 6 n || eqb c6 0)))))))
tested zero c0 c1 c2 c3 c4 c5 c6 = simp and-true
tested (suc zero) c0 c1 c2 c3 c4 c5 c6 = simp and-true
tested (suc (suc zero)) c0 c1 c2 c3 c4 c5 c6 = simp and-true
tested (suc (suc (suc zero))) c0 c1 c2 c3 c4 c5 c6 = simp and-true
tested (suc (suc (suc (suc zero)))) c0 c1 c2 c3 c4 c5 c6 = simp and-true
tested (suc (suc (suc (suc (suc zero))))) c0 c1 c2 c3 c4 c5 c6 = simp and-true
tested (suc (suc (suc (suc (suc (suc zero)))))) c0 c1 c2 c3 c4 c5 c6 = simp and-true
tested (suc (suc (suc (suc (suc (suc (suc n))))))) c0 c1 c2 c3 c4 c5 c6 =
    rw (
      lt-ltb 0 (suc (suc (suc (suc (suc (suc (suc n))))))) (omega arith),
      lt-ltb 1 (suc (suc (suc (suc (suc (suc (suc n))))))) (omega arith),
      lt-ltb 2 (suc (suc (suc (suc (suc (suc (suc n))))))) (omega arith),
      lt-ltb 3 (suc (suc (suc (suc (suc (suc (suc n))))))) (omega arith),
      lt-ltb 4 (suc (suc (suc (suc (suc (suc (suc n))))))) (omega arith),
      lt-ltb 5 (suc (suc (suc (suc (suc (suc (suc n))))))) (omega arith),
      lt-ltb 6 (suc (suc (suc (suc (suc (suc (suc n))))))) (omega arith),
    ) (none n)
  where
    none : (n : ℕ) → list_all (λ b. eqb b 0) (drop n []) ≡ true
    none zero = refl
    none (suc n) = refl

pub returns : goal.returns
unfolding rest_blank
returns c =
    let p = c.args.c in
    let e : c.all.result ≡ list_all (λ b. eqb b 0) (drop p.come (p.c0 ∷ p.c1 ∷ p.c2 ∷ p.c3 ∷ p.c4 ∷ p.c5 ∷ p.c6 ∷ [])) =
    all_from_yields_List _ _ _ _ c.all.ensures.ran (YieldsList-from_skip p.come (YieldsList-at c.skip.ensures.source (YieldsList-from_slice _ cc)) cc) (λ x b q k. search (rules, tests)) in
    e ∙ tested p.come p.c0 p.c1 p.c2 p.c3 p.c4 p.c5 p.c6
