-- `cells_tall::put_both` meets its contract: a column after the other, as many as are asked for. Assumes nothing.
use mathlib.Core.Path.{◌≡◌, refl, ap, ◌∙◌}
use mathlib.Core.Logic.{◌≢◌}
use mathlib.Core.Bool.{Bool}
use mathlib.Core.List.{List}
use Prim.Native.Nat.{ℕ, suc, ◌+◌, ◌*◌, ◌<◌, ◌≤◌}
use native.Mathlib.Omega.{arith}
use lib.ListN.{get_or, set}
use Rattle.laws_laid.specs.Laid.{pair_turn, stacked}
use Rattle.laws_laid.proofs.Laid.{turned_more, reach_1, reach_2, reach_3, reach_4}
use Rattle.glyphs_columns.specs.declared.Repeat.{Repeat}
use Rattle.cells_tall.specs.Both.{both_stroke}
use Rattle.cells_tall.proofs.put_both.Goals as goal

-- a column more
more : (flip : Bool) (z s a w w' at : ℕ) (m m₁ m₂ : List ℕ) → m₁ ≡ stacked (both_stroke flip (λ j. z)) s a w m → at ≡ a + s * w
    → w' ≡ suc w → m₂ ≡ stacked (both_stroke flip (λ j. z)) 2 at 1 m₁ → m₂ ≡ stacked (both_stroke flip (λ j. z)) s a w' m
more flip z s a w w' at m m₁ m₂ e ea ew q =
    let here : at + 2 * 0 ≡ a + s * w = omega (arith, ea) in
    turned_more (pair_turn (both_stroke flip (λ j. z)) s a) w w' m m₁ m₂ e ew
    (q ∙ ap (λ (b : ℕ). set (set m₁ b (both_stroke flip (λ j. z) 0 w (get_or m₁ b 0))) (b + 1) (both_stroke flip (λ j. z) 1 w (get_or m₁ (b + 1) 0))) here)

-- there is room for each, in a memory as long as at first
module _ (a : ℕ) (to : Repeat) (len : ℕ) (pre : (a + 1 + to.step * to.times < len + to.step) × (len ≤ 65536)) where
  room-1 : (a + 1 < len) × (len ≤ 65536)
  room-1 = (reach_1 (a + 1) to.step to.times len pre.0 to.some, pre.1)

  room-2 : (l : ℕ) → l ≡ len → to.times ≢ 1 → (a + to.step + 1 < l) × (l ≤ 65536)
  room-2 l e n₁ = (omega (arith, e, reach_2 (a + 1) to.step to.times len pre.0 (omega (arith, to.some))), omega (arith, e))

  room-3 : (l : ℕ) → l ≡ len → to.times ≢ 1 → to.times ≢ 2 → (a + to.step + to.step + 1 < l) × (l ≤ 65536)
  room-3 l e n₁ n₂ = (omega (arith, e, reach_3 (a + 1) to.step to.times len pre.0 (omega (arith, to.some))), omega (arith, e))

  room-4 : (l : ℕ) → l ≡ len → to.times ≢ 1 → to.times ≢ 2 → to.times ≢ 3 → (a + to.step + to.step + to.step + 1 < l) × (l ≤ 65536)
  room-4 l e n₁ n₂ n₃ = (omega (arith, e, reach_4 (a + 1) to.step to.times len pre.0 (omega (arith, to.some))), omega (arith, e))

  last-4 : to.times ≢ 1 → to.times ≢ 2 → to.times ≢ 3 → to.times ≡ 4
  last-4 n₁ n₂ n₃ = omega (arith, to.some, to.few)

-- one column, two, three and four
module _ (flip : Bool) (z s a : ℕ) (m m₁ : List ℕ) where
  one : (n : ℕ) → n ≡ 1 → m₁ ≡ stacked (both_stroke flip (λ j. z)) 2 a 1 m → m₁ ≡ stacked (both_stroke flip (λ j. z)) s a n m
  one n e = more flip z s a 0 n a m m m₁ refl (omega arith) e

  two : (n : ℕ) (m₂ : List ℕ) → n ≡ 2 → m₁ ≡ stacked (both_stroke flip (λ j. z)) s a 1 m
      → m₂ ≡ stacked (both_stroke flip (λ j. z)) 2 (a + s) 1 m₁ → m₂ ≡ stacked (both_stroke flip (λ j. z)) s a n m
  two n m₂ e p = more flip z s a 1 n (a + s) m m₁ m₂ p (omega arith) e

  three : (n : ℕ) (m₂ : List ℕ) → n ≡ 3 → m₁ ≡ stacked (both_stroke flip (λ j. z)) s a 2 m
      → m₂ ≡ stacked (both_stroke flip (λ j. z)) 2 (a + s + s) 1 m₁ → m₂ ≡ stacked (both_stroke flip (λ j. z)) s a n m
  three n m₂ e p = more flip z s a 2 n (a + s + s) m m₁ m₂ p (omega arith) e

  four : (n : ℕ) (m₂ : List ℕ) → n ≡ 4 → m₁ ≡ stacked (both_stroke flip (λ j. z)) s a 3 m
      → m₂ ≡ stacked (both_stroke flip (λ j. z)) 2 (a + s + s + s) 1 m₁ → m₂ ≡ stacked (both_stroke flip (λ j. z)) s a n m
  four n m₂ e p = more flip z s a 3 n (a + s + s + s) m m₁ m₂ p (omega arith) e

pub store-requires : goal.store-requires
store-requires c =
    room-1 c.args.a c.args.to _ c.requires

pub shape_of-mem-then-to-eq1 : goal.shape_of-mem-then-to-eq1
shape_of-mem-then-to-eq1 c =
    c.store.auto.mem

pub returns-then-to-eq1 : goal.returns-then-to-eq1
returns-then-to-eq1 c =
    let a = c.args in one a.flip a.z a.to.step a.a a.mem.now _ a.to.times c.if-to-eq1.true c.store.ensures

pub store-requires-2 : goal.store-requires-2
store-requires-2 c =
    room-2 c.args.a c.args.to _ c.requires _ c.store.auto.mem c.if-to-eq1.false

pub shape_of-mem-then-to-eq2 : goal.shape_of-mem-then-to-eq2
shape_of-mem-then-to-eq2 c =
    c.store-2.auto.mem ∙ c.store.auto.mem

pub returns-then-to-eq2 : goal.returns-then-to-eq2
returns-then-to-eq2 c =
    let a = c.args in
    two a.flip a.z a.to.step a.a a.mem.now _ a.to.times _ c.if-to-eq2.true (one a.flip a.z a.to.step a.a a.mem.now _ 1 refl c.store.ensures) c.store-2.ensures

pub store-requires-3 : goal.store-requires-3
store-requires-3 c =
    room-3 c.args.a c.args.to _ c.requires _ (c.store-2.auto.mem ∙ c.store.auto.mem) c.if-to-eq1.false c.if-to-eq2.false

pub shape_of-mem-then-to-eq3 : goal.shape_of-mem-then-to-eq3
shape_of-mem-then-to-eq3 c =
    c.store-3.auto.mem ∙ c.store-2.auto.mem ∙ c.store.auto.mem

pub returns-then-to-eq3 : goal.returns-then-to-eq3
returns-then-to-eq3 c =
    let a = c.args in
    three a.flip a.z a.to.step a.a a.mem.now _ a.to.times _ c.if-to-eq3.true
    (two a.flip a.z a.to.step a.a a.mem.now _ 2 _ refl (one a.flip a.z a.to.step a.a a.mem.now _ 1 refl c.store.ensures) c.store-2.ensures) c.store-3.ensures

pub store-requires-4 : goal.store-requires-4
store-requires-4 c =
    room-4 c.args.a c.args.to _ c.requires _ (c.store-3.auto.mem ∙ c.store-2.auto.mem ∙ c.store.auto.mem)
    c.if-to-eq1.false c.if-to-eq2.false c.if-to-eq3.false

pub shape_of-mem : goal.shape_of-mem
shape_of-mem c =
    c.store-4.auto.mem ∙ c.store-3.auto.mem ∙ c.store-2.auto.mem ∙ c.store.auto.mem

pub returns : goal.returns
returns c =
    let a = c.args in
    four a.flip a.z a.to.step a.a a.mem.now _ a.to.times _ (last-4 a.a a.to _ c.requires c.if-to-eq1.false c.if-to-eq2.false c.if-to-eq3.false)
    (three a.flip a.z a.to.step a.a a.mem.now _ 3 _ refl (two a.flip a.z a.to.step a.a a.mem.now _ 2 _ refl (one a.flip a.z a.to.step a.a a.mem.now _ 1 refl c.store.ensures) c.store-2.ensures) c.store-3.ensures)
    c.store-4.ensures
