-- A rectangle of a memory changed: `rectMap` of the paper. A change f makes f j r b of the byte b at the rectangle's
-- column j and row r. Assumes nothing.
use mathlib.Core.Path.{◌≡◌, refl, sym, ap, ap₂, subst, ◌∙◌}
use mathlib.Core.List.{List}
use Prim.Native.Nat.{ℕ, ◌+◌, ◌-◌, ◌<◌, ◌≤◌}
use native.Mathlib.Nat.{le_antisymm}
use native.Mathlib.Omega.{arith}
use lib.Dec.{T}
use lib.ListN.{length, get_or, set, length-set}
use lib.Seq.{get_or-set_same, get_or-set_other}
use Rattle.paper.specs.declared.Module.{Module}
use Rattle.paper.specs.declared.Rect.{Rect}
use Rattle.paper.specs.Panel.{address, column_of, row_of}
use Rattle.paper.specs.Strokes.{among, rect_at, in_rect, rect_map}
use Rattle.laws_memory.specs.Rectangles.{Bytes}
use Rattle.laws_memory.proofs.Tests.{test_cases, lt_cases, cond_yes, cond_no, cond_cases, and_i, and_0, and_1, among_facts, among_test}
use Rattle.laws_memory.proofs.Addresses.{column_at_lem, row_at, at_place}
use Rattle.laws_memory.proofs.Each.{length-each, get_or-each, each_by, each-bytes}

abbrev pub Change : Type 0
Change = ℕ → ℕ → ℕ → ℕ

-- what a change of the rectangle makes of the byte b at address a
abbrev pub changed : Module → Rect → Change → ℕ → ℕ → ℕ
changed g q f a b = f (column_of g a - q.left) (row_of g a - q.top) b

-- address a lies in the rectangle
abbrev pub InRect : Module → Rect → ℕ → Type 0
InRect g q a =
    (q.left ≤ column_of g a) × (column_of g a < q.left + q.width) × (q.top ≤ row_of g a) × (row_of g a < q.top + q.height)

module _ (g : Module) (q : Rect) (a : ℕ) where
  pub rect_facts : T (in_rect g q a) → InRect g q a
  rect_facts t =
      let x = among_facts q.left q.width (column_of g a) (and_0 (among q.left q.width (column_of g a)) (among q.top q.height (row_of g a)) t) in
      let y = among_facts q.top q.height (row_of g a) (and_1 (among q.left q.width (column_of g a)) (among q.top q.height (row_of g a)) t) in
      (x.0, x.1, y.0, y.1)

  pub rect_test : InRect g q a → T (in_rect g q a)
  rect_test i =
      and_i (among q.left q.width (column_of g a)) (among q.top q.height (row_of g a)) (among_test q.left q.width (column_of g a) (i.0, i.1))
      (among_test q.top q.height (row_of g a) (i.2, i.3))

  pub rect_cases : {P : Type 0} → (InRect g q a → P) → ((InRect g q a → ⊥) → P) → P
  rect_cases inside outside =
      test_cases (in_rect g q a) (λ t. inside (rect_facts t)) (λ t. outside (λ i. t (rect_test i)))

-- ---- one rectangle

module _ (g : Module) (q : Rect) (f : Change) (m : List ℕ) where
  pub rect_length : length (rect_map g q f m) ≡ length m
  unfolding rect_map
  rect_length = length-each _ m

  -- what stands inside afterwards
  pub rect_in : (a : ℕ) → a < length m → InRect g q a
      → get_or (rect_map g q f m) a 0 ≡ changed g q f a (get_or m a 0)
  unfolding rect_map
  rect_in a l i = get_or-each _ m a l ∙ cond_yes (in_rect g q a) _ _ (rect_test g q a i)

  -- what lies outside is unchanged
  pub rect_out : (a : ℕ) → a < length m → (InRect g q a → ⊥)
      → get_or (rect_map g q f m) a 0 ≡ get_or m a 0
  unfolding rect_map
  rect_out a l o = get_or-each _ m a l ∙ cond_no (in_rect g q a) _ _ (λ t. o (rect_facts g q a t))

  -- these three say all: a list as long, changed so inside and unchanged outside, is the rectangle changed
  pub rect_by : (l : List ℕ) → length l ≡ length m
      → ((a : ℕ) → a < length m → InRect g q a → get_or l a 0 ≡ changed g q f a (get_or m a 0))
      → ((a : ℕ) → a < length m → (InRect g q a → ⊥) → get_or l a 0 ≡ get_or m a 0)
      → l ≡ rect_map g q f m
  unfolding rect_map
  rect_by l e inside outside =
      each_by _ m l e
      (λ a k. rect_cases g q a
      (λ i. inside a k i ∙ sym (cond_yes (in_rect g q a) _ _ (rect_test g q a i)))
      (λ o. outside a k o ∙ sym (cond_no (in_rect g q a) _ _ (λ t. o (rect_facts g q a t)))))

  -- a rectangle that holds no address changes nothing
  pub rect_none : ((a : ℕ) → InRect g q a → ⊥) → m ≡ rect_map g q f m
  rect_none none = rect_by m refl (λ a l i. absurd (none a i)) (λ a l o. refl)

  -- bytes stay bytes
  pub rect_bytes : ((j r b : ℕ) → b < 256 → f j r b < 256) → Bytes m → Bytes (rect_map g q f m)
  unfolding rect_map
  rect_bytes hf hm =
      each-bytes _ m
      (λ a b hb. cond_cases (λ (v : ℕ). v < 256) (in_rect g q a) (λ t. hf _ _ b hb) (λ t. hb)) hm

  -- a place outside, in a memory of which the rectangle was changed
  pub rect_elsewhere : (cur : List ℕ) (x y : ℕ) → cur ≡ rect_map g q f m
      → y < g.rows → address g x y < length m → ((q.left ≤ x) × (x < q.left + q.width) × (q.top ≤ y) × (y < q.top + q.height) → ⊥)
      → get_or cur (address g x y) 0 ≡ get_or m (address g x y) 0
  rect_elsewhere cur x y e hy l o =
      let column = column_at_lem g x y hy in
      let row = row_at g x y hy in
      ap (λ (t : List ℕ). get_or t (address g x y) 0) e ∙ rect_out (address g x y) l (λ i. o (omega arith))

-- changes that agree inside the rectangle give the same memory
pub rect_same : (g : Module) (q : Rect) (f k : Change) (m : List ℕ)
    → ((j r : ℕ) → j < q.width → r < q.height
    → let b = get_or m (address g (q.left + j) (q.top + r)) 0 in f j r b ≡ k j r b)
    → rect_map g q f m ≡ rect_map g q k m
rect_same g q f k m e =
    rect_by g q k m (rect_map g q f m) (rect_length g q f m)
    (λ a l i. rect_in g q f m a l i ∙ agree a i) (rect_out g q f m)
  where
    agree : (a : ℕ) → InRect g q a → changed g q f a (get_or m a 0) ≡ changed g q k a (get_or m a 0)
    agree a i =
        let j = column_of g a - q.left in
        let r = row_of g a - q.top in
        subst (λ (t : ℕ). f j r (get_or m t 0) ≡ k j r (get_or m t 0))
        (sym (at_place g a (q.left + j) (q.top + r) (omega arith) (omega arith))) (e j r (omega arith) (omega arith))

-- ---- two rectangles

-- a rectangle, then another apart from it, as the one rectangle that they make up
module _ (g : Module) (q q' q'' : Rect) (f f' k : Change) where
  abbrev First : ℕ → Type 0
  First a = InRect g q a

  abbrev Second : ℕ → Type 0
  Second a = InRect g q' a

  abbrev Whole : ℕ → Type 0
  Whole a = InRect g q'' a

  rect_join : ((a : ℕ) → First a → Second a → ⊥) → ((a : ℕ) → Whole a → (First a → ⊥) → Second a)
      → ((a b : ℕ) → First a → Whole a × (changed g q f a b ≡ changed g q'' k a b))
      → ((a b : ℕ) → Second a → Whole a × (changed g q' f' a b ≡ changed g q'' k a b))
      → (m : List ℕ) → rect_map g q' f' (rect_map g q f m) ≡ rect_map g q'' k m
  rect_join apart rest first second m =
      rect_by g q'' k m (rect_map g q' f' n) (rect_length g q' f' n ∙ len)
      (λ a l i. rect_cases g q a
      (λ i₁. unchanged a l (apart a i₁) ∙ rect_in g q f m a l i₁ ∙ (first a (get_or m a 0) i₁).1)
      (λ o₁. let i₂ = rest a i o₁ in
      rect_in g q' f' n a (there a l) i₂ ∙ ap (f' _ _) (rect_out g q f m a l o₁)
      ∙ (second a (get_or m a 0) i₂).1))
      (λ a l o. unchanged a l (λ i₂. o (second a 0 i₂).0) ∙ rect_out g q f m a l (λ i₁. o (first a 0 i₁).0))
    where
      n : List ℕ
      n = rect_map g q f m

      len : length n ≡ length m
      len = rect_length g q f m

      there : (a : ℕ) → a < length m → a < length n
      there a l = rw len l

      unchanged : (a : ℕ) → a < length m → (Second a → ⊥) → get_or (rect_map g q' f' n) a 0 ≡ get_or n a 0
      unchanged a l o = rect_out g q' f' n a (there a l) o

-- side by side
pub rect_beside : (g : Module) (left top w w' h : ℕ) (f f' k : Change) (m : List ℕ)
    → ((j r b : ℕ) → j < w → r < h → f j r b ≡ k j r b)
    → ((j r b : ℕ) → j < w' → r < h → f' j r b ≡ k (w + j) r b)
    → rect_map g (rect_at (left + w) top w' h) f' (rect_map g (rect_at left top w h) f m) ≡ rect_map g (rect_at left top (w + w') h) k m
rect_beside g left top w w' h f f' k m e e' =
    rect_join g (rect_at left top w h) (rect_at (left + w) top w' h) (rect_at left top (w + w') h) f f' k (λ a i i'. omega arith)
    (λ a i o. lt_cases (column_of g a) (left + w) (λ p. absurd (o (omega arith))) (λ p. omega arith))
    (λ a b i. (omega arith, e _ _ b (omega arith) (omega arith)))
    (λ a b i. (
      omega arith,
      e' _ _ b (omega arith) (omega arith) ∙ ap (λ (j : ℕ). k j (row_of g a - top) b) (omega arith),
    )) m

-- one below the other
pub rect_below : (g : Module) (left top w h h' : ℕ) (f f' k : Change) (m : List ℕ)
    → ((j r b : ℕ) → j < w → r < h → f j r b ≡ k j r b)
    → ((j r b : ℕ) → j < w → r < h' → f' j r b ≡ k j (h + r) b)
    → rect_map g (rect_at left (top + h) w h') f' (rect_map g (rect_at left top w h) f m) ≡ rect_map g (rect_at left top w (h + h')) k m
rect_below g left top w h h' f f' k m e e' =
    rect_join g (rect_at left top w h) (rect_at left (top + h) w h') (rect_at left top w (h + h')) f f' k (λ a i i'. omega arith)
    (λ a i o. lt_cases (row_of g a) (top + h) (λ p. absurd (o (omega arith))) (λ p. omega arith))
    (λ a b i. (omega arith, e _ _ b (omega arith) (omega arith)))
    (λ a b i. (
      omega arith,
      e' _ _ b (omega arith) (omega arith) ∙ ap (λ (r : ℕ). k (column_of g a - left) r b) (omega arith),
    )) m

-- ---- one byte

-- one byte stored is a rectangle of one
pub rect_one : (g : Module) (x y : ℕ) (f : Change) (m : List ℕ) (v : ℕ) → y < g.rows → address g x y < length m
    → v ≡ f 0 0 (get_or m (address g x y) 0) → set m (address g x y) v ≡ rect_map g (rect_at x y 1 1) f m
rect_one g x y f m v hy l e =
    rect_by g (rect_at x y 1 1) f m (set m here v) (length-set m here v)
    (λ a k i. subst (λ (t : ℕ). get_or (set m here v) t 0 ≡ changed g (rect_at x y 1 1) f t (get_or m t 0))
    (sym (at_place g a x y (omega arith) (omega arith)))
    (get_or-set_same m here v 0 l ∙ e
    ∙ ap₂ (λ (j r : ℕ). f j r (get_or m here 0)) (omega (arith, column)) (omega (arith, row))))
    (λ a k o. get_or-set_other m here a v 0
    (λ p. o (let q : column_of g a ≡ x = rw p column in let q' : row_of g a ≡ y = rw p row in omega arith)))
  where
    here : ℕ
    here = address g x y

    column : column_of g here ≡ x
    column = column_at_lem g x y hy

    row : row_of g here ≡ y
    row = row_at g x y hy

-- ---- the turns of loops

-- a store at the next column of a row
pub row_turn : (g : Module) (left y j : ℕ) (f : Change) (m cur : List ℕ) (a v : ℕ) → a ≡ address g (left + j) y
    → cur ≡ rect_map g (rect_at left y j 1) f m → y < g.rows → a < length cur → v ≡ f j 0 (get_or cur a 0)
    → set cur a v ≡ rect_map g (rect_at left y (j + 1) 1) f m
row_turn g left y j f m cur a v ea e hy l ev =
    rw ea
    (rect_one g (left + j) y next cur v hy (rw ea at l)
    (rw (← ea) (ev ∙ ap (λ (i : ℕ). f i 0 (get_or cur a 0)) (omega arith)))
    ∙ ap (rect_map g (rect_at (left + j) y 1 1) next) e
    ∙ rect_beside g left y j 1 1 f next f m (λ i r b hi hr. refl) (λ i r b hi hr. refl))
  where
    next : Change
    next i r b = f (j + i) r b

-- a row more of a rectangle
pub rect_turn : (g : Module) (left top w r : ℕ) (f f' : Change) (m cur next : List ℕ) → cur ≡ rect_map g (rect_at left top w r) f m
    → next ≡ rect_map g (rect_at left (top + r) w 1) f' cur → ((j b : ℕ) → j < w → f' j 0 b ≡ f j r b)
    → next ≡ rect_map g (rect_at left top w (r + 1)) f m
rect_turn g left top w r f f' m cur next e e' h =
    e' ∙ ap (rect_map g (rect_at left (top + r) w 1) f') e
    ∙ rect_below g left top w r 1 f f' f m (λ j i b hj hi. refl)
    (λ j i b hj hi. ap (λ (i : ℕ). f' j i b) (omega arith) ∙ h j b hj ∙ ap (λ (i : ℕ). f j i b) (omega arith))

-- the loop is over
pub row_end : (g : Module) (left y j w : ℕ) (f : Change) (m cur : List ℕ) → cur ≡ rect_map g (rect_at left y j 1) f m
    → j ≤ w → w ≤ j → cur ≡ rect_map g (rect_at left y w 1) f m
row_end g left y j w f m cur e p q = e ∙ ap (λ (n : ℕ). rect_map g (rect_at left y n 1) f m) (le_antisymm p q)

pub rect_end : (g : Module) (left top w r h : ℕ) (f : Change) (m cur : List ℕ) → cur ≡ rect_map g (rect_at left top w r) f m
    → r ≤ h → h ≤ r → cur ≡ rect_map g (rect_at left top w h) f m
rect_end g left top w r h f m cur e p q = e ∙ ap (λ (n : ℕ). rect_map g (rect_at left top w n) f m) (le_antisymm p q)
