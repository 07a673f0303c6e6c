-- A download's columns as they come, one after the other: those that have not come are 0. Assumes nothing.
use mathlib.Core.Path.{◌≡◌, refl, sym, ap}
use mathlib.Core.Bool.{Bool, true, false, cond, ◌&&◌, ◌||◌, or-true}
use mathlib.Core.List.{[], ◌∷◌}
use Prim.Native.Nat.{ℕ, ◌+◌, ◌<◌, ◌≤◌}
use native.Mathlib.Omega.{arith}
use lib.ListN.{get_or}
use lib.Dec.{ltb, eqb}
use borrow.Author.Tests.{ltb-true, ltb-false, lt-ltb, le-ltb, eqb-true, eqb-false}
use Rattle.paper.specs.declared.Columns.{Columns}
use Rattle.paper.specs.Reading.{with_column}
use Rattle.paper.specs.Bounds.{rest_blank, columns_ok}
use Rattle.laws_bytes.specs.Readings.{whole_columns}
use Rattle.laws_bytes.proofs.Tests.{both_of}

-- column k, which is x, has come or is 0
abbrev Comes : ℕ → ℕ → ℕ → Type 0
Comes come k x = (ltb k come || eqb x 0) ≡ true

-- all seven
abbrev pub AllCome : Columns → Type 0
AllCome c =
    Comes c.come 0 c.c0 × Comes c.come 1 c.c1 × Comes c.come 2 c.c2 × Comes c.come 3 c.c3
    × Comes c.come 4 c.c4 × Comes c.come 5 c.c5 × Comes c.come 6 c.c6

blank_facts : (c : Columns) → rest_blank c ≡ true → AllCome c
unfolding rest_blank
blank_facts c h =
    let n = c.come in
    let r0 = both_of (ltb 0 n || eqb c.c0 0) _ h in
    let r1 = both_of (ltb 1 n || eqb c.c1 0) _ r0.1 in
    let r2 = both_of (ltb 2 n || eqb c.c2 0) _ r1.1 in
    let r3 = both_of (ltb 3 n || eqb c.c3 0) _ r2.1 in
    let r4 = both_of (ltb 4 n || eqb c.c4 0) _ r3.1 in
    let r5 = both_of (ltb 5 n || eqb c.c5 0) _ r4.1 in
    (r0.0, r1.0, r2.0, r3.0, r4.0, r5.0, r5.1)

-- five or seven, of which one is still to come
pub columns_facts : (c : Columns) → columns_ok c ≡ true
    → ((eqb c.width 5 || eqb c.width 7) ≡ true) × (c.come < c.width) × AllCome c
unfolding columns_ok
columns_facts c h =
    let f = both_of (eqb c.width 5 || eqb c.width 7) _ h in
    let e = both_of (ltb c.come c.width) _ f.1 in
    (f.0, ltb-true c.come c.width e.0, blank_facts c e.1)

-- one that has not come
still_blank : (come k x : ℕ) → come ≤ k → Comes come k x → eqb x 0 ≡ true
still_blank come k x l h = rw (le-ltb k come l) at h

-- ---- one column more

-- column k, when b comes as the next one
comes_more : (come k b x : ℕ) → Comes come k x → Comes (come + 1) k (cond (eqb come k) b x)
comes_more come k b x h = go (ltb k come) (eqb come k) refl refl h where
  go : (t u : Bool) → ltb k come ≡ t → eqb come k ≡ u → (t || eqb x 0) ≡ true → Comes (come + 1) k (cond u b x)
  go true u e i h = let l = ltb-true k come e in rw (lt-ltb k (come + 1) (omega arith))
  go false true e i h = let m = eqb-true come k i in rw (lt-ltb k (come + 1) (omega arith))
  go false false e i h = rw h (or-true (ltb k (come + 1)))

-- all seven
all_more : (c : Columns) (b : ℕ) → AllCome c → AllCome (with_column c b)
unfolding with_column
all_more c b f = (
  comes_more c.come 0 b c.c0 f.0,
  comes_more c.come 1 b c.c1 f.1,
  comes_more c.come 2 b c.c2 f.2,
  comes_more c.come 3 b c.c3 f.3,
  comes_more c.come 4 b c.c4 f.4,
  comes_more c.come 5 b c.c5 f.5,
  comes_more c.come 6 b c.c6 f.6,
)

-- one is still to come after it
pub more_ok : (c : Columns) (b : ℕ) → columns_ok c ≡ true → ltb (c.come + 1) c.width ≡ true → columns_ok (with_column c b) ≡ true
unfolding columns_ok rest_blank with_column
more_ok c b h l =
    let f = columns_facts c h in
    let a = all_more c b f.2 in
    rw (f.0, l, a.0, a.1, a.2, a.3, a.4, a.5, a.6)

-- or they may be stored
pub whole_ok : (c : Columns) (b : ℕ) → columns_ok c ≡ true → ltb (c.come + 1) c.width ≡ false
    → whole_columns (with_column c b) ≡ true
unfolding whole_columns with_column
whole_ok c b h l =
    let f = columns_facts c h in
    go c.width (eqb c.width 5) refl f.0 (omega (arith, f.1, ltb-false (c.come + 1) c.width l)) (all_more c b f.2)
  where
    go : (w : ℕ) (t : Bool) → eqb w 5 ≡ t → (t || eqb w 7) ≡ true → c.come + 1 ≡ w → AllCome (with_column c b)
        → (eqb w 7 || (eqb w 5 && (eqb (with_column c b).c5 0 && eqb (with_column c b).c6 0))) ≡ true
    go w false e h m a = rw h
    go w true e h m a =
        let five = eqb-true w 5 e in
        rw (e, still_blank (c.come + 1) 5 _ (omega arith) a.5, still_blank (c.come + 1) 6 _ (omega arith) a.6) (or-true (eqb w 7))

-- ---- the first of the columns

-- column k
abbrev pub column_of : Columns → ℕ → ℕ
column_of c k = get_or (c.c0 ∷ c.c1 ∷ c.c2 ∷ c.c3 ∷ c.c4 ∷ c.c5 ∷ c.c6 ∷ []) k 0

-- the first n, the others still to come
abbrev pub first_of : Columns → ℕ → Columns
first_of c n =
    record {
      width = c.width;
      come = n;
      c0 = cond (ltb 0 n) c.c0 0;
      c1 = cond (ltb 1 n) c.c1 0;
      c2 = cond (ltb 2 n) c.c2 0;
      c3 = cond (ltb 3 n) c.c3 0;
      c4 = cond (ltb 4 n) c.c4 0;
      c5 = cond (ltb 5 n) c.c5 0;
      c6 = cond (ltb 6 n) c.c6 0;
    }

-- column k, when column n comes after the first n
first_column : (c : Columns) (n k : ℕ) → cond (eqb n k) (column_of c n) (cond (ltb k n) (column_of c k) 0) ≡ cond (ltb k (n + 1)) (column_of c k) 0
first_column c n k = go (eqb n k) (ltb k n) refl refl where
  go : (t u : Bool) → eqb n k ≡ t → ltb k n ≡ u
      → cond t (column_of c n) (cond u (column_of c k) 0) ≡ cond (ltb k (n + 1)) (column_of c k) 0
  go true u e i = let m = eqb-true n k e in rw (lt-ltb k (n + 1) (omega arith)) (ap (column_of c) m)
  go false true e i = let l = ltb-true k n i in rw (lt-ltb k (n + 1) (omega arith))
  go false false e i =
      let l = ltb-false k n i in
      let m = eqb-false n k e in
      rw (le-ltb k (n + 1) (omega arith))

pub first_more : (c : Columns) (n : ℕ) → with_column (first_of c n) (column_of c n) ≡ first_of c (n + 1)
unfolding with_column
first_more c n =
    rw (
      first_column c n 0,
      first_column c n 1,
      first_column c n 2,
      first_column c n 3,
      first_column c n 4,
      first_column c n 5,
      first_column c n 6,
    )

-- a column that has not come is 0
come_column : (n k x : ℕ) → Comes n k x → cond (ltb k n) x 0 ≡ x
come_column n k x h = go (ltb k n) h where
  go : (t : Bool) → (t || eqb x 0) ≡ true → cond t x 0 ≡ x
  go true h = refl
  go false h = sym (eqb-true x 0 h)

-- so as many as have come are all
pub first_all : (c : Columns) → AllCome c → first_of c c.come ≡ c
first_all c f =
    rw (
      come_column c.come 0 c.c0 f.0,
      come_column c.come 1 c.c1 f.1,
      come_column c.come 2 c.c2 f.2,
      come_column c.come 3 c.c3 f.3,
      come_column c.come 4 c.c4 f.4,
      come_column c.come 5 c.c5 f.5,
      come_column c.come 6 c.c6 f.6,
    )
