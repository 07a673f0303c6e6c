-- The glass: what a refresh makes of it, row by row, and what it counts. Assumes nothing.
use mathlib.Core.Path.{◌≡◌, refl, sym, ap, ◌∙◌}
use mathlib.Core.Bool.{Bool, cond}
use mathlib.Core.List.{List, [], ◌∷◌, ◌++◌}
use Prim.Native.Nat.{ℕ, zero, suc, ◌+◌, ◌*◌, ◌/◌, ◌<◌, ◌≤◌}
use native.Mathlib.Nat.{add_assoc, add-zero, zero-add, le-mul_of_pos_right, mul_comm}
use native.Mathlib.Numerals.{add-one}
use native.Mathlib.Omega.{arith}
use lib.Dec.{T, leb, ltb, leb→le, ltb→lt, le→leb, lt→ltb}
use lib.ListN.{length, get_or, set, take, length-set, length-take, get_or-eq_default}
use lib.Seq.{take-suc, get_or-take, get_or-set_same, get_or-set_other}
use Rattle.paper.specs.declared.Module.{Module}
use Rattle.paper.specs.declared.Span.{Span}
use Rattle.paper.specs.Panel.{column_of, row_of, glass_length}
use Rattle.paper.specs.Strokes.{among, rect_at, no_span, span_holds, refreshed, shown, shown_all}
use Rattle.laws_memory.specs.Glass.{Shows, copied, copied_from}
use Rattle.laws_memory.proofs.Tests.{Among, test_cases, eq_cases, cond_yes, cond_no, and_i, and_0, and_1, among_facts, among_test}
use Rattle.laws_memory.proofs.Addresses.{at_place, column-lt}
use Rattle.laws_memory.proofs.Each.{length-each, get_or-each, each_by}
use Rattle.laws_memory.proofs.Rects.{rect_length, rect_in, rect_out}

-- ---- the columns of a span

abbrev pub Holds : Span → ℕ → Type 0
Holds p x = (p.first ≤ x) × (x < p.end)

module _ (p : Span) (x : ℕ) where
  pub span_facts : T (span_holds p x) → Holds p x
  span_facts t = (
    leb→le p.first x (and_0 (leb p.first x) (ltb x p.end) t),
    ltb→lt x p.end (and_1 (leb p.first x) (ltb x p.end) t),
  )

  pub span_test : Holds p x → T (span_holds p x)
  span_test h = and_i (leb p.first x) (ltb x p.end) (le→leb p.first x h.0) (lt→ltb x p.end h.1)

-- x is one of the visible columns of a span
abbrev Seen : Module → Span → ℕ → Type 0
Seen g p x = (p.first ≤ x) × (x < p.first + shown g p)

module _ (g : Module) (p : Span) where
  -- a visible column of a span is visible
  pub shown-lt : (j : ℕ) → j < shown g p → p.first + j < g.visible
  unfolding shown
  shown-lt j h = omega arith

  pub shown-le : shown g p ≤ g.visible
  unfolding shown
  shown-le = omega arith

  -- the visible columns of a span are those of its columns that are visible
  seen_holds : (x : ℕ) → Seen g p x → Holds p x
  unfolding shown
  seen_holds x h = omega arith

  holds_seen : (x : ℕ) → x < g.visible → Holds p x → Seen g p x
  unfolding shown
  holds_seen x v h = omega arith

-- ---- the first rows' spans

-- one span more changes no other row
take_other : (ps : List Span) (y k : ℕ) → (k ≡ y → ⊥) → get_or (take (suc y) ps) k no_span ≡ get_or (take y ps) k no_span
take_other [] zero k ne = refl
take_other [] (suc y) k ne = refl
take_other (p ∷ ps) zero zero ne = absurd (ne refl)
take_other (p ∷ ps) zero (suc k) ne = refl
take_other (p ∷ ps) (suc y) zero ne = refl
take_other (p ∷ ps) (suc y) (suc k) ne = take_other ps y k (λ e. ne (ap suc e))

take_past : (ps : List Span) (y : ℕ) → get_or (take y ps) y no_span ≡ no_span
take_past ps y = get_or-eq_default (take y ps) no_span {n = y} (omega (arith, length-take y ps))

-- ---- refresh

-- the span of an address's row holds its column
module _ (g : Module) (ps : List Span) (a : ℕ) where
  abbrev pub covered : Bool
  covered = span_holds (get_or ps (row_of g a) no_span) (column_of g a)

  abbrev pub Covered : Type 0
  Covered = Holds (get_or ps (row_of g a) no_span) (column_of g a)

  pub covered_facts : T covered → Covered
  covered_facts = span_facts (get_or ps (row_of g a) no_span) (column_of g a)

  pub covered_test : Covered → T covered
  covered_test = span_test (get_or ps (row_of g a) no_span) (column_of g a)

module _ (g : Module) (m : List ℕ) (ps : List Span) (glass : List ℕ) where
  pub refreshed-length : length (refreshed g m ps glass) ≡ length glass
  unfolding refreshed
  refreshed-length = length-each _ glass

  -- a byte that a span holds is memory's
  pub refreshed_in : (a : ℕ) → a < length glass → Covered g ps a → get_or (refreshed g m ps glass) a 0 ≡ get_or m a 0
  unfolding refreshed
  refreshed_in a l h = get_or-each _ glass a l ∙ cond_yes (covered g ps a) _ _ (covered_test g ps a h)

  -- any other is as it was
  pub refreshed_out : (a : ℕ) → a < length glass → (Covered g ps a → ⊥)
      → get_or (refreshed g m ps glass) a 0 ≡ get_or glass a 0
  unfolding refreshed
  refreshed_out a l o = get_or-each _ glass a l ∙ cond_no (covered g ps a) _ _ (λ t. o (covered_facts g ps a t))

  -- these three say all
  pub refreshed_by : (l : List ℕ) → length l ≡ length glass
      → ((a : ℕ) → a < length glass → Covered g ps a → get_or l a 0 ≡ get_or m a 0)
      → ((a : ℕ) → a < length glass → (Covered g ps a → ⊥) → get_or l a 0 ≡ get_or glass a 0)
      → l ≡ refreshed g m ps glass
  unfolding refreshed
  refreshed_by l e inside outside =
      each_by _ glass l e
      (λ a k. test_cases (covered g ps a)
      (λ t. inside a k (covered_facts g ps a t) ∙ sym (cond_yes (covered g ps a) _ _ t))
      (λ t. outside a k (λ h. t (covered_test g ps a h)) ∙ sym (cond_no (covered g ps a) _ _ t)))

-- no span, no change
pub refreshed_none : (g : Module) (m glass : List ℕ) → glass ≡ refreshed g m [] glass
refreshed_none g m glass = refreshed_by g m [] glass glass refl (λ a l h. absurd (omega arith)) (λ a l o. refl)

-- ---- one row

module _ (g : Module) (m : List ℕ) (y : ℕ) (p : Span) (glass : List ℕ) where
  copied-length : length (copied g m y p glass) ≡ length glass
  unfolding copied
  copied-length = rect_length g (rect_at p.first y (shown g p) 1) _ glass

  copied_in : (a : ℕ) → a < length glass → row_of g a ≡ y → Seen g p (column_of g a)
      → get_or (copied g m y p glass) a 0 ≡ get_or m a 0
  unfolding copied
  copied_in a l e h =
      rect_in g (rect_at p.first y (shown g p) 1) _ glass a l (omega arith)
      ∙ ap (λ (t : ℕ). get_or m t 0) (sym (at_place g a _ _ (omega arith) (omega arith)))

  copied_out : (a : ℕ) → a < length glass → (row_of g a ≡ y → Seen g p (column_of g a) → ⊥)
      → get_or (copied g m y p glass) a 0 ≡ get_or glass a 0
  unfolding copied
  copied_out a l o = rect_out g (rect_at p.first y (shown g p) 1) _ glass a l (λ i. o (omega arith) (i.0, i.1))

refreshed_more : (g : Module) (m : List ℕ) (ps : List Span) (y : ℕ) (glass : List ℕ) → length glass ≡ glass_length g
    → copied g m y (get_or ps y no_span) (refreshed g m (take y ps) glass) ≡ refreshed g m (take (suc y) ps) glass
refreshed_more g m ps y glass size =
    refreshed_by g m (take (suc y) ps) glass (copied g m y p cur) (copied-length g m y p cur ∙ len)
    (λ a l h. eq_cases (row_of g a) y
    (λ e. copied_in g m y p cur a (there a l) e (holds_seen g p (column_of g a) (visible a l) (rw (own a e) at h)))
    (λ ne. elsewhere a l ne ∙ refreshed_in g m (take y ps) glass a l (rw (take_other ps y (row_of g a) ne) at h)))
    (λ a l o. eq_cases (row_of g a) y
    (λ e. copied_out g m y p cur a (there a l) (λ e' i. o (rw (own a e) (seen_holds g p (column_of g a) i)))
    ∙ refreshed_out g m (take y ps) glass a l (λ h. nothing a (rw (e, take_past ps y) at h)))
    (λ ne. elsewhere a l ne ∙ refreshed_out g m (take y ps) glass a l (λ h. o (rw (take_other ps y (row_of g a) ne) h))))
  where
    p : Span
    p = get_or ps y no_span

    cur : List ℕ
    cur = refreshed g m (take y ps) glass

    len : length cur ≡ length glass
    len = refreshed-length g m (take y ps) glass

    there : (a : ℕ) → a < length glass → a < length cur
    there a l = rw len l

    visible : (a : ℕ) → a < length glass → column_of g a < g.visible
    visible a l = column-lt g a g.visible (omega arith)

    own : (a : ℕ) → row_of g a ≡ y → get_or (take (suc y) ps) (row_of g a) no_span ≡ p
    own a e = rw e (get_or-take (suc y) ps y no_span (omega arith))

    elsewhere : (a : ℕ) → a < length glass → (row_of g a ≡ y → ⊥) → get_or (copied g m y p cur) a 0 ≡ get_or cur a 0
    elsewhere a l ne = copied_out g m y p cur a (there a l) (λ e i. ne e)

    nothing : (a : ℕ) → Holds no_span (column_of g a) → ⊥
    nothing a h = omega arith

-- a turn of the refresh: one row more
pub refreshed-turn : (g : Module) (m : List ℕ) (ps : List Span) (y : ℕ) (glass cur next : List ℕ)
    → length glass ≡ glass_length g → cur ≡ refreshed g m (take y ps) glass → next ≡ copied g m y (get_or ps y no_span) cur
    → next ≡ refreshed g m (take (y + 1) ps) glass
refreshed-turn g m ps y glass cur next size e e' = e' ∙ rw (e, add-one) (refreshed_more g m ps y glass size)

-- ---- bytes side by side

module _ (m : List ℕ) (from : ℕ) (glass : List ℕ) where
  -- what so many bytes from there on are to be
  abbrev byte_of : ℕ → ℕ → ℕ → ℕ
  byte_of count a b = cond (among from count a) (get_or m a 0) b

  -- no byte, no change
  pub bytes_none : glass ≡ copied_from m from 0 glass
  unfolding copied_from
  bytes_none =
      each_by (byte_of 0) glass glass refl
      (λ a k. sym (cond_no (among from 0 a) _ _ (λ t. let i = among_facts from 0 a t in omega arith)))

  -- a byte that is one of them, and one that is not
  same_yes : (n k a b : ℕ) → T (among from n a) → T (among from k a) → byte_of n a b ≡ byte_of k a b
  same_yes n k a b t u = cond_yes (among from n a) _ _ t ∙ sym (cond_yes (among from k a) _ _ u)

  same_no : (n k a b : ℕ) → (T (among from n a) → ⊥) → (T (among from k a) → ⊥) → byte_of n a b ≡ byte_of k a b
  same_no n k a b t u = cond_no (among from n a) _ _ t ∙ sym (cond_no (among from k a) _ _ u)

  -- one byte more
  pub bytes-turn : (count : ℕ) (cur next : List ℕ) → from + count < length glass → cur ≡ copied_from m from count glass
      → next ≡ set cur (from + count) (get_or m (from + count) 0) → next ≡ copied_from m from (count + 1) glass
  unfolding copied_from
  bytes-turn count cur next l e e' = each_by (byte_of (count + 1)) glass next (ap length e' ∙ length-set cur here _ ∙ len) each-byte
    where
      here : ℕ
      here = from + count

      len : length cur ≡ length glass
      len = ap length e ∙ length-each (byte_of count) glass

      each-byte : (a : ℕ) → a < length glass → get_or next a 0 ≡ byte_of (count + 1) a (get_or glass a 0)
      each-byte a k =
          ap (λ (t : List ℕ). get_or t a 0) e'
          ∙ eq_cases a here
          (λ p. rw p (get_or-set_same cur here (get_or m here 0) 0 (omega (arith, len))
          ∙ sym (cond_yes (among from (count + 1) here) _ _ (among_test from (count + 1) here (omega arith)))))
          (λ p. get_or-set_other cur here a _ 0 p
          ∙ ap (λ (t : List ℕ). get_or t a 0) e
          ∙ get_or-each (byte_of count) glass a k
          ∙ test_cases (among from count a)
          (λ t. let i = among_facts from count a t in same_yes count (count + 1) a _ t (among_test from (count + 1) a (omega arith)))
          (λ t. same_no count (count + 1) a _ t
          (λ u. let i = among_facts from (count + 1) a u in t (among_test from count a (omega arith)))))

-- two rows with one span: their bytes stand side by side
pub refreshed_both : (g : Module) (m : List ℕ) (p : Span) (glass cur : List ℕ) → g.rows ≡ 2 → length glass ≡ glass_length g
    → cur ≡ copied_from m (2 * p.first) (2 * shown g p) glass → cur ≡ refreshed g m (p ∷ p ∷ []) glass
unfolding copied_from
refreshed_both g m p glass cur two size e =
    refreshed_by g m (p ∷ p ∷ []) glass cur (ap length e ∙ length-each (byte_of m from glass count) glass)
    (λ a l h. was a l ∙ cond_yes (among from count a) _ _ (among_test from count a (inside a l h)))
    (λ a l o. was a l ∙ cond_no (among from count a) _ _ (λ t. o (outside a l (among_facts from count a t))))
  where
    from : ℕ
    from = 2 * p.first

    count : ℕ
    count = 2 * shown g p

    was : (a : ℕ) → a < length glass → get_or cur a 0 ≡ byte_of m from glass count a (get_or glass a 0)
    was a l = ap (λ (t : List ℕ). get_or t a 0) e ∙ get_or-each (byte_of m from glass count) glass a l

    -- either row has the span
    own : (y : ℕ) → y < 2 → get_or (p ∷ p ∷ []) y no_span ≡ p
    own zero h = refl
    own (suc zero) h = refl
    own (suc (suc y)) h = absurd (omega arith)

    span_at_lem : (a : ℕ) → get_or (p ∷ p ∷ []) (row_of g a) no_span ≡ p
    span_at_lem a = own (row_of g a) (rw two (omega arith))

    column : (a : ℕ) → column_of g a ≡ a / 2
    column a = rw two refl

    visible : (a : ℕ) → a < length glass → a / 2 < g.visible
    visible a l = omega (arith, column a, column-lt g a g.visible (omega arith))

    inside : (a : ℕ) → a < length glass → Covered g (p ∷ p ∷ []) a → Among from count a
    inside a l h =
        let held : Holds p (a / 2) = rw (span_at_lem a, column a) at h in
        let seen = holds_seen g p (a / 2) (visible a l) held in
        (omega arith, omega arith)

    outside : (a : ℕ) → a < length glass → Among from count a → Covered g (p ∷ p ∷ []) a
    outside a l i = rw (span_at_lem a, column a) (seen_holds g p (a / 2) (omega arith, omega arith))

-- ---- what a refresh counts

shown-append : (g : Module) (ps qs : List Span) → shown_all g (ps ++ qs) ≡ shown_all g ps + shown_all g qs
shown-append g [] qs = sym (zero-add (shown_all g qs))
shown-append g (p ∷ ps) qs =
    ap (λ (n : ℕ). shown g p + n) (shown-append g ps qs) ∙ sym (add_assoc (shown g p) (shown_all g ps) (shown_all g qs))

-- one row more
pub shown-turn : (g : Module) (ps : List Span) (y moved n : ℕ) → y < length ps → moved ≡ shown_all g (take y ps)
    → n ≡ shown g (get_or ps y no_span) → moved + n ≡ shown_all g (take (y + 1) ps)
shown-turn g ps y moved n hy e e' =
    rw (e, e', add-one, take-suc ps y no_span hy, shown-append)
    (ap (λ (n : ℕ). shown_all g (take y ps) + n) (sym (add-zero (shown g (get_or ps y no_span)))))

-- "224 at most": no more than the glass has
pub shown_most : (g : Module) (ps : List Span) → shown_all g ps ≤ length ps * g.visible
shown_most g [] = omega arith
shown_most g (p ∷ ps) = omega (arith, shown-le g p, shown_most g ps)

-- few enough that a count of them fits a number
pub visible_small : (g : Module) (m glass : List ℕ) → 0 < g.rows → Shows g m glass → g.visible ≤ 65536
visible_small g m glass h k =
    omega (arith, rw (mul_comm g.columns g.rows) at (le-mul_of_pos_right g.columns h), k.fits.small)
