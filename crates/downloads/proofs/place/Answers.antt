-- `downloads::place` meets its contract: a place is a chunk, and its code the chunk's first byte. Assumes nothing.
use Rattle.std.proofs.Common.{rules, ◌≡◌, ℕ, zero, suc, ◌<◌, ◌*◌, ◌/◌, ◌+◌, length, get_or, drop, cond, not, eqb, Bool, true, false, List, [], ◌∷◌, ◌++◌, refl, ap, sym, ◌∙◌, zero-add, add-zero}
use native.Mathlib.Omega.{arith}
use borrow.Author.Tests.{tests}
use Rattle.std.proofs.Math.Nat.{mul-suc}
use Rattle.std.specs.List.{position_or_len}
use Rattle.std.specs.declared.slice.ChunksExact.{ChunksExact}
use Rattle.std.specs.Slice.Iter.{chunks_exact_rest, chunks_exact_size, chunks_exact_steps}
use Rattle.std.proofs.Math.ListN.{get_or-append}
use Rattle.std.proofs.lemmas.List.{get_or-drop, length-append, drop_at}
use Rattle.std.proofs.Math.Seq.{drop-drop}
use Rattle.std.proofs.lemmas.Iterator.{YieldsList}
use Rattle.std.proofs.lemmas.Iterator.Splits.{YieldsList-from_shown_while}
use Rattle.std.proofs.lemmas.Iterator.Search.{position_from_yields_List}
use Rattle.paper.specs.Downloads.{place, places_in, seek}
use Rattle.laws_downloads.proofs.Places.{holds}
use Rattle.downloads.proofs.place.Goals as goal

-- the first of each m bytes, n times
abbrev codes : ℕ → ℕ → List ℕ → List ℕ
codes m zero xs = []
codes m (suc n) xs = get_or xs 0 0 ∷ codes m n (drop m xs)

length-codes : (m n : ℕ) (xs : List ℕ) → length (codes m n xs) ≡ n
length-codes m zero xs = refl
length-codes m (suc n) xs = ap suc (length-codes m n (drop m xs))

-- one chunk and then the rest
chunk_more : (m : ℕ) (xs ys zs : List ℕ) → 0 < m → xs ≡ ys ++ zs → length ys ≡ m → length xs / m ≡ suc (length zs / m)
    → codes m (length xs / m) xs ≡ get_or ys 0 0 ∷ codes m (length zs / m) zs
chunk_more m xs ys zs l e n count =
    ap (λ (k : ℕ). codes m k xs) count
    ∙ ap (λ (l : List ℕ). get_or l 0 0 ∷ codes m (length zs / m) (drop m l)) e
    ∙ rw (get_or-append ys zs 0 0 (omega arith), drop_at ys zs m n) refl

-- the first that is c stands where the paper seeks it
seek_codes : (m c : ℕ) (ds : List ℕ) (n k : ℕ) → position_or_len (λ b. eqb b c) (codes m n (drop (m * k) ds)) + k
    ≡ seek (λ j. eqb (get_or ds (m * j) 0) c) k n
seek_codes m c ds zero k = zero-add k
seek_codes m c ds (suc n) k = rw (here, next) (turn _ _ _ k (seek_codes m c ds n (suc k)))
  where
    here : get_or (drop (m * k) ds) 0 0 ≡ get_or ds (m * k) 0
    here = get_or-drop (m * k) ds 0 0 ∙ ap (λ (i : ℕ). get_or ds i 0) (add-zero (m * k))

    next : drop m (drop (m * k) ds) ≡ drop (m * suc k) ds
    next = drop-drop m (m * k) ds ∙ ap (λ (i : ℕ). drop i ds) (sym (mul-suc m k))

    turn : (t : Bool) (p q k : ℕ) → p + suc k ≡ q → cond (not t) (1 + p) 0 + k ≡ cond t k q
    turn true p q k e = omega arith
    turn false p q k e = omega arith

abbrev shown : ChunksExact ℕ → List ℕ
shown s = codes 9 (length (chunks_exact_rest s) / 9) (chunks_exact_rest s)

each_code : (s : ChunksExact ℕ) → chunks_exact_size s ≡ 9 → YieldsList chunks_exact_steps (λ x. get_or x.now 0 0) s (shown s)
each_code =
    YieldsList-from_shown_while chunks_exact_steps (λ x. get_or x.now 0 0) shown (λ s. chunks_exact_size s ≡ 9)
    (λ s t e h. length-codes 9 _ _ ∙ omega (arith, h.1.0))
    (λ s x t e h. (h.0 ∙ e, chunk_more 9 _ x.now _ (omega arith) h.1.0 (h.1.1 ∙ e) (omega (arith, ap length h.1.0, length-append x.now (chunks_exact_rest t), h.1.1))))

pub returns : goal.returns
unfolding place
returns c =
    let ds = c.args.ds.now in
    let code = c.args.code in
    let codes_are : shown c.chunks_exact.result ≡ codes 9 (places_in ds) ds = ap (λ (l : List ℕ). codes 9 (length l / 9) l) c.chunks_exact.ensures.rest in
    let at : position_or_len (λ b. eqb b code) (codes 9 (places_in ds) ds) ≡ seek (holds ds code) 0 (places_in ds) = sym (add-zero _) ∙ seek_codes 9 code ds (places_in ds) 0 in
    position_from_yields_List (λ b. eqb b code) _ _ _ c.position.ensures.ran (each_code c.chunks_exact.result c.chunks_exact.ensures.size) (λ x b q k. search (rules, tests))
    ∙ rw (codes_are, at, length-codes 9 (places_in ds) ds) refl
