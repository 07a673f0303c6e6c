-- What a match on what is half read learns: in its `_` arm, only that the tag is one of those left. Assumes nothing.
use Prim.Native.Nat.{ℕ}
use mathlib.Core.Bool.{Bool, true, false, not, ◌&&◌, false≢true}
use mathlib.Core.List.{List, [], ◌∷◌}
use mathlib.Core.Logic.{inl, inr}
use mathlib.Core.Path.{◌≡◌, refl, ap, ◌∙◌}
use lib.Dec.{eqb}
use borrow.Author.Tests.{not-true}
use types.Run.{OneOf}
use denote.Enum.Declared.{tag_of}
use Rattle.paper.specs.contracts.Half.{the_type}
use Rattle.paper.specs.declared.Half.{Half}
use Rattle.paper.specs.declared.Half.TheVariants.{Nothing, Escape, Unit, Group, Actions, Images, Characters, Windows, Value, Rest, DownloadA, DownloadFrom, DownloadTo}
use Rattle.paper.specs.declared.Half.TheVariants.{GlyphWidth, GlyphByte, Low, High, ImageKind, ImageData, EnlargeX, EnlargeY, SelectA, WindowA, WindowB, EraseA, EraseCode}
use Rattle.laws_bytes.proofs.Tests.{both_of}
use Rattle.turns_half.specs.Halves.{is_nothing, is_image}

-- a tag is not among some
abbrev pub lacks : ℕ → List ℕ → Bool
lacks k [] = true
lacks k (n ∷ ns) = not (eqb n k) && lacks k ns

one_of : (k n : ℕ) (ns : List ℕ) (x : ℕ) → lacks k (n ∷ ns) ≡ true → OneOf (n ∷ ns) x → eqb x k ≡ false
one_of k n [] x t e = ap (λ (y : ℕ). eqb y k) e ∙ not-true (eqb n k) (both_of (not (eqb n k)) true t).0
one_of k n (m ∷ ns) x t (inl e) = ap (λ (y : ℕ). eqb y k) e ∙ not-true (eqb n k) (both_of (not (eqb n k)) (lacks k (m ∷ ns)) t).0
one_of k n (m ∷ ns) x t (inr h) = one_of k m ns x (both_of (not (eqb n k)) (lacks k (m ∷ ns)) t).1 h

-- so it is not one that is one of them
pub missed : (k : ℕ) (ns : List ℕ) (x : ℕ) → lacks k ns ≡ true → OneOf ns x → eqb x k ≡ false
missed k [] x t h = absurd h
missed k (n ∷ ns) x t h = one_of k n ns x t h

-- the tags of all that is no image's data
abbrev pub others : List ℕ
others = 0 ∷ 1 ∷ 2 ∷ 3 ∷ 4 ∷ 5 ∷ 6 ∷ 7 ∷ 8 ∷ 9 ∷ 10 ∷ 11 ∷ 12 ∷ 13 ∷ 14 ∷ 15 ∷ 16 ∷ 17 ∷ 19 ∷ 20 ∷ 21 ∷ 22 ∷ 23 ∷ 24 ∷ 25 ∷ []

-- what the `_` arm of a match that asks for an image's data learns
pub no_image : (p : Half) → OneOf others (tag_of the_type p) → is_image p ≡ false
unfolding is_image
no_image p h = missed 18 others (tag_of the_type p) refl h

-- there is one way in which nothing is half read
pub nothing_is : (h : Half) → is_nothing h ≡ true → h ≡ Nothing
unfolding is_nothing
nothing_is Nothing e = refl
nothing_is Escape e = absurd (false≢true e)
nothing_is Unit e = absurd (false≢true e)
nothing_is Group e = absurd (false≢true e)
nothing_is Actions e = absurd (false≢true e)
nothing_is Images e = absurd (false≢true e)
nothing_is Characters e = absurd (false≢true e)
nothing_is Windows e = absurd (false≢true e)
nothing_is (Value key) e = absurd (false≢true e)
nothing_is (Rest left) e = absurd (false≢true e)
nothing_is DownloadA e = absurd (false≢true e)
nothing_is DownloadFrom e = absurd (false≢true e)
nothing_is (DownloadTo from) e = absurd (false≢true e)
nothing_is (GlyphWidth d n) e = absurd (false≢true e)
nothing_is (GlyphByte d n c) e = absurd (false≢true e)
nothing_is (Low w) e = absurd (false≢true e)
nothing_is (High w low) e = absurd (false≢true e)
nothing_is (ImageKind width height) e = absurd (false≢true e)
nothing_is (ImageData width height column row) e = absurd (false≢true e)
nothing_is EnlargeX e = absurd (false≢true e)
nothing_is (EnlargeY x) e = absurd (false≢true e)
nothing_is SelectA e = absurd (false≢true e)
nothing_is WindowA e = absurd (false≢true e)
nothing_is (WindowB a) e = absurd (false≢true e)
nothing_is EraseA e = absurd (false≢true e)
nothing_is (EraseCode a) e = absurd (false≢true e)
