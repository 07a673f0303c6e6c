-- What the last arm of a match on a reading learns: only that its tag is one of those left. Assumes nothing.
use Prim.Native.Nat.{ℕ}
use mathlib.Core.Bool.{Bool, true, ◌||◌, false≢true}
use mathlib.Core.List.{[], ◌∷◌}
use mathlib.Core.Logic.{inl, inr}
use mathlib.Core.Path.{◌≡◌, refl, ap}
use lib.Dec.{eqb}
use types.Run.{OneOf}
use denote.Enum.Declared.{tag_of}
use Rattle.paper.specs.contracts.Reading.{the_type}
use Rattle.paper.specs.declared.Reading.{Reading}
use Rattle.paper.specs.declared.Reading.TheVariants.{More, Whole, ImageByte, ImageEnd, GlyphEnd, Cancels, UnknownCode}
use Rattle.carry_command.specs.Heavy.{heavy}

-- the tags of the two kinds of an image's byte, and of an unknown code
abbrev is_left : ℕ → Bool
is_left n = eqb n 2 || (eqb n 3 || eqb n 6)

one_of : (n : ℕ) → OneOf (2 ∷ 3 ∷ 6 ∷ []) n → is_left n ≡ true
one_of n (inl e) = ap is_left e
one_of n (inr (inl e)) = ap is_left e
one_of n (inr (inr e)) = ap is_left e

by_tag : (large : Bool) (r : Reading) → heavy large r ≡ true → is_left (tag_of the_type r) ≡ true → r ≡ UnknownCode
unfolding heavy
by_tag large (More p) h k = absurd (false≢true k)
by_tag large (Whole c) h k = absurd (false≢true k)
by_tag large (ImageByte column row b next) h k = absurd (false≢true h)
by_tag large (ImageEnd column row b) h k = absurd (false≢true h)
by_tag large (GlyphEnd d n c) h k = absurd (false≢true k)
by_tag large Cancels h k = absurd (false≢true k)
by_tag large UnknownCode h k = refl

-- no image's byte is handed in: it is an unknown code
pub is_unknown : (large : Bool) (r : Reading) → heavy large r ≡ true → OneOf (2 ∷ 3 ∷ 6 ∷ []) (tag_of the_type r) → r ≡ UnknownCode
is_unknown large r h k = by_tag large r h (one_of (tag_of the_type r) k)
