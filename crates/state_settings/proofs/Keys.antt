-- The derived `==` of a key, at the two keys that are asked for. Assumes nothing.
use mathlib.Core.Bool.{◌&&◌}
use mathlib.Core.Path.{◌≡◌, refl}
use Prim.Native.Nat.{ℕ}
use denote.Enum.Bare.{sameb}
use Rattle.paper.specs.contracts.Key.{the_type}
use Rattle.paper.specs.declared.Key.{Key}
use Rattle.paper.specs.declared.Key.TheVariants.{Charset, Codes, Caret, Brightness, Reverse, Speed, Mixing, Width, Write, Switch}
use Rattle.paper.specs.Reading.{between}
use Rattle.paper.specs.Carry.{not_carried_value, is_write}

-- a key is the write mode's where the paper says so
pub same_write : (k : Key) → sameb the_type k Write ≡ is_write k
unfolding is_write
same_write Charset = refl
same_write Codes = refl
same_write Caret = refl
same_write Brightness = refl
same_write Reverse = refl
same_write Speed = refl
same_write Mixing = refl
same_write Width = refl
same_write Write = refl
same_write Switch = refl

-- a value is not carried where it is one of a width, 2 or 3
pub same_width : (k : Key) (n : ℕ) → (sameb the_type k Width && between 2 3 n) ≡ not_carried_value k n
unfolding not_carried_value
same_width Charset n = refl
same_width Codes n = refl
same_width Caret n = refl
same_width Brightness n = refl
same_width Reverse n = refl
same_width Speed n = refl
same_width Mixing n = refl
same_width Width n = refl
same_width Write n = refl
same_width Switch n = refl
