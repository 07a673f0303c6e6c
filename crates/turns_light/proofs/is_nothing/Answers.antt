-- `turns_light::is_nothing` meets its contract. Assumes nothing.
use mathlib.Core.List.{[], ◌∷◌}
use mathlib.Core.Path.{refl, sym}
use Rattle.turns_half.specs.Halves.{is_nothing}
use Rattle.turns_half.proofs.Halves.{missed}
use borrow.Enum.Refused.{opened}
use Rattle.turns_light.proofs.is_nothing.Goals as goal

pub returns-in-Nothing : goal.returns-in-Nothing
unfolding is_nothing
returns-in-Nothing c =
    rw c.in-Nothing.is

pub returns-in_default : goal.returns-in_default
unfolding is_nothing
returns-in_default c =
    sym (missed 0
    (1 ∷ 2 ∷ 3 ∷ 4 ∷ 5 ∷ 6 ∷ 7 ∷ 8 ∷ 9 ∷ 10 ∷ 11 ∷ 12 ∷ 13 ∷ 14 ∷ 15 ∷ 16 ∷ 17 ∷ 18 ∷ 19 ∷ 20 ∷ 21 ∷ 22 ∷ 23 ∷ 24 ∷ 25 ∷ [])
    _ refl (opened c.in_default.in_default-own.keys2))
