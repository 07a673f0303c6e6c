-- What a command comes to that leaves the downloads alone, whatever it is answered. Assumes nothing.
use mathlib.Core.Path.{◌≡◌, refl}
use mathlib.Core.Bool.{true, false}
use mathlib.Core.List.{List}
use mathlib.Core.Logic.{◌⊎◌, inl, inr}
use Prim.Native.Nat.{ℕ}
use Rattle.paper.specs.declared.Module.{Module}
use Rattle.paper.specs.declared.Command.{Command}
use Rattle.paper.specs.declared.Command.TheVariants.{Character, Back, Tab, LineFeed}
use Rattle.paper.specs.declared.Outcome.{Outcome}
use Rattle.paper.specs.declared.Outcome.TheVariants.{TooLarge}
use Rattle.paper.specs.declared.State.{State}
use Rattle.paper.specs.Numbers.{outcome_number, is_carried}
use Rattle.paper.specs.Downloads.{Faces}
use Rattle.paper.specs.Carry.{exceeds, asks, answers, command_of, leaves, command_store}
use Rattle.carry_state.specs.declared.Done.{Done}
use Rattle.carry_state.specs.Says.{Says, done}
use Rattle.carry_state.proofs.Answers.{is_16, store_same, store_answered}
use Rattle.carry_dots.specs.Does.{Does}
use Rattle.carry_dots.proofs.Wrote.{does_answer, does_quiet}
use Rattle.carry_command.specs.Heavy.{is_cell, heavy_command}

module _ {g : Module} {m : List ℕ} {r : Done} (f : Faces) (s : State) (c : Command) (same : leaves c f.store ≡ f.store) where
  -- one that writes
  pub kept : {m' : List ℕ} → Does g m r m' (command_of g f s c) → Does g m r m' (command_of g f s c) × (f.store ≡ command_store g f s c)
  kept d = (d, store_same g f s c same)

  -- one that writes nothing
  pub kept_quiet : Says r (command_of g f s c) → Does g m r m (command_of g f s c) × (f.store ≡ command_store g f s c)
  kept_quiet d = kept (does_quiet d)

-- one that is answered other than 10
pub kept_answered : {g : Module} {m : List ℕ} {r : Done} {o : Outcome} (f : Faces) (s : State) (c : Command)
    → r ≡ done s o → command_of g f s c ≡ answers s o → is_carried o ≡ false
    → Does g m r m (command_of g f s c) × (f.store ≡ command_store g f s c)
kept_answered {g} f s c e h n = (does_answer e h, store_answered g f s c h n)

-- one that asks for a cell, which is too large
pub cell_large : {g : Module} {m : List ℕ} {r : Done} (f : Faces) (s : State) (c : Command)
    → ((x : ℕ) × (c ≡ Character x)) ⊎ ((c ≡ Back) ⊎ ((c ≡ Tab) ⊎ (c ≡ LineFeed)))
    → heavy_command (exceeds g s) c ≡ true → r ≡ done s TooLarge
    → Does g m r m (command_of g f s c) × (f.store ≡ command_store g f s c)
unfolding asks outcome_number is_cell
cell_large {g} f s c (inl p) h d =
    let e = p.1 in
    let large = is_16 g f s (Character p.0) refl refl refl refl (rw e at h) in
    rw e (kept_answered f s (Character p.0) d large refl)
cell_large {g} f s c (inr (inl e)) h d =
    let large = is_16 g f s Back refl refl refl refl (rw e at h) in rw e (kept_answered f s Back d large refl)
cell_large {g} f s c (inr (inr (inl e))) h d =
    let large = is_16 g f s Tab refl refl refl refl (rw e at h) in rw e (kept_answered f s Tab d large refl)
cell_large {g} f s c (inr (inr (inr e))) h d =
    let large = is_16 g f s LineFeed refl refl refl refl (rw e at h) in rw e (kept_answered f s LineFeed d large refl)
