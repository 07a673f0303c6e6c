-- What an erase comes to, by its answer. Assumes nothing.
use mathlib.Core.Path.{◌≡◌, refl, sym, ap, ◌∙◌}
use mathlib.Core.Bool.{Bool, true, false, cond, not}
use mathlib.Core.List.{List}
use Prim.Native.Nat.{ℕ}
use Rattle.paper.specs.declared.Module.{Module}
use Rattle.paper.specs.declared.Command.TheVariants.{Erase}
use Rattle.paper.specs.declared.Outcome.{Outcome}
use Rattle.paper.specs.declared.Outcome.TheVariants.{Carried, OutOfDomain, WindowHeld, NotStored}
use Rattle.paper.specs.declared.State.{State}
use Rattle.paper.specs.Numbers.{is_carried}
use Rattle.paper.specs.Downloads.{Faces, is_stored, erased}
use Rattle.paper.specs.Carry.{Meaning, is_held, erasable, asks, carried_out, answers, command_of, leaves, command_store}
use Rattle.carry_state.specs.declared.Done.{Done}
use Rattle.carry_state.specs.Says.{done}
use Rattle.carry_state.proofs.Answers.{says}
use Rattle.carry_store.specs.Stores.{StoresCommand}
use Rattle.downloads_answer.specs.Answers.{erase_answer, erased_if}

module _ (g : Module) (f : Faces) (s : State) (a code : ℕ) where
  -- it leaves the state alone, whatever it is answered: 15 while held, then 11, then 19
  erase_answered : command_of g f s (Erase a code) ≡ answers s (erase_answer (is_held s.hold) f.store a code)
  unfolding command_of asks carried_out
  erase_answered = go (is_held s.hold) (erasable a code) (is_stored f.store code) where
    go : (h e t : Bool)
        → cond h (answers s WindowHeld) (cond (not e) (answers s OutOfDomain) (cond (not t) (answers s NotStored) (answers s Carried)))
        ≡ answers s (cond h WindowHeld (cond (not e) OutOfDomain (cond t Carried NotStored)))
    go true e t = refl
    go false false t = refl
    go false true true = refl
    go false true false = refl

  -- and the downloads are those that it leaves so answered
  pub stores_erase : {r : Done} {held : Bool} {o : Outcome} {ds : List ℕ} → r ≡ done s o → held ≡ is_held s.hold
      → o ≡ erase_answer held f.store a code → ds ≡ erased_if held f.store a code → StoresCommand g f s (Erase a code) r ds
  unfolding command_store leaves
  stores_erase e h k d =
      record {
        says = says (e ∙ ap (λ (o : Outcome). done s o) (k ∙ ap (λ (t : Bool). erase_answer t f.store a code) h)) erase_answered;
        store =
            d
            ∙ ap (λ (t : Bool). erased_if t f.store a code) h
            ∙ sym (ap (λ (m : Meaning). cond (is_carried m.outcome) (erased f.store code) f.store) erase_answered);
      }
