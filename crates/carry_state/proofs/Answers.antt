-- What a command is answered, from the tests of the papers' order: 14, 15, 11, 17, 16, or carried out; and what it does to
-- the downloads. Assumes nothing.
use mathlib.Core.Path.{◌≡◌, refl, sym, ap, ◌∙◌}
use mathlib.Core.Bool.{Bool, true, false, cond, ◌&&◌}
use mathlib.Core.List.{[]}
use Rattle.paper.specs.declared.Module.{Module}
use Rattle.paper.specs.declared.Command.{Command}
use Rattle.paper.specs.declared.Outcome.{Outcome}
use Rattle.paper.specs.declared.Outcome.TheVariants.{OutOfDomain, NotCarried, WindowHeld, TooLarge, NotDefined}
use Rattle.paper.specs.declared.State.{State}
use Rattle.paper.specs.Downloads.{Faces}
use Rattle.paper.specs.Numbers.{is_carried}
use Rattle.paper.specs.Carry.{Meaning, means, asked_of, is_held, carried_out, answers, command_of, leaves, command_store}
use Rattle.laws_state.proofs.Cases.{Allowed}
use Rattle.carry_state.specs.declared.Done.{Done}
use Rattle.carry_state.specs.Says.{Says, done}

module _ (g : Module) (font : Faces) (s : State) (c : Command) where
  -- a command that is not carried
  pub is_14 : let a = asked_of g font.store s c in a.not_carried ≡ true → command_of g font s c ≡ answers s NotCarried
  unfolding command_of
  is_14 a = rw a

  -- an owner's command while a window is held
  pub is_15 : let a = asked_of g font.store s c in
      a.not_carried ≡ false → (a.owners_only && is_held s.hold) ≡ true → command_of g font s c ≡ answers s WindowHeld
  unfolding command_of
  is_15 a b = rw (a, b)

  -- a parameter out of its domain
  pub is_11 : let a = asked_of g font.store s c in
      a.not_carried ≡ false → (a.owners_only && is_held s.hold) ≡ false → a.out_of_domain ≡ true → command_of g font s c ≡ answers s OutOfDomain
  unfolding command_of
  is_11 a b d = rw (a, b, d)

  -- a window that is not defined
  pub is_17 : let a = asked_of g font.store s c in
      a.not_carried ≡ false → (a.owners_only && is_held s.hold) ≡ false → a.out_of_domain ≡ false → a.not_defined ≡ true
      → command_of g font s c ≡ answers s NotDefined
  unfolding command_of
  is_17 a b d e = rw (a, b, d, e)

  -- a cell that exceeds the range
  pub is_16 : let a = asked_of g font.store s c in
      a.not_carried ≡ false → (a.owners_only && is_held s.hold) ≡ false → a.out_of_domain ≡ false → a.not_defined ≡ false
      → a.too_large ≡ true → command_of g font s c ≡ answers s TooLarge
  unfolding command_of
  is_16 a b d e f = rw (a, b, d, e, f)

  -- none of these
  pub is_10 : Allowed g font.store s c → command_of g font s c ≡ carried_out g font s c
  unfolding command_of
  is_10 a = rw (a.carried, a.owner, a.domain, a.defined, a.room, a.stored)

  -- ---- the downloads afterwards

  -- any answer but 10 leaves them alone
  pub store_answered : {o : Outcome} → command_of g font s c ≡ answers s o → is_carried o ≡ false → font.store ≡ command_store g font s c
  unfolding command_store
  store_answered e h = rw (e, h)

  -- and so does a command that leaves them alone when it is carried out
  pub store_same : leaves c font.store ≡ font.store → font.store ≡ command_store g font s c
  unfolding command_store
  store_same e = go (is_carried (command_of g font s c).outcome) where
    go : (t : Bool) → font.store ≡ cond t (leaves c font.store) font.store
    go true = sym e
    go false = refl

  -- a command that is carried out
  pub store_carried : command_of g font s c ≡ carried_out g font s c → is_carried (carried_out g font s c).outcome ≡ true
      → leaves c font.store ≡ command_store g font s c
  unfolding command_store
  store_carried e h = rw (e, h)

-- what ends as its meaning does says what it means
pub says : {r : Done} {t : Meaning} {s : State} {o : Outcome} → r ≡ done s o → t ≡ means s o [] → Says r t
says e f =
    record {
      state = ap (λ (d : Done). d.state) e ∙ sym (ap (λ (m : Meaning). m.state) f);
      outcome = ap (λ (d : Done). d.outcome) e ∙ sym (ap (λ (m : Meaning). m.outcome) f);
      quiet = ap (λ (m : Meaning). m.strokes) f;
    }

-- a result by an equal state
pub ends_at : {r : Done} {t u : State} {o : Outcome} → r ≡ done t o → t ≡ u → r ≡ done u o
ends_at {o = o} e f = e ∙ ap (λ (s : State). done s o) f
