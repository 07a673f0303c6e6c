-- A chain of tests. Code groups it from the left, the paper from the right: `first e then f then .. last g` takes what each test
-- is, in order, to what the chain is. Assumes nothing.
use mathlib.Core.Path.{◌≡◌, ap, ◌∙◌}
use mathlib.Core.Bool.{Bool, ◌&&◌, and_assoc}

infixl 20 ◌then◌ ◌last◌
-- the tests so far, l, are the f of the paper before what is still to come
pub record Begins (l : Bool) (f : Bool → Bool) : Type 0 where
  pub before : (z : Bool) → (l && z) ≡ f z

pub first : {a x : Bool} → a ≡ x → Begins a (λ z. x && z)
first e = record { before = λ z. ap (λ (t : Bool). t && z) e }

pub ◌then◌ : {l a x : Bool} {f : Bool → Bool} → Begins l f → a ≡ x → Begins (l && a) (λ z. f (x && z))
◌then◌ {l} {a} {x} {f} h e =
    record { before = λ z. and_assoc l a z ∙ h.before (a && z) ∙ ap (λ (t : Bool). f (t && z)) e }

pub ◌last◌ : {l a x : Bool} {f : Bool → Bool} → Begins l f → a ≡ x → (l && a) ≡ f x
◌last◌ {l} {a} {x} {f} h e = h.before a ∙ ap f e
