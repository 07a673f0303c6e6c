-- A record lent in its two parts: the state's bytes, and the downloads after them. Assumes nothing.
use Prim.Native.Nat.{ℕ, ◌-◌, ◌≤◌}
use native.Mathlib.Omega.{arith}
use mathlib.Core.Path.{◌≡◌, ap, ◌∙◌}
use mathlib.Core.List.{List, ◌++◌, append-nil}
use lib.ListN.{length, take, length-drop, drop_of_length-le}
use lib.Seq.{length-take-le, take_all, drop_at}
use borrow.Rule.Slice.PartMut.{mid_of, put_mid, take_put}
use Rattle.record_bytes.specs.Bytes.{state_length, record_length}
use Rattle.record_read.specs.Record.{store_in}

-- the record with these in the downloads' place
abbrev pub with_store : List ℕ → List ℕ → List ℕ
with_store l ds = put_mid state_length (length l - state_length) l ds

module _ (l : List ℕ) (h : length l ≡ record_length) where
  -- the first part is as long as a state
  pub state_long : length (take state_length l) ≡ state_length
  state_long = length-take-le state_length l (omega (arith, h))

  store_end : length (store_in l) ≤ length l - state_length
  store_end = omega (arith, length-drop state_length l)

  -- what is lent from there on is the downloads
  pub store_lent : mid_of state_length (length l - state_length) l ≡ store_in l
  store_lent = take_all (length l - state_length) (store_in l) store_end

  -- others in their place leave the state's bytes
  pub store_put : (ds : List ℕ) → with_store l ds ≡ take state_length l ++ ds
  store_put ds =
      ap (λ (x : List ℕ). take state_length l ++ (ds ++ x)) (drop_of_length-le (store_in l) store_end)
      ∙ ap (λ (x : List ℕ). take state_length l ++ x) (append-nil ds)

  pub state_still : (ds : List ℕ) → length (take state_length (with_store l ds)) ≡ state_length
  state_still ds = ap length (take_put state_length (length l - state_length) l ds (omega (arith, h))) ∙ state_long

  -- and are then the record's
  pub store_in_lem : (ds : List ℕ) → store_in (with_store l ds) ≡ ds
  store_in_lem ds = ap store_in (store_put ds) ∙ drop_at (take state_length l) ds state_length state_long
