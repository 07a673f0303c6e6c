-- What is reached byte by byte: the same feeding in the end, an accepted state, and counts that grow by one a byte at most.
-- Assumes nothing.
use mathlib.Core.Path.{◌≡◌, refl, ◌∙◌}
use mathlib.Core.Bool.{true}
use mathlib.Core.List.{List, ◌∷◌}
use Prim.Native.Nat.{ℕ, ◌+◌, ◌≤◌}
use native.Mathlib.Omega.{arith}
use lib.ListN.{length}
use Rattle.paper.specs.declared.Module.{Module}
use Rattle.paper.specs.Bounds.{state_ok, accepted}
use Rattle.paper.specs.Carry.{byte_means}
use Rattle.paper.specs.Calls.{Feeding, faces_now, next, run}
use Rattle.laws_bytes.proofs.Counts.{one_at_most}
use Rattle.laws_state.specs.Room.{Usable}
use Rattle.laws_state.specs.Runs.{Reaches, here, byte}
use Rattle.laws_state.proofs.Accepted.{state_kept}
use Rattle.laws_state.proofs.Downloads.{store_byte_length}
use Rattle.laws_state.proofs.Records.{accepted_kept}

module _ {g : Module} {font : List ℕ} where
  -- a byte, and from what it comes to
  pub reaches_next : {x n y : Feeding} (b : ℕ) {bs rest : List ℕ} → next g font x b ≡ n → Reaches g font n bs y rest → Reaches g font x (b ∷ bs) y rest
  reaches_next {x} {n} {y} b {bs} {rest} e p = byte {x = x} {y = y} {b = b} {bs = bs} {rest = rest} (rw e p)

  -- one stretch after another
  pub reaches_on : {x y z : Feeding} {bs cs rest : List ℕ} → Reaches g font x bs y cs → Reaches g font y cs z rest → Reaches g font x bs z rest
  reaches_on here q = q
  reaches_on (byte p) q = byte (reaches_on p q)

  -- what is left is run over to the same end
  pub reaches_run : {x y : Feeding} {bs rest : List ℕ} → Reaches g font x bs y rest → run g font x bs ≡ run g font y rest
  reaches_run here = refl
  reaches_run (byte p) = reaches_run p

  -- an accepted state stays accepted, whatever its downloads
  pub reaches_state : {x y : Feeding} {bs rest : List ℕ} → Usable g → Reaches g font x bs y rest → state_ok g x.answer.state ≡ true
      → state_ok g y.answer.state ≡ true
  unfolding next
  reaches_state u here h = h
  reaches_state {x} u (byte {b = b} p) h = reaches_state u p (state_kept g u (faces_now font x) x.answer.state b h)

  -- and with its downloads
  pub reaches_accepted : {x y : Feeding} {bs rest : List ℕ} → Usable g → Reaches g font x bs y rest
      → accepted g x.answer.state x.store ≡ true → accepted g y.answer.state y.store ≡ true
  unfolding next
  reaches_accepted u here h = h
  reaches_accepted {x} u (byte {b = b} p) h = reaches_accepted u p (accepted_kept g u font x.answer.state x.store b h)

  -- the downloads stay as many bytes
  pub reaches_length : {x y : Feeding} {bs rest : List ℕ} → Reaches g font x bs y rest → length y.store ≡ length x.store
  unfolding next
  reaches_length here = refl
  reaches_length {x} (byte {b = b} p) = reaches_length p ∙ store_byte_length g (faces_now font x) x.answer.state b

  -- each byte counts once at most
  pub reaches_counts : {x y : Feeding} {bs rest : List ℕ} → Reaches g font x bs y rest
      → y.answer.carried + y.answer.answered + length rest ≤ x.answer.carried + x.answer.answered + length bs
  unfolding next
  reaches_counts here = omega arith
  reaches_counts {x} (byte {b = b} p) =
      omega (arith, reaches_counts p, one_at_most (byte_means g (faces_now font x) x.answer.state b).outcome)
