-- What feeding two pieces owes to feeding them joined. Assumes nothing.
use Rattle.std.specs.Prelude.{◌≡◌, List, ℕ, ◌+◌, ◌<◌, length}
use Rattle.paper.specs.Calls.{Feeding}

-- `joined` is what feeding a piece gives at once, `second` what feeding its last bytes gives after `first`: "Over pieces the
-- counts add up to those of the joined bytes", and state, memory, downloads and, unless there are no last bytes, outcome are the second's
pub record Joined (last : List ℕ) (first second joined : Feeding) : Type 0 where
  pub refusal : joined.answer.refusal ≡ second.answer.refusal
  pub state : joined.answer.state ≡ second.answer.state
  pub mem : joined.mem ≡ second.mem
  pub store : joined.store ≡ second.store
  pub carried : joined.answer.carried ≡ first.answer.carried + second.answer.carried
  pub answered : joined.answer.answered ≡ first.answer.answered + second.answer.answered
  pub outcome : 0 < length last → joined.answer.outcome ≡ second.answer.outcome
