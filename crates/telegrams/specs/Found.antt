-- What a search answers, as the paper lays it out. Assumes nothing.
use Rattle.std.specs.Prelude.{Result, Ok, Err}
use Rattle.paper.specs.declared.Received.{Received}
use Rattle.paper.specs.declared.Refusal.{Refusal}
use Rattle.paper.specs.declared.Refusal.TheVariants.{Accepted}
use Rattle.paper.specs.Telegrams.{nothing}
use Rattle.telegrams.specs.declared.Telegram.{Telegram}

-- a telegram is accepted
abbrev pub accepted : Telegram → Received
accepted t = record { refusal = Accepted; first = t.first; count = t.count; after = t.after }

-- with a refusal nothing is found
abbrev pub received : Result Telegram Refusal → Received
received (Ok t) = accepted t
received (Err r) = nothing r
