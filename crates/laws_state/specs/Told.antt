-- What a call gave, as the paper's definition of the call gives it: the answer beside what the call was lent. Assumes nothing.
use Rattle.std.specs.Prelude.{List, ℕ}
use Rattle.paper.specs.declared.Answer.{Answer}
use Rattle.paper.specs.declared.Fed.{Fed}
use Rattle.paper.specs.declared.Refreshed.{Refreshed}
use Rattle.paper.specs.Calls.{Starting, Feeding, Refreshing}

-- start: the answer, the memory and the downloads
abbrev pub started : Answer → List ℕ → List ℕ → Starting
started a m ds = record { answer = a; mem = m; store = ds }

-- feed: the answer, the memory and the downloads
abbrev pub fed : Fed → List ℕ → List ℕ → Feeding
fed a m ds = record { answer = a; mem = m; store = ds }

-- refresh: the answer and the glass
abbrev pub refreshed : Refreshed → List ℕ → Refreshing
refreshed a glass = record { answer = a; glass = glass }
