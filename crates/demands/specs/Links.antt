-- Document 02, order 4: "Feeding the data follows demand 2." What a link's telegrams come to when their data are fed, each as it was found.
-- Assumes nothing.
use Rattle.std.specs.Prelude.{◌≡◌, List, [], ◌∷◌, ℕ, ◌+◌}
use Rattle.std.specs.Borrow.{Bor}
use Rattle.paper.specs.declared.Module.{Module}
use Rattle.paper.specs.declared.Received.{Received}
use Rattle.paper.specs.declared.State.{State}
use Rattle.paper.specs.Calls.{Feeding, feeding, feed_call}
use Rattle.paper.specs.Telegrams.{receive_call, data_of, Receives}
use Rattle.laws_telegrams.specs.Places.{read_all, joined}

-- one piece more, fed after what was fed, and its counts added
abbrev pub fed_more : Module → List ℕ → Feeding → List ℕ → Feeding
fed_more g font f bytes =
    let h = feed_call g font f.answer.state f.store f.mem bytes in
    feeding h.answer.refusal h.answer.state (f.answer.carried + h.answer.carried)
    (f.answer.answered + h.answer.answered) h.answer.outcome h.mem h.store

-- the data of each telegram, one after another
abbrev pub fed_each : Module → List ℕ → Feeding → List ℕ → List Received → Feeding
fed_each g font f link [] = f
fed_each g font f link (t ∷ ts) = fed_each g font (fed_more g font f (data_of link t)) link ts

pub record LinkFed (g : Module) (font : List ℕ) (s : State) (ds m : List ℕ) (address : ℕ) : Type 0 where
  -- the part r that a call hands back is fed like the same bytes in any other buffer b
  pub alike : (piece r b : Bor (List ℕ)) (answer after : ℕ) → Receives piece (receive_call piece.now address) answer after r
      → b.now ≡ data_of piece.now (receive_call piece.now address) → feed_call g font s ds m r.now ≡ feed_call g font s ds m b.now
  -- all telegrams of a link, read on from the place after each, come to what their joined data come to, counts summed
  pub link : (bytes : List ℕ) → fed_each g font (feed_call g font s ds m []) bytes (read_all address bytes)
      ≡ feed_call g font s ds m (joined bytes (read_all address bytes))
