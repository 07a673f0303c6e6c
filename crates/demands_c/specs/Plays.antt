-- Pieces and refreshes in any order, as a caller in C makes them: one record goes from call to call. `recordIn l` is the state, with
-- its downloads, that record l stands for. Assumes nothing.
use Rattle.std.specs.Prelude.{◌≡◌, List, [], ◌∷◌, map, ℕ, length}
use Rattle.paper.specs.declared.Refusal.{Refusal}
use Rattle.paper.specs.Panel.{panel}
use Rattle.paper.specs.Numbers.{refusal_number}
use Rattle.demands.specs.Events.{Event, piece, refresh, StateRecord, state_record, Play, resting, fed_then, refreshed_then}
use Rattle.record_bytes.specs.Bytes.{record_length}
use Rattle.record_read.specs.Record.{state_in, store_in}
use Rattle.face.specs.Face.{feed_c, refresh_c}

abbrev pub record_in : List ℕ → StateRecord
record_in l = state_record (state_in l) (store_in l)

-- the state is held as a record, and a call answers a number
abbrev pub PlayC : Type 0
PlayC = Play (List ℕ) ℕ

-- each piece is fed and each refresh made, on what the one before left
abbrev pub play_c : List ℕ → List ℕ → List ℕ → List ℕ → List Event → PlayC
play_c font l m glass [] = resting l m glass
play_c font l m glass (piece bs ∷ es) =
    let f = feed_c panel l m font bs in
    fed_then f.answer.answer f.answer.carried f.answer.answered (play_c font f.state f.mem glass es)
play_c font l m glass (refresh ∷ es) =
    let r = refresh_c panel l m glass in
    refreshed_then r.answer.answer r.answer.moved (play_c font r.state m r.glass es)

-- the play c from C comes to what the play p of document 01's calls comes to: the record stands for the state with its
-- downloads, and the rest is equal
pub record SamePlay (p : Play StateRecord Refusal) (c : PlayC) : Type 0 where
  pub size : length c.state ≡ record_length
  pub state : record_in c.state ≡ p.state
  pub mem : c.mem ≡ p.mem
  pub glass : c.glass ≡ p.glass
  pub carried : c.carried ≡ p.carried
  pub answered : c.answered ≡ p.answered
  pub moved : c.moved ≡ p.moved
  pub answers : c.answers ≡ map refusal_number p.answers
