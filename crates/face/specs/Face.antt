-- The calls as C makes them, for any module: the state and its downloads are a record of bytes, answers and outcomes are document
-- 01's numbers. Each call is the paper's own on the state that the record stands for and the downloads in it, so its refusals and their
-- order are the paper's. Assumes nothing.
use Rattle.std.specs.Prelude.{ℕ, cond, List, ◌++◌, take, eqb}
use Rattle.paper.specs.declared.Answer.{Answer}
use Rattle.paper.specs.declared.Fed.{Fed}
use Rattle.paper.specs.declared.Module.{Module}
use Rattle.paper.specs.declared.Received.{Received}
use Rattle.paper.specs.declared.Span.{Span}
use Rattle.paper.specs.declared.State.{State}
use Rattle.paper.specs.Numbers.{refusal_number, outcome_number}
use Rattle.paper.specs.Calls.{is_not, Starting, start_call, Feeding, feed_call, hold_call, release_call, Refreshing, refresh_call}
use Rattle.paper.specs.Telegrams.{receive_call}
use Rattle.record_bytes.specs.Bytes.{state_length, record_length, spans_into, record_of}
use Rattle.record_read.specs.Record.{state_in, store_in}
use Rattle.face.specs.declared.PanelFed.{PanelFed}
use Rattle.face.specs.declared.PanelRefreshed.{PanelRefreshed}
use Rattle.face.specs.declared.PanelReceived.{PanelReceived}

-- a record of another length: no number of document 01. It is tested first
abbrev pub wrong_length : ℕ
wrong_length = 100

-- "nothing in the state changes" unless the answer is 0: the record that a call leaves where it gave this state and these downloads
unfoldable pub record_after : ℕ → State → List ℕ → List ℕ → List ℕ
record_after n s ds l = cond (eqb n 0) (record_of s ds) l

-- the same with the downloads that are in the record
abbrev pub state_after : ℕ → State → List ℕ → List ℕ
state_after n s l = record_after n s (store_in l) l

-- the same with only the spans written, which is all that a refresh changes (`spans-only` in proofs/Calls)
unfoldable pub spans_after : ℕ → List Span → List ℕ → List ℕ
spans_after n ps l = cond (eqb n 0) (spans_into (take state_length l) ps ++ store_in l) l

-- ---- start

-- what a start gave: its answer, the record and the memory
pub record StartingC : Type 0 where
  pub answer : ℕ
  pub state : List ℕ
  pub mem : List ℕ

abbrev pub starting : ℕ → List ℕ → List ℕ → StartingC
starting n l m = record { answer = n; state = l; mem = m }

-- "Start takes no state; refused, it gives the initial state with both spans empty": its record is written either way
abbrev pub starting_c : Starting → StartingC
starting_c c = starting (refusal_number c.answer.refusal) (record_of c.answer.state c.store) c.mem

unfoldable pub start_c : Module → List ℕ → List ℕ → StartingC
start_c g l m = cond (is_not record_length l) (starting wrong_length l m) (starting_c (start_call g m (store_in l)))

-- ---- feed

-- what a feed gave: its answer, the record and the memory
pub record FeedingC : Type 0 where
  pub answer : PanelFed
  pub state : List ℕ
  pub mem : List ℕ

abbrev pub feeding : PanelFed → List ℕ → List ℕ → FeedingC
feeding a l m = record { answer = a; state = l; mem = m }

abbrev pub fed : ℕ → ℕ → ℕ → ℕ → PanelFed
fed n o c a = record { answer = n; outcome = o; carried = c; answered = a }

abbrev pub fed_c : Fed → PanelFed
fed_c f = fed (refusal_number f.refusal) (outcome_number f.outcome) f.carried f.answered

abbrev pub feeding_c : List ℕ → Feeding → FeedingC
feeding_c l f =
    feeding (fed_c f.answer) (record_after (refusal_number f.answer.refusal) f.answer.state f.store l) f.mem

-- "9 .. when the call is refused"; "every count given back is 0"
unfoldable pub feed_c : Module → List ℕ → List ℕ → List ℕ → List ℕ → FeedingC
feed_c g l m font piece =
    cond (is_not record_length l) (feeding (fed wrong_length 9 0 0) l m)
    (feeding_c l (feed_call g font (state_in l) (store_in l) m piece))

-- ---- hold and release

-- what a hold or a release gave: its answer and the record
pub record CallingC : Type 0 where
  pub answer : ℕ
  pub state : List ℕ

abbrev pub calling : ℕ → List ℕ → CallingC
calling n l = record { answer = n; state = l }

abbrev pub calling_c : List ℕ → Answer → CallingC
calling_c l a = calling (refusal_number a.refusal) (state_after (refusal_number a.refusal) a.state l)

unfoldable pub hold_c : Module → List ℕ → ℕ → CallingC
hold_c g l k = cond (is_not record_length l) (calling wrong_length l) (calling_c l (hold_call g (state_in l) (store_in l) k))

unfoldable pub release_c : Module → List ℕ → CallingC
release_c g l = cond (is_not record_length l) (calling wrong_length l) (calling_c l (release_call g (state_in l) (store_in l)))

-- ---- refresh

-- what a refresh gave: its answer, the record and the glass
pub record RefreshingC : Type 0 where
  pub answer : PanelRefreshed
  pub state : List ℕ
  pub glass : List ℕ

abbrev pub refreshing : PanelRefreshed → List ℕ → List ℕ → RefreshingC
refreshing a l glass = record { answer = a; state = l; glass = glass }

abbrev pub moved : ℕ → ℕ → PanelRefreshed
moved n k = record { answer = n; moved = k }

abbrev pub refreshing_c : List ℕ → Refreshing → RefreshingC
refreshing_c l r =
    refreshing (moved (refusal_number r.answer.refusal) r.answer.moved)
    (state_after (refusal_number r.answer.refusal) r.answer.state l)
    r.glass

unfoldable pub refresh_c : Module → List ℕ → List ℕ → List ℕ → RefreshingC
refresh_c g l m glass =
    cond (is_not record_length l) (refreshing (moved wrong_length 0) l glass)
    (refreshing_c l (refresh_call g (state_in l) (store_in l) m glass))

-- ---- receive

-- document 02's order 4, which knows no state: what the caller of the piece is told
abbrev pub received_c : Received → PanelReceived
received_c r = record { answer = refusal_number r.refusal; first = r.first; count = r.count; after = r.after }

unfoldable pub receive_c : List ℕ → ℕ → PanelReceived
receive_c piece address = received_c (receive_call piece address)
