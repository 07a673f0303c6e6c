-- What a caller may do with a panel that he feeds and looks at: pieces and refreshes in any order, what they come to, and what
-- each refresh then has to move. Assumes nothing.
use Rattle.std.specs.Prelude.{List, [], ◌∷◌, ◌++◌, ℕ, ◌+◌, take}
use Rattle.paper.specs.declared.Module.{Module}
use Rattle.paper.specs.declared.Span.{Span}
use Rattle.paper.specs.declared.Refusal.{Refusal}
use Rattle.paper.specs.declared.State.{State}
use Rattle.paper.specs.Panel.{glass_length}
use Rattle.paper.specs.Downloads.{faces}
use Rattle.paper.specs.Strokes.{Stroke, no_spans, mark_all, shown_all}
use Rattle.paper.specs.Carry.{Meaning, byte_means, byte_store}
use Rattle.paper.specs.Calls.{settled, feed_call, refresh_call}

-- "any bytes, cut anywhere, with refreshes anywhere between"
pub data Event : Type 0 where
  piece : List ℕ → Event
  refresh : Event

-- the joined bytes
abbrev pub joined : List Event → List ℕ
joined [] = []
joined (piece bs ∷ es) = bs ++ joined es
joined (refresh ∷ es) = joined es

-- ---- what calls in a row come to, S being how a state is held and A what a call answers

-- state, memory and glass at the end, the counts summed, what each refresh moved and what each call answered, in their order
pub record Play (S A : Type 0) : Type 0 where
  pub state : S
  pub mem : List ℕ
  pub glass : List ℕ
  pub carried : ℕ
  pub answered : ℕ
  pub moved : List ℕ
  pub answers : List A

module _ {S A : Type 0} where
  -- nothing is done
  abbrev pub resting : S → List ℕ → List ℕ → Play S A
  resting s m glass =
      record { state = s; mem = m; glass = glass; carried = 0; answered = 0; moved = []; answers = [] }

  -- a feed that answered r with counts c and n, and what came after it
  abbrev pub fed_then : A → ℕ → ℕ → Play S A → Play S A
  fed_then r c n p =
      record {
        state = p.state;
        mem = p.mem;
        glass = p.glass;
        carried = c + p.carried;
        answered = n + p.answered;
        moved = p.moved;
        answers = r ∷ p.answers;
      }

  -- a refresh that answered r and moved n bytes, and what came after it
  abbrev pub refreshed_then : A → ℕ → Play S A → Play S A
  refreshed_then r n p =
      record {
        state = p.state;
        mem = p.mem;
        glass = p.glass;
        carried = p.carried;
        answered = p.answered;
        moved = n ∷ p.moved;
        answers = r ∷ p.answers;
      }

  -- a play, and another that went on from its end
  abbrev pub followed : Play S A → Play S A → Play S A
  followed p q =
      record {
        state = q.state;
        mem = q.mem;
        glass = q.glass;
        carried = p.carried + q.carried;
        answered = p.answered + q.answered;
        moved = p.moved ++ q.moved;
        answers = p.answers ++ q.answers;
      }

-- ---- the calls

-- the state record: a state with its downloads
pub record StateRecord : Type 0 where
  pub state : State
  pub downloads : List ℕ

abbrev pub state_record : State → List ℕ → StateRecord
state_record s ds = record { state = s; downloads = ds }

-- each piece is fed and each refresh made, on what the one before left
abbrev pub play : Module → List ℕ → State → List ℕ → List ℕ → List ℕ → List Event → Play StateRecord Refusal
play g font s ds m glass [] = resting (state_record s ds) m glass
play g font s ds m glass (piece bs ∷ es) =
    let f = feed_call g font s ds m bs in
    fed_then f.answer.refusal f.answer.carried f.answer.answered
    (play g font f.answer.state f.store f.mem glass es)
play g font s ds m glass (refresh ∷ es) =
    let r = refresh_call g s ds m glass in
    refreshed_then r.answer.refusal r.answer.moved (play g font r.answer.state ds m r.glass es)

-- ---- what document 01 has written at each refresh

-- what a byte means to a state record, and what it leaves
abbrev pub meant : Module → List ℕ → StateRecord → ℕ → Meaning
meant g font q b = byte_means g (faces font q.downloads) q.state b

abbrev pub after : Module → List ℕ → StateRecord → ℕ → StateRecord
after g font q b = state_record (settled (meant g font q b)) (byte_store g (faces font q.downloads) q.state b)

-- the state record that bytes lead to, by their meaning
abbrev pub onwards : Module → List ℕ → StateRecord → List ℕ → StateRecord
onwards g font q [] = q
onwards g font q (b ∷ bs) = onwards g font (after g font q b) bs

-- all that bytes write, in order
abbrev pub strokes_of : Module → List ℕ → StateRecord → List ℕ → List Stroke
strokes_of g font q [] = []
strokes_of g font q (b ∷ bs) = (meant g font q b).strokes ++ strokes_of g font (after g font q b) bs

-- the spans of what was written since the last refresh, `since` being what was written before these events. The state goes on
-- as the joined bytes take it: no refresh changes it
abbrev pub spans_since : Module → List ℕ → StateRecord → List Stroke → List Event → List Span
spans_since g font q since [] = mark_all (no_spans g) since
spans_since g font q since (piece bs ∷ es) =
    spans_since g font (onwards g font q bs) (since ++ strokes_of g font q bs) es
spans_since g font q since (refresh ∷ es) = spans_since g font q [] es

-- "the sum of the visible span lengths", for each refresh, of what was written since the one before
abbrev pub owed : Module → List ℕ → StateRecord → List Stroke → List Event → List ℕ
owed g font q since [] = []
owed g font q since (piece bs ∷ es) = owed g font (onwards g font q bs) (since ++ strokes_of g font q bs) es
owed g font q since (refresh ∷ es) = shown_all g (mark_all (no_spans g) since) ∷ owed g font q [] es

-- "the visible memory": columns 0 to 111 are its first bytes
abbrev pub visible : Module → List ℕ → List ℕ
visible g m = take (glass_length g) m
