-- Which telegrams a piece has for an address, said without the search, and what one call after another gives. Assumes nothing.
use Rattle.std.specs.Prelude.{ℕ, zero, suc, ◌+◌, ◌<◌, ◌≤◌, ◌≡◌, ◌↔◌, ◌⊎◌, true, cond, List, [], ◌∷◌, ◌++◌, length, get_or, drop}
use Rattle.paper.specs.declared.Received.{Received}
use Rattle.paper.specs.Numbers.{refusal_number}
use Rattle.paper.specs.Calls.{is_accepted}
use Rattle.paper.specs.Telegrams.{after_at, good, ours, found_at, receive_call, data_of}

-- ---- which places count

-- The places that are tried, one after another: "A good telegram for another address is passed as a whole and its inside not
-- searched", and so is one of ours by the call that reads on; from a place that is not good the next is tried.
unfoldable pub tried : List ℕ → ℕ → ℕ
tried piece zero = 0
tried piece (suc k) =
    let p = tried piece k in cond (good piece p) (after_at piece p) (p + 1)

-- "a place counts only outside such"
abbrev pub Counts : List ℕ → ℕ → Type 0
Counts piece p = (k : ℕ) × (tried piece k ≡ p)

-- a telegram for the address stands at place p
pub record Stands (address : ℕ) (piece : List ℕ) (p : ℕ) : Type 0 where
  pub counts : Counts piece p
  pub is_good : good piece p ≡ true
  pub is_ours : ours address piece p ≡ true

-- ---- what one call answers

-- what is found is the telegram at the first place that has one
pub record First (address : ℕ) (piece : List ℕ) (f : Received) : Type 0 where
  pub place : ℕ
  pub stands : Stands address piece place
  pub no_earlier : (p : ℕ) → Stands address piece p → place ≤ p
  pub is_found : f ≡ found_at piece place

pub record ReceiveAnswers (piece : List ℕ) (address : ℕ) : Type 0 where
  -- "our address 0 to 15 (else 20)", and "20 is tested first"
  pub number_20 : (refusal_number (receive_call piece address).refusal ≡ 20) ↔ (15 < address)
  -- "Answer 21 exactly if no place in the piece has one"
  pub number_21 : (refusal_number (receive_call piece address).refusal ≡ 21)
      ↔ ((address ≤ 15) × ((p : ℕ) → Stands address piece p → ⊥))
  pub number_0 : (refusal_number (receive_call piece address).refusal ≡ 0)
      ↔ ((address ≤ 15) × ((p : ℕ) × Stands address piece p))
  -- "the first place from which a good telegram can be read, ours or FFh"
  pub found : refusal_number (receive_call piece address).refusal ≡ 0 → First address piece (receive_call piece address)
  -- "With 20 or 21 the part handed back is empty and the place is 0"
  pub empty : (refusal_number (receive_call piece address).refusal ≡ 0 → ⊥)
      → (data_of piece (receive_call piece address) ≡ []) × ((receive_call piece address).after ≡ 0)

-- what is handed back lies in the piece, between the telegram's 02h and its 03h
pub record Lies (piece : List ℕ) (f : Received) : Type 0 where
  pub place : ℕ
  pub begins : get_or piece place 0 ≡ 0x02
  pub first : f.first ≡ place + 3
  pub ends : get_or piece (f.first + f.count) 0 ≡ 0x03
  pub after : f.after ≡ f.first + f.count + 2
  pub inside : f.after ≤ length piece
  pub as_many : length (data_of piece f) ≡ f.count
  pub some : 1 ≤ f.count
  pub few : f.count ≤ 0x80

-- ---- one call after another

-- what was found in the rest of a piece from place p on, with its places counted in the whole
abbrev pub further : ℕ → Received → Received
further p f = record { refusal = f.refusal; first = p + f.first; count = f.count; after = p + f.after }

-- calls on the rest of the piece, each from the place after what the one before found, until one finds nothing; n at most
unfoldable pub read_by : ℕ → ℕ → List ℕ → ℕ → List Received
read_by zero address piece p = []
read_by (suc n) address piece p =
    let f = receive_call (drop p piece) address in
    cond (is_accepted f.refusal) (further p f ∷ read_by n address piece (p + f.after)) []

-- as many as find one: a piece has no more telegrams than bytes
unfoldable pub read_all : ℕ → List ℕ → List Received
read_all address piece = read_by (length piece) address piece 0

-- each begins where the one before has ended, or further on: its 02h lies three bytes before its data
abbrev pub InOrder : ℕ → List Received → Type 0
InOrder p [] = Unit
InOrder p (f ∷ fs) = (p + 3 ≤ f.first) × InOrder f.after fs

-- f is one of them
abbrev pub Among : Received → List Received → Type 0
Among f [] = ⊥
Among f (g ∷ gs) = (f ≡ g) ⊎ Among f gs

-- reading on gives the telegrams of the piece for the address, in order and none twice
pub record ReadsAll (address : ℕ) (piece : List ℕ) : Type 0 where
  pub in_order : InOrder 0 (read_all address piece)
  pub each_stands : (f : Received) → Among f (read_all address piece) → (p : ℕ) × Stands address piece p × (f ≡ found_at piece p)
  pub all_read : (p : ℕ) → Stands address piece p → Among (found_at piece p) (read_all address piece)

-- their data, joined
abbrev pub joined : List ℕ → List Received → List ℕ
joined piece [] = []
joined piece (f ∷ fs) = data_of piece f ++ joined piece fs
