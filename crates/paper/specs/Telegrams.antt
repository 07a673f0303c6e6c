-- Document 02, order 4, "Addressed telegrams, receiving" (document 000, 3.6.2): what a good telegram is, which of a received piece's
-- is found, and what is handed back. Places count from 0. Assumes nothing.
use Rattle.std.specs.Prelude.{ℕ, zero, suc, ◌+◌, ◌-◌, ◌≡◌, Bool, cond, ◌&&◌, ◌||◌, List, [], ◌∷◌, length, get_or, take, drop, leb, ltb, eqb}
use Rattle.std.specs.Int.Bits.{bit_xor}
use Rattle.std.specs.Borrow.{Bor}
use Rattle.paper.specs.declared.Refusal.{Refusal}
use Rattle.paper.specs.declared.Refusal.TheVariants.{Accepted, NoSuchAddress, NoTelegram}
use Rattle.paper.specs.declared.Received.{Received}
use Rattle.paper.specs.Numbers.{refusal_number}

-- ---- "02h, address, length 01h to 80h, that many data bytes, 03h, then the exclusive or of all bytes from 02h to 03h"

-- n bytes of a piece from place p on
abbrev pub part : List ℕ → ℕ → ℕ → List ℕ
part piece p n = take n (drop p piece)

-- of a telegram at place p: its address, how many data bytes it has, the place of its check byte, and the place after it
abbrev pub address_at : List ℕ → ℕ → ℕ
address_at piece p = get_or piece (p + 1) 0

abbrev pub count_at : List ℕ → ℕ → ℕ
count_at piece p = get_or piece (p + 2) 0

abbrev pub check_at : List ℕ → ℕ → ℕ
check_at piece p = p + count_at piece p + 4

abbrev pub after_at : List ℕ → ℕ → ℕ
after_at piece p = p + count_at piece p + 5

-- the exclusive or of s and of all the bytes
abbrev pub folded : ℕ → List ℕ → ℕ
folded s [] = s
folded s (b ∷ bs) = folded (bit_xor s b) bs

-- 02h, the length and 03h are a telegram's, and the piece has its check byte too: one that is cut off is none
unfoldable pub framed : List ℕ → ℕ → Bool
framed piece p =
    eqb (get_or piece p 0) 0x02 && (leb 1 (count_at piece p) && (leb (count_at piece p) 0x80
    && (ltb (check_at piece p) (length piece) && eqb (get_or piece (p + count_at piece p + 3) 0) 0x03)))

-- a good telegram can be read from place p
unfoldable pub good : List ℕ → ℕ → Bool
good piece p =
    framed piece p && eqb (folded 0 (part piece p (count_at piece p + 4))) (get_or piece (check_at piece p) 0)

-- ---- "find the first place from which a good telegram can be read, ours or FFh"

-- of the n places from p on, the first from which a good telegram can be read; the place after them if there is none
unfoldable pub first_of : ℕ → List ℕ → ℕ → ℕ
first_of zero piece p = p
first_of (suc n) piece p = cond (good piece p) p (first_of n piece (p + 1))

-- of all places from p on
unfoldable pub first_good : List ℕ → ℕ → ℕ
first_good piece p = first_of (length piece - p) piece p

-- "ours or FFh"
abbrev pub ours : ℕ → List ℕ → ℕ → Bool
ours address piece p = eqb (address_at piece p) address || eqb (address_at piece p) 0xFF

-- the data of a telegram at place p, "with the place after it"
abbrev pub found_at : List ℕ → ℕ → Received
found_at piece p = record { refusal = Accepted; first = p + 3; count = count_at piece p; after = after_at piece p }

-- "With 20 or 21 the part handed back is empty and the place is 0"
abbrev pub nothing : Refusal → Received
nothing r = record { refusal = r; first = 0; count = 0; after = 0 }

-- The search from place p on, over at most n telegrams: "A good telegram for another address is passed as a whole and its inside
-- not searched; a place counts only outside such." "Answer 21 exactly if no place in the piece has one."
unfoldable pub searched : ℕ → ℕ → List ℕ → ℕ → Received
searched zero address piece p = nothing NoTelegram
searched (suc n) address piece p =
    let q = first_good piece p in
    cond (leb (length piece) q) (nothing NoTelegram)
    (cond (ours address piece q) (found_at piece q) (searched n address piece (after_at piece q)))

-- a piece has fewer telegrams than bytes
unfoldable pub search_from : ℕ → List ℕ → ℕ → Received
search_from address piece p = searched (length piece) address piece p

-- "Given a received piece and our address 0 to 15 (else 20)"; "20 is tested first"
unfoldable pub receive_call : List ℕ → ℕ → Received
receive_call piece address = cond (leb address 15) (search_from address piece 0) (nothing NoSuchAddress)

-- ---- "and hand its data back as the caller's own bytes"

-- the data
abbrev pub data_of : List ℕ → Received → List ℕ
data_of piece f = part piece f.first f.count

-- r is the part of s that starts at first: at its place in memory, and no copy
pub record OwnPart (s r : Bor (List ℕ)) (first count : ℕ) : Type 0 where
  pub there : r.ref_ptr ≡ (s.ref_ptr.0, first + s.ref_ptr.1)
  pub bytes : r.now ≡ part s.now first count

-- what the caller of a received piece has: the number, the place after, and the data
pub record Receives (piece : Bor (List ℕ)) (f : Received) (answer after : ℕ) (r : Bor (List ℕ)) : Type 0 where
  pub answered : answer ≡ refusal_number f.refusal
  pub goes_on : after ≡ f.after
  pub own : OwnPart piece r f.first f.count
