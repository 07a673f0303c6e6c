-- The marked case of order 4, and cases of our own, as one statement: `MarkedTelegrams`. Its proof is in proofs/Cases. Assumes nothing.
use Rattle.std.specs.Prelude.{◌≡◌, List, [], ◌∷◌, ◌++◌, ℕ, replicate}
use Rattle.paper.specs.declared.Received.{Received}
use Rattle.paper.specs.declared.Refusal.TheVariants.{Accepted, NoSuchAddress, NoTelegram}
use Rattle.paper.specs.Telegrams.{nothing, receive_call, data_of}

-- "02h 03h 01h 41h 03h 42h"
abbrev pub the_case : List ℕ
the_case = 0x02 ∷ 0x03 ∷ 0x01 ∷ 0x41 ∷ 0x03 ∷ 0x42 ∷ []

-- the same for all, and for address 20
abbrev pub for_all : List ℕ
for_all = 0x02 ∷ 0xFF ∷ 0x01 ∷ 0x41 ∷ 0x03 ∷ 0xBE ∷ []

abbrev pub for_twenty : List ℕ
for_twenty = 0x02 ∷ 0x14 ∷ 0x01 ∷ 0x41 ∷ 0x03 ∷ 0x55 ∷ []

-- a telegram for 5 whose data are the case, with this check byte: 02h is the right one
abbrev pub around : ℕ → List ℕ
around check = 0x02 ∷ 0x05 ∷ 0x06 ∷ (the_case ++ 0x03 ∷ check ∷ [])

-- one of so many data bytes, each 41h, whose length byte is n
abbrev pub long : ℕ → ℕ → List ℕ
long n check = 0x02 ∷ 0x03 ∷ n ∷ (replicate n 0x41 ++ 0x03 ∷ check ∷ [])

abbrev pub found : ℕ → ℕ → ℕ → Received
found first count after = record { refusal = Accepted; first = first; count = count; after = after }

pub record MarkedTelegrams : Type 0 where
  -- "Case: 02h 03h 01h 41h 03h 42h for address 3 gives 41h", and the place after it is 6
  pub case_found : receive_call the_case 3 ≡ found 3 1 6
  pub its_data : data_of the_case (receive_call the_case 3) ≡ 0x41 ∷ []
  -- for another address it is passed; an address above 15 is answered first
  pub not_ours : receive_call the_case 4 ≡ nothing NoTelegram
  pub no_address : receive_call the_case 16 ≡ nothing NoSuchAddress
  pub no_byte : receive_call the_case 259 ≡ nothing NoSuchAddress
  pub no_piece : receive_call [] 3 ≡ nothing NoTelegram
  -- FFh is for every address; 16 to 254 are nobody's here, and are passed
  pub to_all : receive_call for_all 9 ≡ found 3 1 6
  pub to_none : receive_call (for_twenty ++ the_case) 3 ≡ found 9 1 12
  -- the inside of a good one is not searched, that of a broken one is
  pub inside_good : receive_call (around 0x02) 3 ≡ nothing NoTelegram
  pub inside_broken : receive_call (around 0x00) 3 ≡ found 6 1 9
  -- one cut off by the piece is not good
  pub cut_off : receive_call (0x02 ∷ 0x03 ∷ 0x01 ∷ 0x41 ∷ 0x03 ∷ []) 3 ≡ nothing NoTelegram
  -- 02h 02h: the second begins one
  pub twice_begun : receive_call (0x02 ∷ the_case) 3 ≡ found 4 1 7
  -- lengths 00h and 81h are none, 80h is
  pub of_none : receive_call (0x02 ∷ 0x03 ∷ 0x00 ∷ 0x03 ∷ 0x02 ∷ []) 3 ≡ nothing NoTelegram
  pub of_128 : receive_call (long 0x80 0x82) 3 ≡ found 3 128 133
  pub of_129 : receive_call (long 0x81 0xC2) 3 ≡ nothing NoTelegram
