-- Document 02, order 2, "Our own lane symbols", as one statement over every font: `Lanes font`. Its proof is `lanes` in proofs/Lanes.
-- Assumes nothing.
use Rattle.std.specs.Prelude.{◌≡◌, false, List, [], ◌∷◌, ◌++◌, ℕ, zero, suc, ◌+◌}
use Rattle.paper.specs.Panel.{panel}
use Rattle.paper.specs.Numbers.{refusal_number}
use Rattle.paper.specs.Downloads.{is_stored}
use Rattle.paper.specs.Calls.{Feeding, feed_call, release_call}
use Rattle.laws_marked.specs.Marked.{begun, fresh_state, ◌of◌, fed, fed_over, answers_to, rows, glyph, cursor_set, window_one, held, fed_held}

-- ---- pieces

-- the switch on; w = 0; the cursor on the lower row; a new panel
abbrev pub switch_on : List ℕ
switch_on = 0x1B ∷ 0x25 ∷ 1 ∷ []

abbrev pub narrow : List ℕ
narrow = 0x1F ∷ 0x28 ∷ 0x67 ∷ 0x03 ∷ 0 ∷ []

abbrev pub lower : List ℕ
lower = cursor_set 0 0 1 0

abbrev pub initialise : List ℕ
initialise = 0x1B ∷ 0x40 ∷ []

-- a define of the codes from first to last; the erase of a code
abbrev pub define : ℕ → ℕ → List ℕ
define first last = 0x1B ∷ 0x26 ∷ 1 ∷ first ∷ last ∷ []

abbrev pub erase : ℕ → List ℕ
erase code = 0x1B ∷ 0x3F ∷ 1 ∷ code ∷ []

-- five columns and seven, as bytes of a define; each has dots in its lowest bit
abbrev pub five : List ℕ
five = 5 ∷ 0x81 ∷ 0x43 ∷ 0x25 ∷ 0x19 ∷ 0xFF ∷ []

abbrev pub seven : List ℕ
seven = 7 ∷ 0x81 ∷ 0x43 ∷ 0x25 ∷ 0x19 ∷ 0xFF ∷ 0x18 ∷ 0x3D ∷ []

-- n times
abbrev pub times : ℕ → List ℕ → List ℕ
times zero l = []
times (suc n) l = l ++ times n l

-- the places of n codes from `code` on, each with those five columns
abbrev pub places_of : ℕ → ℕ → List ℕ
places_of code zero = []
places_of code (suc n) = code ∷ five ++ 0 ∷ 0 ∷ places_of (suc code) n

-- 23h defined with columns and the switch on; then what follows, and 23h drawn
abbrev pub drawn : List ℕ → List ℕ → List ℕ
drawn columns before = define 0x23 0x23 ++ columns ++ switch_on ++ before ++ 0x23 ∷ []

-- seventeen codes, 30h to 40h
abbrev pub seventeen : List ℕ
seventeen = define 0x30 0x40 ++ times 17 five

-- what is stored after a piece, and what a piece came to after another
abbrev pub stored : List ℕ → List ℕ → List ℕ
stored font piece = (fed font piece).store

abbrev pub Counts : Feeding → ℕ → ℕ → Type 0
Counts f carried answered = (f.answer.carried ≡ carried) × (f.answer.answered ≡ answered)

-- the answer to an empty feed of the fresh state with these downloads
abbrev pub answer_with : List ℕ → List ℕ → ℕ
answer_with font ds = refusal_number (feed_call panel font fresh_state ds begun.mem []).answer.refusal

-- ---- the order

pub record Lanes (font : List ℕ) : Type 0 where
  -- "5 columns draw like a font glyph": the upper seven bits; on the upper row the blank dot below, on the lower above; w = 1 one blank
  -- column on each side, w = 0 one on the right
  pub five_upper : (b : ℕ) → (fed_over b font (drawn five [])).mem
      ≡ rows (0 ∷ 0x80 ∷ 0x42 ∷ 0x24 ∷ 0x18 ∷ 0xFE ∷ 0 ∷ 505 of b) (512 of b)
  pub five_lower : (b : ℕ) → (fed_over b font (drawn five lower)).mem
      ≡ rows (512 of b) (0 ∷ 0x40 ∷ 0x21 ∷ 0x12 ∷ 0x0C ∷ 0x7F ∷ 0 ∷ 505 of b)
  pub five_narrow : (b : ℕ) → (fed_over b font (drawn five narrow)).mem
      ≡ rows (0x80 ∷ 0x42 ∷ 0x24 ∷ 0x18 ∷ 0xFE ∷ 0 ∷ 506 of b) (512 of b)
  pub five_narrow_lower : (b : ℕ) → (fed_over b font (drawn five (narrow ++ lower))).mem
      ≡ rows (512 of b) (0x40 ∷ 0x21 ∷ 0x12 ∷ 0x0C ∷ 0x7F ∷ 0 ∷ 506 of b)
  -- "7 columns fill the cell without blanks, all 8 dots tall, the left 6 only when w = 0", on either row
  pub seven_upper : (b : ℕ) → (fed_over b font (drawn seven [])).mem
      ≡ rows (0x81 ∷ 0x43 ∷ 0x25 ∷ 0x19 ∷ 0xFF ∷ 0x18 ∷ 0x3D ∷ 505 of b) (512 of b)
  pub seven_lower : (b : ℕ) → (fed_over b font (drawn seven lower)).mem
      ≡ rows (512 of b) (0x81 ∷ 0x43 ∷ 0x25 ∷ 0x19 ∷ 0xFF ∷ 0x18 ∷ 0x3D ∷ 505 of b)
  pub seven_narrow : (b : ℕ) → (fed_over b font (drawn seven narrow)).mem
      ≡ rows (0x81 ∷ 0x43 ∷ 0x25 ∷ 0x19 ∷ 0xFF ∷ 0x18 ∷ 506 of b) (512 of b)
  pub seven_narrow_lower : (b : ℕ) → (fed_over b font (drawn seven (narrow ++ lower))).mem
      ≡ rows (512 of b) (0x81 ∷ 0x43 ∷ 0x25 ∷ 0x19 ∷ 0xFF ∷ 0x18 ∷ 506 of b)
  -- the switch off draws the font, and so does a code that is not stored
  pub switched_off : (b : ℕ) → (fed_over b font (define 0x41 0x41 ++ five ++ 0x41 ∷ [])).mem
      ≡ rows (0 ∷ glyph font ++ 0 ∷ 505 of b) (512 of b)
  pub not_stored : (b : ℕ) → (fed_over b font (define 0x23 0x23 ++ seven ++ switch_on ++ 0x41 ∷ [])).mem
      ≡ rows (0 ∷ glyph font ++ 0 ∷ 505 of b) (512 of b)
  -- "The switch takes 0 or 1 .. else 11"
  pub switch_2 : answers_to (fed font (0x1B ∷ 0x25 ∷ 2 ∷ [])) ≡ 11
  -- "Each is stored when its last byte arrives": not before, and then at once
  pub one_to_come : stored font (define 0x23 0x23 ++ 5 ∷ 0x81 ∷ 0x43 ∷ 0x25 ∷ 0x19 ∷ []) ≡ 144 of 0
  pub last_byte : stored font (define 0x23 0x24 ++ five) ≡ places_of 0x23 1 ++ 135 of 0
  -- "A code already stored is replaced", in its place
  pub replaced : stored font (define 0x23 0x24 ++ five ++ five ++ define 0x23 0x23 ++ seven)
      ≡ 0x23 ∷ seven ++ places_of 0x24 1 ++ 126 of 0
  -- "A new code with 16 stored is read and dropped; a define read to its end answers 18 exactly if one of its codes was dropped, and
  -- its other codes stay stored"; "18 and 19 belong to the second count"
  pub dropped :
      (answers_to (fed font seventeen) ≡ 18) × Counts (fed font seventeen) 0 1 × (stored font seventeen ≡ places_of 0x30 16)
  -- with 16 stored a define of these is carried out, and one that drops a code and then replaces one is answered 18
  pub full :
      (answers_to (fed font (seventeen ++ define 0x30 0x3F ++ times 16 five)) ≡ 10)
      × (answers_to (fed font (seventeen ++ define 0x2F 0x30 ++ five ++ seven)) ≡ 18)
      × (stored font (seventeen ++ define 0x2F 0x30 ++ five ++ seven) ≡ 0x30 ∷ seven ++ places_of 0x31 15)
  -- an erased code is absent: 19, and nothing changes; "erased room is used again"
  pub erased :
      (answers_to (fed font (seventeen ++ erase 0x35)) ≡ 10)
      × (is_stored (stored font (seventeen ++ erase 0x35)) 0x35 ≡ false)
      × (answers_to (fed font (seventeen ++ erase 0x35 ++ erase 0x35)) ≡ 19)
      × Counts (fed font (seventeen ++ erase 0x35 ++ erase 0x35)) 1 2
      × (stored font (seventeen ++ erase 0x35 ++ erase 0x35) ≡ stored font (seventeen ++ erase 0x35))
      × (answers_to (fed font (seventeen ++ erase 0x35 ++ define 0x40 0x40 ++ five)) ≡ 10)
      × (stored font (seventeen ++ erase 0x35 ++ define 0x40 0x40 ++ five) ≡ places_of 0x30 5 ++ places_of 0x40 1 ++ places_of 0x36 10)
  -- "erase takes a of 1 and a code of 20h or more; else 11", tested before 19
  pub erase-domain :
      (answers_to (fed font (0x1B ∷ 0x3F ∷ 2 ∷ 0x23 ∷ [])) ≡ 11) × (answers_to (fed font (erase 0x1F)) ≡ 11)
      × (answers_to (fed font (erase 0x20)) ≡ 19)
  -- a define that is cancelled keeps what it had stored
  pub cancelled :
      (answers_to (fed font (define 0x23 0x24 ++ five ++ 6 ∷ [])) ≡ 12)
      × (stored font (define 0x23 0x24 ++ five ++ 6 ∷ []) ≡ places_of 0x23 1 ++ 135 of 0)
  -- "Initialise erases all", and turns the switch off
  pub initialised :
      (stored font (drawn five [] ++ initialise) ≡ 144 of 0)
      × ((fed font (drawn five [] ++ initialise)).answer.state.settings.switch ≡ 0)
  -- "While held, define and erase are answered 15 and store or erase nothing"
  pub held_define : (b : ℕ) →
      (answers_to (fed_held b font window_one (define 0x23 0x24 ++ five ++ seven)) ≡ 15)
      × ((fed_held b font window_one (define 0x23 0x24 ++ five ++ seven)).store ≡ 144 of 0)
  pub held_erase : (b : ℕ) →
      (answers_to (fed_held b font (window_one ++ define 0x23 0x23 ++ five) (erase 0x23)) ≡ 15)
      × ((fed_held b font (window_one ++ define 0x23 0x23 ++ five) (erase 0x23)).store ≡ places_of 0x23 1 ++ 135 of 0)
  -- a hold drops the rest of a define, and what it had stored stays
  pub held_half : (b : ℕ) →
      (refusal_number (held font (window_one ++ define 0x23 0x24 ++ five ++ 5 ∷ [])).refusal ≡ 0)
      × (answers_to (fed_held b font (window_one ++ define 0x23 0x24 ++ five ++ 5 ∷ []) (0x41 ∷ [])) ≡ 10)
      × ((fed_held b font (window_one ++ define 0x23 0x24 ++ five ++ 5 ∷ []) (0x41 ∷ [])).store ≡ places_of 0x23 1 ++ 135 of 0)
  -- "the switch is a setting and is saved like the others"
  pub switch_saved : (b : ℕ) →
      let guest = fed_held b font window_one switch_on in
      (guest.answer.state.settings.switch ≡ 1)
      × ((release_call panel guest.answer.state guest.store).state.settings.switch ≡ 0)
  -- "number 8 gains a code twice or below 20h, a width not 5 or 7"
  pub bounds :
      (answer_with font (places_of 0x20 16) ≡ 0)
      × (answer_with font (places_of 0x23 1 ++ places_of 0x23 1 ++ 126 of 0) ≡ 8)
      × (answer_with font (places_of 0x1F 1 ++ 135 of 0) ≡ 8)
      × (answer_with font (0x23 ∷ 6 ∷ 142 of 0) ≡ 8)
