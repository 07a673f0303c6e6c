-- The marked cases of document 01, as one statement over every font: `Marked font`. Its proof is `marked` in proofs/Cases.
-- Assumes nothing.
use Rattle.std.specs.Prelude.{◌≡◌, List, [], ◌∷◌, ◌++◌, ℕ, ◌+◌, ◌*◌, ◌/◌, ◌<◌, ◌≤◌, length, get_or, replicate}
use Rattle.paper.specs.declared.Cursor.{Cursor}
use Rattle.paper.specs.declared.State.{State}
use Rattle.paper.specs.declared.Answer.{Answer}
use Rattle.paper.specs.declared.Outcome.TheVariants.{Unfinished}
use Rattle.paper.specs.declared.Refusal.TheVariants.{Accepted}
use Rattle.paper.specs.Panel.{panel}
use Rattle.paper.specs.Numbers.{outcome_number, refusal_number}
use Rattle.paper.specs.Settings.{cursor_of, cursor}
use Rattle.paper.specs.Calls.{Starting, start_call, Feeding, feeding, feed_call, hold_call, Refreshing, refresh_call}

-- ---- the words of the cases

-- a font: 1,120 bytes
pub record Font (font : List ℕ) : Type 0 where
  pub size : length font ≡ 1120
  pub bytes : (k : ℕ) → get_or font k 0 < 256

-- a fresh, refreshed panel
unfoldable pub begun : Starting
begun = start_call panel (replicate 1024 0x3C) (replicate 144 0x5A)

unfoldable pub fresh : Refreshing
fresh = refresh_call panel begun.answer.state begun.store begun.mem (replicate 224 0xC3)

abbrev pub fresh_state : State
fresh_state = fresh.answer.state

-- n columns of one byte
infixl 80 ◌of◌
abbrev pub ◌of◌ : ℕ → ℕ → List ℕ
n of b = replicate n b

-- a piece fed to a fresh, refreshed panel; and the same over a memory of any byte b: 0 in the fresh one, 255 with every dot lit
abbrev pub fed : List ℕ → List ℕ → Feeding
fed font piece = feed_call panel font fresh_state begun.store begun.mem piece

abbrev pub fed_over : ℕ → List ℕ → List ℕ → Feeding
fed_over b font piece = feed_call panel font fresh_state begun.store (1024 of b) piece

-- what a piece came to
abbrev pub answers_to : Feeding → ℕ
answers_to f = outcome_number f.answer.outcome

abbrev pub cursor_after : Feeding → Cursor
cursor_after f = cursor_of f.answer.state

abbrev pub next_refresh : Feeding → ℕ
next_refresh f = (refresh_call panel f.answer.state f.store f.mem fresh.glass).answer.moved

-- a memory by its two rows
abbrev pub rows : List ℕ → List ℕ → List ℕ
rows [] k = k
rows (a ∷ l) [] = a ∷ l
rows (a ∷ l) (b ∷ k) = a ∷ b ∷ rows l k

-- the glyph of 41h "with bit 0 cleared", its blank dot below; and with its blank dot above
abbrev pub column : List ℕ → ℕ → ℕ
column font k = get_or font (5 * 33 + k) 0

abbrev pub glyph : List ℕ → List ℕ
glyph font =
    column font 0 / 2 * 2 ∷ column font 1 / 2 * 2 ∷ column font 2 / 2 * 2 ∷ column font 3 / 2 * 2 ∷ column font 4 / 2 * 2 ∷ []

abbrev pub glyph_low : List ℕ → List ℕ
glyph_low font = column font 0 / 2 ∷ column font 1 / 2 ∷ column font 2 / 2 ∷ column font 3 / 2 ∷ column font 4 / 2 ∷ []

-- codes of characters
abbrev pub Characters : List ℕ → Type 0
Characters [] = Unit {0}
Characters (c ∷ codes) = (0x20 ≤ c) × Characters codes

-- pieces: cursor set, MD2, MD3, window 1 at (10,0) of 14 by 1
abbrev pub cursor_set : ℕ → ℕ → ℕ → ℕ → List ℕ
cursor_set x_l x_h y_l y_h = 0x1F ∷ 0x24 ∷ x_l ∷ x_h ∷ y_l ∷ y_h ∷ []

abbrev pub md2 : List ℕ
md2 = 0x1F ∷ 0x02 ∷ []

abbrev pub md3 : List ℕ
md3 = 0x1F ∷ 0x03 ∷ []

abbrev pub window_one : List ℕ
window_one = 0x1F ∷ 0x28 ∷ 0x77 ∷ 0x02 ∷ 1 ∷ 1 ∷ 10 ∷ 0 ∷ 0 ∷ 0 ∷ 14 ∷ 0 ∷ 1 ∷ 0 ∷ []

abbrev pub image : ℕ → ℕ → List ℕ
image x_l x_h = 0x1F ∷ 0x28 ∷ 0x66 ∷ 0x11 ∷ x_l ∷ x_h ∷ []

-- window 1 held after a piece that defines it
abbrev pub held : List ℕ → List ℕ → Answer
held font piece = let f = fed font piece in hold_call panel f.answer.state f.store 1

abbrev pub fed_held : ℕ → List ℕ → List ℕ → List ℕ → Feeding
fed_held b font before piece = feed_call panel font (held font before).state (fed font before).store (1024 of b) piece

-- ---- the cases

pub record Marked (font : List ℕ) : Type 0 where
  -- the fresh memory: what is said below over every byte b is said over it; and no download is stored
  pub fresh_memory : begun.mem ≡ 1024 of 0
  pub fresh_store : begun.store ≡ 144 of 0
  -- 1. Empty piece: no change, counts 0 and 0.
  pub case_1 : fed font [] ≡ feeding Accepted fresh_state 0 0 Unfinished begun.mem begun.store
  -- 2. 41h: addresses 0 and 12 become 0; 2, 4, 6, 8, 10 the glyph with bit 0 cleared; cursor (7,0); next refresh moves 7.
  pub case-2 :
      ((b : ℕ) → (fed_over b font (0x41 ∷ [])).mem ≡ rows (0 ∷ glyph font ++ 0 ∷ 505 of b) (512 of b))
      × (cursor_after (fed font (0x41 ∷ [])) ≡ cursor 7 0 1)
      × (next_refresh (fed font (0x41 ∷ [])) ≡ 7)
  -- 3. 16 characters: cursor (0,1).
  pub case_3 : (codes : List ℕ) → length codes ≡ 16 → Characters codes → cursor_after (fed font codes) ≡ cursor 0 1 1
  -- 4. Cursor set to (106,0), 41h: columns 106 to 111 of row 0 blank, glyph in row 1, cursor (7,1).
  pub case-4 :
      ((b : ℕ) → (fed_over b font (cursor_set 106 0 0 0 ++ 0x41 ∷ [])).mem
      ≡ rows (106 of b ++ 6 of 0 ++ 400 of b) (0 ∷ glyph_low font ++ 0 ∷ 505 of b))
      × (cursor_after (fed font (cursor_set 106 0 0 0 ++ 0x41 ∷ [])) ≡ cursor 7 1 1)
  -- 5. 1Fh 24h 00h 02h 00h 00h: 11, cursor (0,0). 1Fh 24h FFh 01h 01h 00h: cursor (511,1).
  pub case-5 :
      (answers_to (fed font (cursor_set 0x00 0x02 0x00 0x00)) ≡ 11)
      × (cursor_after (fed font (cursor_set 0x00 0x02 0x00 0x00)) ≡ cursor 0 0 1)
      × (cursor_after (fed font (cursor_set 0xFF 0x01 0x01 0x00)) ≡ cursor 511 1 1)
  -- 6. 1Fh 28h 66h 11h 00h 00h 0Ch: 12, then a clear; counts 1 and 1.
  pub case-6 :
      (answers_to (fed font (image 0x00 0x00)) ≡ 12)
      × ((b : ℕ) → (fed_over b font (image 0x00 0x00)).mem ≡ 1024 of b)
      × (answers_to (fed font (image 0x00 0x00 ++ 0x0C ∷ [])) ≡ 10)
      × ((b : ℕ) → (fed_over b font (image 0x00 0x00 ++ 0x0C ∷ [])).mem ≡ rows (112 of 0 ++ 400 of b) (112 of 0 ++ 400 of b))
      × ((fed font (image 0x00 0x00 ++ 0x0C ∷ [])).answer.carried ≡ 1)
      × ((fed font (image 0x00 0x00 ++ 0x0C ∷ [])).answer.answered ≡ 1)
  -- 7. Image x size 00h 02h is read on; 01h 02h cancels.
  pub case_7 : (answers_to (fed font (image 0x00 0x02)) ≡ 9) × (answers_to (fed font (image 0x01 0x02)) ≡ 12)
  -- 8. MD1, cursor (14,1), LF: by document 02, order 1, (0,0).
  pub case_8 : cursor_after (fed font (cursor_set 14 0 1 0 ++ 0x0A ∷ [])) ≡ cursor 0 0 1
  -- 9. MD2, cursor (0,1), 41h, LF: row 0 takes row 1, the glyph with its blank dot still above; row 1 zero, cursor (7,1).
  pub case-9 :
      ((b : ℕ) → (fed_over b font (md2 ++ cursor_set 0 0 1 0 ++ 0x41 ∷ 0x0A ∷ [])).mem
      ≡ rows (0 ∷ glyph_low font ++ 0 ∷ 505 of b) (112 of 0 ++ 400 of b))
      × (cursor_after (fed font (md2 ++ cursor_set 0 0 1 0 ++ 0x41 ∷ 0x0A ∷ [])) ≡ cursor 7 1 2)
  -- 10. MD3, cursor (105,0), 41h: drawn, row 0 moved left 7, cursor (105,0).
  pub case-10 :
      ((b : ℕ) → (fed_over b font (md3 ++ cursor_set 105 0 0 0 ++ 0x41 ∷ [])).mem
      ≡ rows (98 of b ++ 0 ∷ glyph font ++ 0 ∷ 7 of 0 ++ 400 of b) (512 of b))
      × (cursor_after (fed font (md3 ++ cursor_set 105 0 0 0 ++ 0x41 ∷ [])) ≡ cursor 105 0 3)
  -- 11. Window 1 at (10,0), 14 by 1, held; 1Bh 40h: 15; then 0Ch zeroes only even addresses 20 to 46.
  pub case-11 :
      (refusal_number (held font window_one).refusal ≡ 0)
      × ((b : ℕ) → answers_to (fed_held b font window_one (0x1B ∷ 0x40 ∷ [])) ≡ 15)
      × ((b : ℕ) → (fed_held b font window_one (0x1B ∷ 0x40 ∷ [])).mem ≡ 1024 of b)
      × ((b : ℕ) → (fed_held b font window_one (0x1B ∷ 0x40 ∷ 0x0C ∷ [])).mem ≡ rows (10 of b ++ 14 of 0 ++ 488 of b) (512 of b))
  -- 12. 1Fh 24h, hold of a defined window, 41h: a character, not a cursor parameter.
  pub case-12 :
      (refusal_number (held font (window_one ++ 0x1F ∷ 0x24 ∷ [])).refusal ≡ 0)
      × ((b : ℕ) → answers_to (fed_held b font (window_one ++ 0x1F ∷ 0x24 ∷ []) (0x41 ∷ [])) ≡ 10)
      × ((b : ℕ) → (fed_held b font (window_one ++ 0x1F ∷ 0x24 ∷ []) (0x41 ∷ [])).mem
      ≡ rows (10 of b ++ 0 ∷ glyph font ++ 0 ∷ 495 of b) (512 of b))
      × ((b : ℕ) → cursor_after (fed_held b font (window_one ++ 0x1F ∷ 0x24 ∷ []) (0x41 ∷ [])) ≡ cursor 7 0 1)
