-- The demands on the five calls as C makes them: the state with its downloads is a record of bytes, and every number is one that C
-- sees. proofs/Demands shows each of them. `stateIn l` is the state that record l stands for, `storeIn l` are the downloads in it, and
-- `recordIn l` is both. Assumes nothing.
use Rattle.std.specs.Prelude.{◌≡◌, ◌↔◌, ◌≢◌, true, false, List, [], ◌∷◌, ◌++◌, ℕ, ◌≤◌, length, get_or, replicate}
use Rattle.paper.specs.declared.Settings.{Settings}
use Rattle.paper.specs.Panel.{panel, memory_length, glass_length, font_length}
use Rattle.paper.specs.Downloads.{all_erased}
use Rattle.paper.specs.Strokes.{apply_all, refreshed, shown_all}
use Rattle.paper.specs.Numbers.{outcome_number}
use Rattle.paper.specs.Reading.{between}
use Rattle.paper.specs.Settings.{initial_settings, initial_state, with_spans, window_at, is_defined}
use Rattle.paper.specs.Bounds.{accepted}
use Rattle.paper.specs.Cells.{erase_stroke}
use Rattle.paper.specs.Carry.{is_held}
use Rattle.paper.specs.Calls.{Feeding, started, held_by, released, emptied}
use Rattle.laws_marked.specs.Marked.{window_one}
use Rattle.laws_state.specs.Guest.{Guest, OnlyInside}
use Rattle.demands.specs.Events.{Event, refresh, state_record, spans_since, owed, visible}
use Rattle.demands.specs.Demands.{one_of, InStep, RefreshedAt}
use Rattle.record_bytes.specs.Bytes.{record_length, record_of}
use Rattle.record_read.specs.Record.{state_in, store_in}
use Rattle.face.specs.Face.{start_c, FeedingC, feed_c, hold_c, release_c, RefreshingC, refresh_c}
use Rattle.face.proofs.Laws.{NoState}
use Rattle.demands_c.specs.Plays.{record_in, PlayC, play_c}

-- ==== DEMAND 1. "Any bytes, buffers and state record may be handed in. Each call answers or refuses by document 01's numbers,
-- in its order. A refused call changes no lent byte and hands the state back unchanged."
-- Every number is given exactly when its row holds and none that is tested before it does; 0 is a call that is not refused.
-- 100 is tested first: the caller's buffer for the record is not 259 bytes long (`recordLength`), for which document 01 has no number.
-- `NoState l`: the bytes are no record of an accepted state and its downloads.

-- ---- "Start: 1."

pub record StartAnswersC (l m : List ℕ) : Type 0 where
  pub listed : one_of (100 ∷ 0 ∷ 1 ∷ []) (start_c panel l m).answer ≡ true
  pub number_100 : ((start_c panel l m).answer ≡ 100) ↔ (length l ≢ record_length)
  -- 1: "memory is not 1,024 bytes"
  pub number_1 : ((start_c panel l m).answer ≡ 1) ↔ ((length l ≡ record_length) × (length m ≢ memory_length panel))
  pub number_0 : ((start_c panel l m).answer ≡ 0) ↔ ((length l ≡ record_length) × (length m ≡ memory_length panel))
  -- a buffer of another length is left alone
  pub wrong : (start_c panel l m).answer ≡ 100 → ((start_c panel l m).state ≡ l) × ((start_c panel l m).mem ≡ m)
  -- "Start takes no state; refused, it gives the initial state with both spans empty", with no downloads, and the memory does not change
  pub refused : (start_c panel l m).answer ≡ 1
      → ((start_c panel l m).state ≡ record_of (initial_state panel) (all_erased (store_in l))) × ((start_c panel l m).mem ≡ m)
  -- "Start does the same [as initialise] and marks all as written."; "Initialise erases all."
  pub taken : (start_c panel l m).answer ≡ 0
      → ((start_c panel l m).state ≡ record_of (started panel) (all_erased (store_in l)))
      × ((start_c panel l m).mem ≡ apply_all panel m (erase_stroke panel ∷ []))

-- ---- "Feed: 1, 2, 8."

-- "nothing lent and nothing in the state changes, and every count given back is 0", and the outcome is 9
pub record NothingFedC (l m : List ℕ) (f : FeedingC) : Type 0 where
  pub state : f.state ≡ l
  pub mem : f.mem ≡ m
  pub carried : f.answer.carried ≡ 0
  pub answered : f.answer.answered ≡ 0
  pub outcome : f.answer.outcome ≡ 9

pub record FeedAnswersC (l m font bytes : List ℕ) : Type 0 where
  pub listed : one_of (100 ∷ 0 ∷ 1 ∷ 2 ∷ 8 ∷ []) (feed_c panel l m font bytes).answer.answer ≡ true
  pub number_100 : ((feed_c panel l m font bytes).answer.answer ≡ 100) ↔ (length l ≢ record_length)
  -- 1: "memory is not 1,024 bytes"
  pub number_1 : ((feed_c panel l m font bytes).answer.answer ≡ 1) ↔ ((length l ≡ record_length) × (length m ≢ memory_length panel))
  -- 2: "font is not 1,120 bytes"
  pub number_2 : ((feed_c panel l m font bytes).answer.answer ≡ 2)
      ↔ ((length l ≡ record_length) × ((length m ≡ memory_length panel) × (length font ≢ font_length panel)))
  -- 8: "state record breaks a bound of this paper"
  pub number_8 : ((feed_c panel l m font bytes).answer.answer ≡ 8)
      ↔ ((length l ≡ record_length) × ((length m ≡ memory_length panel) × ((length font ≡ font_length panel) × NoState panel l)))
  pub number_0 : ((feed_c panel l m font bytes).answer.answer ≡ 0)
      ↔ ((length l ≡ record_length) × ((length m ≡ memory_length panel) × ((length font ≡ font_length panel) × (accepted panel (state_in l) (store_in l) ≡ true))))
  pub refused : (feed_c panel l m font bytes).answer.answer ≢ 0 → NothingFedC l m (feed_c panel l m font bytes)

-- ---- "Hold: 8, 6, 4, 5."

pub record HoldAnswersC (l : List ℕ) (k : ℕ) : Type 0 where
  pub listed : one_of (100 ∷ 0 ∷ 8 ∷ 6 ∷ 4 ∷ 5 ∷ []) (hold_c panel l k).answer ≡ true
  pub number_100 : ((hold_c panel l k).answer ≡ 100) ↔ (length l ≢ record_length)
  -- 8: "state record breaks a bound of this paper"
  pub number_8 : ((hold_c panel l k).answer ≡ 8) ↔ ((length l ≡ record_length) × NoState panel l)
  -- 6: "hold while held"
  pub number_6 : ((hold_c panel l k).answer ≡ 6)
      ↔ ((length l ≡ record_length) × ((accepted panel (state_in l) (store_in l) ≡ true) × (is_held (state_in l).hold ≡ true)))
  -- 4: "window to hold is not 1 to 4"
  pub number_4 : ((hold_c panel l k).answer ≡ 4)
      ↔ ((length l ≡ record_length) × ((accepted panel (state_in l) (store_in l) ≡ true) × ((is_held (state_in l).hold ≡ false)
      × (between 1 4 k ≡ false))))
  -- 5: "window to hold is not defined"
  pub number_5 : ((hold_c panel l k).answer ≡ 5)
      ↔ ((length l ≡ record_length) × ((accepted panel (state_in l) (store_in l) ≡ true) × ((is_held (state_in l).hold ≡ false)
      × ((between 1 4 k ≡ true) × (is_defined (window_at (state_in l).windows k) ≡ false)))))
  pub number_0 : ((hold_c panel l k).answer ≡ 0)
      ↔ ((length l ≡ record_length) × ((accepted panel (state_in l) (store_in l) ≡ true) × ((is_held (state_in l).hold ≡ false)
      × ((between 1 4 k ≡ true) × (is_defined (window_at (state_in l).windows k) ≡ true)))))
  pub refused : (hold_c panel l k).answer ≢ 0 → (hold_c panel l k).state ≡ l
  -- "Hold k drops a half-read command, saves all settings and the selected window, and selects k."
  pub taken : (hold_c panel l k).answer ≡ 0 → (hold_c panel l k).state ≡ record_of (held_by (state_in l) k) (store_in l)

-- ---- "Release: 8, 7."

pub record ReleaseAnswersC (l : List ℕ) : Type 0 where
  pub listed : one_of (100 ∷ 0 ∷ 8 ∷ 7 ∷ []) (release_c panel l).answer ≡ true
  pub number_100 : ((release_c panel l).answer ≡ 100) ↔ (length l ≢ record_length)
  -- 8: "state record breaks a bound of this paper"
  pub number_8 : ((release_c panel l).answer ≡ 8) ↔ ((length l ≡ record_length) × NoState panel l)
  -- 7: "release while not held"
  pub number_7 : ((release_c panel l).answer ≡ 7)
      ↔ ((length l ≡ record_length) × ((accepted panel (state_in l) (store_in l) ≡ true) × (is_held (state_in l).hold ≡ false)))
  pub number_0 : ((release_c panel l).answer ≡ 0)
      ↔ ((length l ≡ record_length) × ((accepted panel (state_in l) (store_in l) ≡ true) × (is_held (state_in l).hold ≡ true)))
  pub refused : (release_c panel l).answer ≢ 0 → (release_c panel l).state ≡ l
  -- "Release drops a half-read command and puts the saved settings and selection back"
  pub taken : (release_c panel l).answer ≡ 0 → (release_c panel l).state ≡ record_of (released (state_in l)) (store_in l)

-- ---- "Refresh: 1, 3, 8."

pub record RefreshAnswersC (l m glass : List ℕ) : Type 0 where
  pub listed : one_of (100 ∷ 0 ∷ 1 ∷ 3 ∷ 8 ∷ []) (refresh_c panel l m glass).answer.answer ≡ true
  pub number_100 : ((refresh_c panel l m glass).answer.answer ≡ 100) ↔ (length l ≢ record_length)
  -- 1: "memory is not 1,024 bytes"
  pub number_1 : ((refresh_c panel l m glass).answer.answer ≡ 1) ↔ ((length l ≡ record_length) × (length m ≢ memory_length panel))
  -- 3: "glass is not 224 bytes"
  pub number_3 : ((refresh_c panel l m glass).answer.answer ≡ 3)
      ↔ ((length l ≡ record_length) × ((length m ≡ memory_length panel) × (length glass ≢ glass_length panel)))
  -- 8: "state record breaks a bound of this paper"
  pub number_8 : ((refresh_c panel l m glass).answer.answer ≡ 8)
      ↔ ((length l ≡ record_length) × ((length m ≡ memory_length panel) × ((length glass ≡ glass_length panel) × NoState panel l)))
  pub number_0 : ((refresh_c panel l m glass).answer.answer ≡ 0)
      ↔ ((length l ≡ record_length) × ((length m ≡ memory_length panel) × ((length glass ≡ glass_length panel) × (accepted panel (state_in l) (store_in l) ≡ true))))
  -- the record and the glass stay, and the count is 0
  pub refused : (refresh_c panel l m glass).answer.answer ≢ 0
      → ((refresh_c panel l m glass).state ≡ l) × ((refresh_c panel l m glass).answer.moved ≡ 0) × ((refresh_c panel l m glass).glass ≡ glass)
  -- "Refresh copies each span's visible columns, changes no other glass byte, empties both spans, and reports the number of
  -- bytes moved, which is the sum of the visible span lengths"
  pub taken : (refresh_c panel l m glass).answer.answer ≡ 0
      → ((refresh_c panel l m glass).state ≡ record_of (emptied panel (state_in l)) (store_in l))
      × ((refresh_c panel l m glass).answer.moved ≡ shown_all panel (state_in l).spans)
      × ((refresh_c panel l m glass).glass ≡ refreshed panel m (state_in l).spans glass)

-- ==== DEMAND 2. A feed that is not refused gives what document 01's feed gives, of which the demand speaks.

-- f is document 01's feed, c the feed from C
pub record PieceFedC (f : Feeding) (c : FeedingC) : Type 0 where
  pub answer : c.answer.answer ≡ 0
  pub outcome : c.answer.outcome ≡ outcome_number f.answer.outcome
  pub carried : c.answer.carried ≡ f.answer.carried
  pub answered : c.answer.answered ≡ f.answer.answered
  pub mem : c.mem ≡ f.mem
  -- the record is that of the state and its downloads, and stands for them
  pub state : c.state ≡ record_of f.answer.state f.store
  pub stands : record_in c.state ≡ state_record f.answer.state f.store

-- ==== DEMAND 3. "From any accepted state with a user window held and the glass in step, any bytes, cut anywhere, with refreshes
-- anywhere between, give what document 01 gives for the joined bytes; no cell outside the window changes, its cursor stays
-- inside; after a last refresh the glass equals the visible memory, and each refresh moved only the spans written since the one
-- before."

-- what is begun with: `InStep` of the state that the record stands for, with its downloads

-- p is what the pieces and refreshes come to, one is what the joined bytes come to, fed at once, and last is p with one more
-- refresh
pub record ServedC (font : List ℕ) (k back : ℕ) (v : Settings) (l m glass : List ℕ) (events : List Event) (p : PlayC)
    (one : FeedingC) (last : PlayC) : Type 0 where
  -- no call is refused
  pub answers : p.answers ≡ replicate (length events) 0
  -- "what document 01 gives for the joined bytes": memory, the summed counts, and the state that the record stands for; its spans
  -- hold what was written since the last refresh
  pub mem : p.mem ≡ one.mem
  pub carried : p.carried ≡ one.answer.carried
  pub answered : p.answered ≡ one.answer.answered
  pub state : state_in p.state ≡ with_spans (state_in one.state) (spans_since panel font (record_in l) [] events)
  -- "no cell outside the window changes"
  pub outside : OnlyInside panel k (state_in l) m p.mem
  -- "its cursor stays inside", and its rectangle, the hold, the selection, the base and the other windows are as they were
  pub guest : Guest k back v (state_in l) (state_in p.state)
  -- "While held, define and erase .. store or erase nothing"
  pub downloads : store_in p.state ≡ store_in l
  -- "after a last refresh the glass equals the visible memory"
  pub shows : last.glass ≡ visible panel p.mem
  -- "each refresh moved only the spans written since the one before", wherever it stands among the events
  pub each : (before after : List Event) → events ≡ before ++ refresh ∷ after
      → let b = play_c font l m glass before in
      let r = refresh_c panel b.state b.mem b.glass in
      RefreshedAt panel (spans_since panel font (record_in l) [] before) b r.answer.answer r.answer.moved r.glass
      (play_c font r.state b.mem r.glass after) p
  -- as many bytes as these have, "224 at most"
  pub moved : p.moved ≡ owed panel font (record_in l) [] events
  pub most : (i : ℕ) → get_or p.moved i 0 ≤ glass_length panel

-- ---- one panel that is begun with: started, fed the define of marked case 11, its window held, and refreshed

abbrev pub window_fed_c : (font l m : List ℕ) → FeedingC
window_fed_c font l m = let a = start_c panel l m in feed_c panel a.state a.mem font window_one

abbrev pub window_held_c : (font l m glass : List ℕ) → RefreshingC
window_held_c font l m glass =
    let f = window_fed_c font l m in refresh_c panel (hold_c panel f.state 1).state f.mem glass

abbrev pub BegunInStepC : (font l m glass : List ℕ) → Type 0
BegunInStepC font l m glass =
    let r = window_held_c font l m glass in
    InStep panel font 1 0 (initial_settings panel) (state_in r.state) (store_in r.state) (window_fed_c font l m).mem r.glass

-- a caller's buffer for the record
abbrev pub some_record : List ℕ
some_record = replicate record_length 0xAA
