-- THE DEMANDS FROM C, for every input: what each says stands in specs/Demands, sentence by sentence; the calls of crates/panel_c are
-- proved to be the five definitions named there. Assumes nothing.
use mathlib.Core.Path.{◌≡◌, refl}
use mathlib.Core.Bool.{true}
use mathlib.Core.List.{List, [], ◌∷◌, ◌++◌}
use Prim.Native.Nat.{ℕ}
use lib.ListN.{length}
use Rattle.paper.specs.declared.Settings.{Settings}
use Rattle.paper.specs.Panel.{panel, memory_length, glass_length, font_length}
use Rattle.paper.specs.Bounds.{accepted}
use Rattle.paper.specs.Calls.{feed_call}
use Rattle.demands.specs.Events.{Event, refresh, joined, play}
use Rattle.demands.specs.Demands.{InStep, some_font, some_memory, some_glass}
use Rattle.record_bytes.specs.Bytes.{record_length}
use Rattle.record_read.specs.Record.{state_in, store_in}
use Rattle.face.specs.Face.{feed_c}
use Rattle.demands_c.specs.Plays.{play_c, SamePlay}
use Rattle.demands_c.specs.Demands.{StartAnswersC, FeedAnswersC, HoldAnswersC, ReleaseAnswersC, RefreshAnswersC, PieceFedC, ServedC, BegunInStepC, some_record}
use Rattle.demands_c.proofs.Calls.{start_answers_c, feed_answers_c, hold_answers_c, release_answers_c, refresh_answers_c, piece_fed_c}
use Rattle.demands_c.proofs.Plays.{same-play, served_c}
use Rattle.demands_c.proofs.Begun.{begun_in_step_c}

-- ==== DEMAND 1: every input gets exactly one answer, given exactly when its row says; a refusal changes nothing

pub demand_1_start_c : (l m : List ℕ) → StartAnswersC l m
demand_1_start_c = start_answers_c

pub demand_1_feed_c : (l m font bytes : List ℕ) → FeedAnswersC l m font bytes
demand_1_feed_c = feed_answers_c

pub demand_1_hold_c : (l : List ℕ) (k : ℕ) → HoldAnswersC l k
demand_1_hold_c = hold_answers_c

pub demand_1_release_c : (l : List ℕ) → ReleaseAnswersC l
demand_1_release_c = release_answers_c

pub demand_1_refresh_c : (l m glass : List ℕ) → RefreshAnswersC l m glass
demand_1_refresh_c = refresh_answers_c

-- ==== DEMAND 2: what is fed from C is document 01's feed of the state that the record stands for, with its downloads

pub demand_2_c : (l m font bytes : List ℕ) → length m ≡ memory_length panel → length font ≡ font_length panel → accepted panel (state_in l) (store_in l) ≡ true
    → PieceFedC (feed_call panel font (state_in l) (store_in l) m bytes) (feed_c panel l m font bytes)
demand_2_c = piece_fed_c

-- ==== DEMAND 3: pieces cut anywhere and refreshes anywhere, in a window that is held

pub demand_3_c : (font : List ℕ) (k back : ℕ) (v : Settings) (l m glass : List ℕ)
    → InStep panel font k back v (state_in l) (store_in l) m glass
    → (events : List Event)
    → ServedC font k back v l m glass events (play_c font l m glass events) (feed_c panel l m font (joined events))
    (play_c font l m glass (events ++ refresh ∷ []))
demand_3_c = served_c

-- from any bytes of a record's length, held or not, calls in a row are document 01's calls in a row
pub demand_3_paper_c : (font : List ℕ) (events : List Event) (l m glass : List ℕ) → length l ≡ record_length
    → SamePlay (play panel font (state_in l) (store_in l) m glass events) (play_c font l m glass events)
demand_3_paper_c = same-play

-- ---- and it can be begun: a panel that is started, fed a define, held and refreshed is in step, whatever is lent

pub demand_3_begun_c : (font l m glass : List ℕ) → length l ≡ record_length → length font ≡ font_length panel → length m ≡ memory_length panel
    → length glass ≡ glass_length panel → BegunInStepC font l m glass
demand_3_begun_c = begun_in_step_c

-- with nothing assumed
pub demand_3_met_c : BegunInStepC some_font some_record some_memory some_glass
unfolding panel
demand_3_met_c = demand_3_begun_c some_font some_record some_memory some_glass refl refl refl refl
