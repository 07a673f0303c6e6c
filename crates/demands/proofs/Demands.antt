-- THE THREE DEMANDS, for the 112 by 16 module and for every input. What each says stands in specs/Demands, sentence by sentence;
-- the calls of crates/panel are proved to be the five definitions named here. Assumes nothing.
use mathlib.Core.Path.{◌≡◌, refl, sym, ap, subst, subst₂, ◌∙◌}
use mathlib.Core.Bool.{Bool, true, false}
use mathlib.Core.List.{List, [], ◌∷◌, ◌++◌}
use Prim.Native.Nat.{ℕ, ◌≤◌}
use native.Mathlib.Omega.{arith}
use lib.Dec.{ltb}
use lib.ListN.{length}
use Rattle.paper.specs.declared.Settings.{Settings}
use Rattle.paper.specs.declared.Batch.{Batch}
use Rattle.paper.specs.declared.Columns.{Columns}
use Rattle.paper.specs.declared.Half.TheVariants.{Nothing}
use Rattle.paper.specs.declared.Reading.TheVariants.{GlyphEnd}
use Rattle.paper.specs.declared.State.{State}
use Rattle.paper.specs.Panel.{panel, memory_length, glass_length, font_length}
use Rattle.paper.specs.Downloads.{store_length, Faces, faces}
use Rattle.paper.specs.Numbers.{refusal_number, outcome_number}
use Rattle.paper.specs.Reading.{read_of}
use Rattle.paper.specs.Settings.{initial_state, with_half}
use Rattle.paper.specs.Bounds.{accepted}
use Rattle.paper.specs.Carry.{is_held, byte_means, byte_store}
use Rattle.paper.specs.Calls.{started, start_call, feed_call, hold_call, refresh_call}
use Rattle.paper.specs.Telegrams.{receive_call}
use Rattle.laws_marked.specs.Marked.{window_one}
use Rattle.laws_state.specs.Sized.{Sized}
use Rattle.laws_state.proofs.Views.{panel_usable}
use Rattle.laws_state.proofs.Sized.{initial_sized, start_sized}
use Rattle.laws_state.proofs.Refusals.{feed_taken}
use Rattle.laws_telegrams.specs.Places.{ReceiveAnswers, Lies, ReadsAll}
use Rattle.laws_telegrams.proofs.Places.{receive_answers, found_lies}
use Rattle.laws_telegrams.proofs.Onward.{reads_all}
use Rattle.laws_glass.specs.Synced.{Synced}
use Rattle.laws_glass.proofs.Glass.{erased-synced}
use Rattle.demands.specs.Events.{Event, refresh, joined, StateRecord, play}
use Rattle.demands.specs.Demands.{StartAnswers, FeedAnswers, hold_number, HoldAnswers, ReleaseAnswers, RefreshAnswers, ByteFed, ByteAnswers, DefineEnds, OnlyAnswered, PieceFed, InStep, Served, window_fed, window_held, BegunInStep, some_font, some_memory, some_downloads, some_glass}
use Rattle.demands.specs.Links.{LinkFed}
use Rattle.demands.proofs.Links.{link_fed}
use Rattle.demands.proofs.Calls.{start_answers, feed_answers, hold_answers, release_answers, refresh_answers}
use Rattle.demands.proofs.Outcomes.{byte-answers}
use Rattle.demands.proofs.Defines.{define_ends}
use Rattle.demands.proofs.Feeds.{byte-fed, byte_answered, piece_fed}
use Rattle.demands.proofs.Events.{served, feed_in_step, holds_in_step}
use Rattle.demands.proofs.Begun.{holdable, as_initial, starts, window_kept, window_memory}

-- ==== DEMAND 1: every input gets exactly one answer, given exactly when its row says; a refusal changes nothing

pub demand_1_start : (m ds : List ℕ) → StartAnswers panel m ds
demand_1_start = start_answers panel

pub demand_1_feed : (font : List ℕ) (s : State) (ds m bytes : List ℕ) → FeedAnswers panel font s ds m bytes
demand_1_feed = feed_answers panel

pub demand_1_hold : (s : State) (ds : List ℕ) (k : ℕ) → HoldAnswers panel s ds k
demand_1_hold = hold_answers panel

pub demand_1_release : (s : State) (ds : List ℕ) → ReleaseAnswers panel s ds
demand_1_release = release_answers panel

pub demand_1_refresh : (s : State) (ds m glass : List ℕ) → RefreshAnswers panel s ds m glass
demand_1_refresh = refresh_answers panel

-- ==== DEMAND 2: feeding single bytes shows every outcome; a fed piece is the fold

module _ (font : List ℕ) (s : State) (ds : List ℕ) where
  -- the font and the downloads
  abbrev f : Faces
  f = faces font ds

  -- the outcome of a byte is given exactly when its row says
  pub demand_2_outcome : (b : ℕ)
      → ByteAnswers panel ds (with_half s Nothing) (read_of panel s.half b) (byte_means panel f s b) (byte_store panel f s b)
  demand_2_outcome = byte-answers panel f s

  module _ (m : List ℕ) (memory : length m ≡ memory_length panel) (fonts : length font ≡ font_length panel) (ok : accepted panel s ds ≡ true) where
    -- a byte fed by itself shows all that document 01 has it come to
    pub demand_2_byte : (b : ℕ) → ByteFed panel m (byte_means panel f s b) (byte_store panel f s b) (feed_call panel font s ds m (b ∷ []))
    unfolding panel
    demand_2_byte = byte-fed panel font s ds m (feed_taken panel font s ds m memory fonts ok)

    -- and one that is answered 11 to 19 changes nothing
    pub demand_2_answered : (b : ℕ) → 11 ≤ outcome_number (feed_call panel font s ds m (b ∷ [])).answer.outcome
        → OnlyAnswered s ds m (feed_call panel font s ds m (b ∷ []))
    unfolding panel
    demand_2_answered = byte_answered panel font s ds m (feed_taken panel font s ds m memory fonts ok)

    -- a define read to its end outside a hold: 18 exactly if one of its codes is not stored
    pub demand_2_define : (b : ℕ) (d : Batch) (n : Bool) (c : Columns) → is_held s.hold ≡ false
        → read_of panel s.half b ≡ GlyphEnd d n c → ltb d.code d.last ≡ false
        → DefineEnds d (byte_means panel f s b) (byte_store panel f s b)
    demand_2_define b d n c = define_ends panel f s b d n c ok

    -- a piece is the fold of its bytes, and what they show one by one
    pub demand_2_piece : (bytes : List ℕ) → PieceFed panel font s ds m bytes
    unfolding panel
    demand_2_piece bytes = piece_fed panel font panel_usable s ds m bytes memory fonts ok

-- ---- order 4: "Feeding the data follows demand 2"

-- what a call answers, number by number
pub order_4_answers : (piece : List ℕ) (address : ℕ) → ReceiveAnswers piece address
order_4_answers = receive_answers

-- what is handed back lies between the telegram's 02h and its 03h
pub order_4_lies : (piece : List ℕ) (address : ℕ) → refusal_number (receive_call piece address).refusal ≡ 0 → Lies piece (receive_call piece address)
order_4_lies = found_lies

-- reading on gives a piece's telegrams for an address
pub order_4_reads : (address : ℕ) → address ≤ 15 → (piece : List ℕ) → ReadsAll address piece
order_4_reads = reads_all

-- and what their data come to, fed from where they lie
pub order_4_fed : (font : List ℕ) (s : State) (ds m : List ℕ) (address : ℕ) → LinkFed panel font s ds m address
order_4_fed = link_fed panel panel_usable

-- ==== DEMAND 3: pieces cut anywhere and refreshes anywhere, in a window that is held

pub demand_3 : (font : List ℕ) (k back : ℕ) (v : Settings) (s : State) (ds m glass : List ℕ) → InStep panel font k back v s ds m glass
    → (events : List Event)
    → Served panel font k back v s ds m glass events (play panel font s ds m glass events) (feed_call panel font s ds m (joined events))
    (play panel font s ds m glass (events ++ refresh ∷ []))
demand_3 = served panel panel_usable

-- ---- and it can be begun: from the start on the glass shows memory wherever no span is, and then a hold and a refresh

-- any glass does after a start
pub demand_3_start : (m glass : List ℕ) → Synced panel m glass (started panel).spans
demand_3_start m glass =
    let u = panel_usable in
    erased-synced panel m glass (initial_state panel).spans (initial_sized panel).spans (omega arith)

-- and still does after a feed
pub demand_3_feed : (font : List ℕ) (s : State) (ds m glass bytes : List ℕ) → Sized panel s → Synced panel m glass s.spans
    → let f = feed_call panel font s ds m bytes in Synced panel f.mem glass f.answer.state.spans
demand_3_feed = feed_in_step panel panel_usable

-- a hold that is not refused, and then a refresh
pub demand_3_hold : (font : List ℕ) (s : State) (ds : List ℕ) (k : ℕ) (m glass : List ℕ) → length font ≡ font_length panel
    → length m ≡ memory_length panel → length glass ≡ glass_length panel → Synced panel m glass s.spans → hold_number panel s ds k ≡ 0
    → let r = refresh_call panel (hold_call panel s ds k).state ds m glass in
    InStep panel font k s.selected s.settings r.answer.state ds m r.glass
unfolding panel
demand_3_hold = holds_in_step panel panel_usable

-- so a panel that is started, fed a define, held and refreshed is in step, whatever is lent
pub demand_3_begun : (font m ds glass : List ℕ) → length font ≡ font_length panel → length m ≡ memory_length panel → length ds ≡ store_length
    → length glass ≡ glass_length panel → BegunInStep font m ds glass
demand_3_begun font m ds glass fonts memory room size =
    let a = start_call panel m ds in
    let f = window_fed font m ds in
    let e = window_kept font m ds fonts memory room in
    let begun =
    subst (λ (t : State). Synced panel a.mem glass t.spans) (sym (starts m ds memory).0) (demand_3_start a.mem glass) in
    let synced = demand_3_feed font a.answer.state a.store a.mem glass window_one (start_sized panel m ds) begun in
    subst₂
    (λ (back : ℕ) (v : Settings).
    let r = window_held font m ds glass in InStep panel font 1 back v r.answer.state f.store f.mem r.glass)
    (ap (λ (t : StateRecord). t.state.selected) e ∙ (as_initial font).0)
    (ap (λ (t : StateRecord). t.state.settings) e ∙ (as_initial font).1)
    (demand_3_hold font f.answer.state f.store 1 f.mem glass fonts (window_memory font m ds fonts memory room) size synced
    (ap (λ (t : StateRecord). hold_number panel t.state t.downloads 1) e ∙ holdable font))

-- with nothing assumed
pub demand_3_met : BegunInStep some_font some_memory some_downloads some_glass
unfolding panel
demand_3_met = demand_3_begun some_font some_memory some_downloads some_glass refl refl refl refl
